-- Reading a policy one lexeme after another: what is still awaited, and what a lexeme makes of it. No promise speaks of this; it is
-- the hinge between the grammar and the readers.
use Rattle.std.specs.Prelude.{if◌then◌else◌, ℕ, zero, suc, ◌+◌, Bool, true, false, ◌&&◌, ◌||◌, ◌==◌, codes, bytes_eq, List, [], ◌∷◌, ◌++◌, Option, Some, None, Result, Err, nat_lt, length, ok_or}
use Rattle.merlin_model.specs.declared.policy.Bound.{Bound}
use Rattle.merlin_model.specs.declared.policy.Bound.TheVariants.{Max, Min}
use Rattle.merlin_model.specs.declared.policy.Part.{Part}
use Rattle.merlin_model.specs.declared.policy.Part.TheVariants.{Id, Constant}
use Rattle.merlin_model.specs.declared.policy.Pred.{Pred, Yes, No, Test as Tests, Not}
use Rattle.merlin_text.specs.declared.token.Word.{Word}
use Rattle.merlin_text.specs.declared.token.Word.TheVariants as words
use Rattle.merlin_text.specs.declared.token.Sign.{Sign}
use Rattle.merlin_text.specs.declared.token.Sign.TheVariants as signs
use Rattle.policy_grammar.specs.declared.limits.TheConstants.{MAX_NESTING, MAX_PATH_NAMES, MAX_TESTS}
use Rattle.policy_grammar.specs.declared.written.Literal.{Literal}
use Rattle.policy_grammar.specs.declared.written.Literal.TheVariants.{Mac, Ip}
use Rattle.policy_grammar.specs.declared.written.Limit.{Limit}
use Rattle.policy_grammar.specs.declared.written.RawPath.{RawPath, Dot, Named, Star, Not as NotPath}
use Rattle.policy_grammar.specs.declared.written.Tested.{Tested}
use Rattle.policy_grammar.specs.declared.written.Tested.TheVariants as tested
use Rattle.policy_grammar.specs.declared.written.WrittenSet.{WrittenSet}
use Rattle.policy_grammar.specs.declared.written.WrittenStatement.{WrittenStatement}
use Rattle.policy_grammar.specs.declared.written.Item.{Item}
use Rattle.policy_grammar.specs.declared.written.Item.TheVariants.{One, ForEach}
use Rattle.policy_grammar.specs.declared.written.WrittenPolicy.{WrittenPolicy}
use Rattle.policy_grammar.specs.Lexemes.{Lexeme, name, word, sign, rate, mac, ip}
use Rattle.policy_grammar.specs.Predicates.{all_of, any_of, test_of}
use Rattle.policy_grammar.specs.PathTexts.{one_or_cat, one_or_alt}

-- what was read before an item of the list: the sets and the items so far
pub record Head : Type 0 where
  pub sets : List WrittenSet
  pub items : List Item

-- a statement's own head: the two sets of its `foreach`, if it has one, and its id
pub record Heading : Type 0 where
  pub head : Head
  pub pair : Option (List ℕ × List ℕ)
  pub id : List ℕ

-- a statement up to its path, with the limits read so far
pub record Opened : Type 0 where
  pub heading : Heading
  pub pred : Pred
  pub path : RawPath
  pub limits : List Limit

-- What is awaited, innermost first.
pub data Awaited : Type 0 where
  -- this sign, this word, or any name
  this_sign : Sign → Awaited
  this_word : Word → Awaited
  any_name : Awaited
  -- a literal of a predicate; then its bang, its conjunction, its disjunction, the whole predicate, its bracket
  literal : Awaited
  negation : Awaited
  lits : List Pred → Awaited
  conjs : List Pred → Awaited
  whole_pred : Pred → Awaited
  bracket : Awaited
  -- the second name of a field, and the value of a test
  second : List ℕ → Awaited
  value_of : Tested → Awaited
  -- a rep of a path; a prim that is read, with a star after it or without; then its bang, its sequence, its alternatives,
  -- the whole path, its bracket
  rep : Awaited
  prim : RawPath → Bool → Awaited
  path_negation : Awaited
  reps : List RawPath → Awaited
  alts : List RawPath → Awaited
  whole_path : RawPath → Awaited
  path_bracket : Awaited
  -- a set or the list; the first literal of a set or its end, more of it, one more literal
  sets : List WrittenSet → Awaited
  set_start : List WrittenSet → List ℕ → Awaited
  set_rest : List WrittenSet → List ℕ → List Literal → Awaited
  set_more : List WrittenSet → List ℕ → List Literal → Awaited
  -- an item or the end of the list; the sets of a `foreach`, the id of its statement
  item : Head → Awaited
  outer_set : Head → Awaited
  inner_set : Head → List ℕ → Awaited
  each_id : Head → List ℕ → List ℕ → Awaited
  -- a statement's predicate, and its path
  statement_pred : Heading → Awaited
  statement_path : Heading → Pred → Awaited
  default_path : Head → Awaited
  -- a limit, its rate, what may follow it
  limit : Opened → Awaited
  limit_rate : Opened → Bound → Awaited
  limit_rest : Opened → Awaited
  -- after the list, or after a term: the end, or more
  formula : WrittenPolicy → Awaited
  terms_rest : WrittenPolicy → Awaited
  -- a term; the rates before its first id; what may follow a summand; a summand; the rate of the term
  term : WrittenPolicy → Awaited
  leading : WrittenPolicy → Bound → List Part → Awaited
  sum_rest : WrittenPolicy → Bound → List Part → Awaited
  summand : WrittenPolicy → Bound → List Part → Awaited
  term_rate : WrittenPolicy → Bound → List Part → Awaited

pub record State : Type 0 where
  pub awaited : List Awaited
  -- how many tests of the predicate, or names and dots of the path, may still come
  pub left : ℕ

abbrev pub on : List Awaited → ℕ → Option State
on k n = Some (record { awaited = k; left = n })

-- how many bangs and brackets are open
abbrev pub opens_of : Awaited → ℕ
opens_of negation = 1
opens_of bracket = 1
opens_of path_negation = 1
opens_of path_bracket = 1
opens_of _ = 0

abbrev pub opens : List Awaited → ℕ
opens [] = 0
opens (a ∷ k) = opens_of a + opens k

-- Signs and words are told apart by numbers.

abbrev pub sign_number : Sign → ℕ
sign_number signs.Becomes = 0
sign_number signs.Arrow = 1
sign_number signs.OpenList = 2
sign_number signs.CloseList = 3
sign_number signs.OpenGroup = 4
sign_number signs.CloseGroup = 5
sign_number signs.OpenSet = 6
sign_number signs.CloseSet = 7
sign_number signs.Colon = 8
sign_number signs.Semicolon = 9
sign_number signs.Comma = 10
sign_number signs.Equals = 11
sign_number signs.Plus = 12
sign_number signs.Star = 13
sign_number signs.Bang = 14
sign_number signs.Dot = 15
sign_number signs.Bar = 16

abbrev pub word_number : Word → ℕ
word_number words.True = 0
word_number words.False = 1
word_number words.And = 2
word_number words.Or = 3
word_number words.Foreach = 4
word_number words.In = 5
word_number words.Cross = 6
word_number words.Default = 7
word_number words.At = 8
word_number words.Max = 9
word_number words.Min = 10

-- Predicates.

-- a literal is read: it ends the bangs before it
abbrev pub put : Pred → List Awaited → List Awaited
put p (negation ∷ k) = put (Not p) k
put p (lits ps ∷ k) = lits (ps ++ p ∷ []) ∷ k
put p k = k

abbrev pub is_first : List ℕ → Bool
is_first a = bytes_eq a (codes "eth") || bytes_eq a (codes "ip") || bytes_eq a (codes "tcp") || bytes_eq a (codes "udp")

abbrev pub field_at : List ℕ → List ℕ → Option Tested
field_at a b =
    if bytes_eq a (codes "eth") && bytes_eq b (codes "src") then Some tested.EthSrc
    else if bytes_eq a (codes "eth") && bytes_eq b (codes "dst") then Some tested.EthDst
    else if bytes_eq a (codes "ip") && bytes_eq b (codes "src") then Some tested.IpSrc
    else if bytes_eq a (codes "ip") && bytes_eq b (codes "dst") then Some tested.IpDst
    else if bytes_eq a (codes "ip") && bytes_eq b (codes "proto") then Some tested.IpProto
    else if bytes_eq a (codes "tcp") && bytes_eq b (codes "src") then Some tested.TcpSrc
    else if bytes_eq a (codes "tcp") && bytes_eq b (codes "dst") then Some tested.TcpDst
    else if bytes_eq a (codes "udp") && bytes_eq b (codes "src") then Some tested.UdpSrc
    else if bytes_eq a (codes "udp") && bytes_eq b (codes "dst") then Some tested.UdpDst
    else None

abbrev pub then_some : {A B : Type 0} → Option A → (A → Option B) → Option B
then_some None f = None
then_some (Some x) f = f x

-- a whole predicate ends its bracket, or stands before the arrow
abbrev pub feed_pred : Pred → List Awaited → ℕ → Lexeme → Option State
feed_pred p (bracket ∷ k) n (sign signs.CloseGroup) = on (put p k) n
feed_pred p (statement_pred h ∷ k) n (sign signs.Arrow) = on (rep ∷ reps [] ∷ alts [] ∷ statement_path h p ∷ k) MAX_PATH_NAMES
feed_pred _ _ _ _ = None

-- after a conjunction `or` goes on; all else ends the predicate
abbrev pub feed_conjs : List Pred → List Awaited → ℕ → Lexeme → Option State
feed_conjs ps k n (word words.Or) = on (literal ∷ lits [] ∷ conjs ps ∷ k) n
feed_conjs ps k n t = feed_pred (any_of ps) k n t

-- after a literal `and` goes on; all else ends the conjunction
abbrev pub feed_lits : List Pred → List Awaited → ℕ → Lexeme → Option State
feed_lits ls k n (word words.And) = on (literal ∷ lits ls ∷ k) n
feed_lits ls (conjs ps ∷ k) n t = feed_conjs (ps ++ all_of ls ∷ []) k n t
feed_lits _ _ _ _ = None

abbrev pub feed_literal : List Awaited → ℕ → Lexeme → Option State
feed_literal k n (sign signs.Bang) = if nat_lt (opens k) MAX_NESTING then on (literal ∷ negation ∷ k) n else None
feed_literal k n (sign signs.OpenGroup) = if nat_lt (opens k) MAX_NESTING then on (literal ∷ lits [] ∷ conjs [] ∷ bracket ∷ k) n else None
feed_literal k n (word words.True) = on (put Yes k) n
feed_literal k n (word words.False) = on (put No k) n
feed_literal k (suc n) (name a _) = if is_first a then on (this_sign signs.Dot ∷ second a ∷ k) n else None
feed_literal k n t = None

abbrev pub feed_second : List ℕ → List Awaited → ℕ → Lexeme → Option State
feed_second a k n (name b _) = then_some (field_at a b) (λ f. on (this_sign signs.Equals ∷ value_of f ∷ k) n)
feed_second a k n _ = None

abbrev pub feed_value : Tested → List Awaited → ℕ → Lexeme → Option State
feed_value f k n t = then_some (test_of f t) (λ test. on (put (Tests test) k) n)

-- Paths.

abbrev pub put_path : RawPath → List Awaited → List Awaited
put_path p (path_negation ∷ k) = put_path (NotPath p) k
put_path p (reps ps ∷ k) = reps (ps ++ p ∷ []) ∷ k
put_path p k = k

abbrev pub repeated : Bool → RawPath → RawPath
repeated true p = Star p
repeated false p = p

-- each of these needs one more name or dot
abbrev pub feed_rep : List Awaited → ℕ → Lexeme → Option State
feed_rep k zero t = None
feed_rep k (suc n) (sign signs.Bang) = if nat_lt (opens k) MAX_NESTING then on (rep ∷ path_negation ∷ k) (suc n) else None
feed_rep k (suc n) (sign signs.OpenGroup) = if nat_lt (opens k) MAX_NESTING then on (rep ∷ reps [] ∷ alts [] ∷ path_bracket ∷ k) (suc n) else None
feed_rep k (suc n) (sign signs.Dot) = on (prim Dot false ∷ k) n
feed_rep k (suc n) (name a at) = on (prim (Named a at) false ∷ k) n
feed_rep k (suc n) t = None

abbrev pub with_item : Head → Item → Head
with_item h i = record { sets = h.sets; items = h.items ++ i ∷ [] }

abbrev pub written_of : Opened → WrittenStatement
written_of o = record { id = o.heading.id; pred = o.pred; path = o.path; limits = o.limits }

abbrev pub item_from : Option (List ℕ × List ℕ) → WrittenStatement → Item
item_from None s = One s
item_from (Some pair) s = ForEach pair.0 pair.1 s

-- the head with this statement
abbrev pub closed : Opened → Head
closed o = with_item o.heading.head (item_from o.heading.pair (written_of o))

abbrev pub with_list : Head → Option RawPath → WrittenPolicy
with_list h default = record { sets = h.sets; items = h.items; default_path = default; terms = [] }

-- after a statement's path, or after its limits
abbrev pub feed_end : Opened → List Awaited → Lexeme → Option State
feed_end o k (sign signs.Semicolon) = on (item (closed o) ∷ k) 0
feed_end o k (sign signs.CloseList) = on (formula (with_list (closed o) None) ∷ k) 0
feed_end _ _ _ = None

abbrev pub feed_opened : Opened → List Awaited → Lexeme → Option State
feed_opened o k (word words.At) = on (limit o ∷ k) 0
feed_opened o k t = feed_end o k t

-- a whole path ends its bracket, a statement or the default
abbrev pub feed_path : RawPath → List Awaited → ℕ → Lexeme → Option State
feed_path p (path_bracket ∷ k) n (sign signs.CloseGroup) = on (prim p false ∷ k) n
feed_path p (statement_path h pred ∷ k) n t = feed_opened (record { heading = h; pred = pred; path = p; limits = [] }) k t
feed_path p (default_path h ∷ k) n (sign signs.Semicolon) = on (this_sign signs.CloseList ∷ formula (with_list h (Some p)) ∷ k) 0
feed_path p (default_path h ∷ k) n (sign signs.CloseList) = on (formula (with_list h (Some p)) ∷ k) 0
feed_path _ _ _ _ = None

abbrev pub feed_alts : List RawPath → List Awaited → ℕ → Lexeme → Option State
feed_alts ps k (suc n) (sign signs.Bar) = on (rep ∷ reps [] ∷ alts ps ∷ k) (suc n)
feed_alts ps k n t = feed_path (one_or_alt ps) k n t

-- whether a rep begins so
abbrev pub begins_rep : Lexeme → Bool
begins_rep (sign signs.Bang) = true
begins_rep (sign signs.OpenGroup) = true
begins_rep (sign signs.Dot) = true
begins_rep (name _ _) = true
begins_rep _ = false

abbrev pub feed_reps : List RawPath → List Awaited → ℕ → Lexeme → Option State
feed_reps ls (alts ps ∷ k) n t = if begins_rep t then feed_rep (reps ls ∷ alts ps ∷ k) n t else feed_alts (ps ++ one_or_cat ls ∷ []) k n t
feed_reps _ _ _ _ = None

-- what follows a path that is put: the sequence that it stands in
abbrev pub feed_sequence : List Awaited → ℕ → Lexeme → Option State
feed_sequence (reps ls ∷ k) n t = feed_reps ls k n t
feed_sequence _ _ _ = None

abbrev pub feed_prim : RawPath → Bool → List Awaited → ℕ → Lexeme → Option State
feed_prim p b k n (sign signs.Star) = on (prim p true ∷ k) n
feed_prim p b k n t = feed_sequence (put_path (repeated b p) k) n t

-- Sets.

abbrev pub with_set : List WrittenSet → List ℕ → List Literal → List WrittenSet
with_set ss a ls = ss ++ record { name = a; literals = ls } ∷ []

abbrev pub feed_sets : List WrittenSet → List Awaited → Lexeme → Option State
feed_sets ss k (name a _) = on (this_sign signs.Becomes ∷ this_sign signs.OpenSet ∷ set_start ss a ∷ k) 0
feed_sets ss k (sign signs.OpenList) = on (item (record { sets = ss; items = [] }) ∷ k) 0
feed_sets _ _ _ = None

abbrev pub feed_set_more : List WrittenSet → List ℕ → List Literal → List Awaited → Lexeme → Option State
feed_set_more ss a ls k (mac n) = on (set_rest ss a (ls ++ Mac n ∷ []) ∷ k) 0
feed_set_more ss a ls k (ip n) = on (set_rest ss a (ls ++ Ip n ∷ []) ∷ k) 0
feed_set_more _ _ _ _ _ = None

abbrev pub feed_set_start : List WrittenSet → List ℕ → List Awaited → Lexeme → Option State
feed_set_start ss a k (sign signs.CloseSet) = on (sets (with_set ss a []) ∷ k) 0
feed_set_start ss a k t = feed_set_more ss a [] k t

abbrev pub feed_set_rest : List WrittenSet → List ℕ → List Literal → List Awaited → Lexeme → Option State
feed_set_rest ss a ls k (sign signs.Comma) = on (set_more ss a ls ∷ k) 0
feed_set_rest ss a ls k (sign signs.CloseSet) = on (sets (with_set ss a ls) ∷ k) 0
feed_set_rest _ _ _ _ _ = None

-- Items. Each predicate has its own count of tests, each path its own count of names and dots.

abbrev pub heading_of : Head → Option (List ℕ × List ℕ) → List ℕ → Heading
heading_of h pair id = record { head = h; pair = pair; id = id }

abbrev pub statement_from : Heading → List Awaited → Option State
statement_from h k = on (this_sign signs.Colon ∷ literal ∷ lits [] ∷ conjs [] ∷ statement_pred h ∷ k) MAX_TESTS

abbrev pub feed_item : Head → List Awaited → Lexeme → Option State
feed_item h k (name id _) = statement_from (heading_of h None id) k
feed_item h k (word words.Foreach) =
    on (this_sign signs.OpenGroup ∷ any_name ∷ this_sign signs.Comma ∷ any_name ∷ this_sign signs.CloseGroup
    ∷ this_word words.In ∷ this_word words.Cross ∷ this_sign signs.OpenGroup ∷ outer_set h ∷ k) 0
feed_item h k (word words.Default) = on (this_sign signs.Arrow ∷ rep ∷ reps [] ∷ alts [] ∷ default_path h ∷ k) MAX_PATH_NAMES
feed_item h k (sign signs.CloseList) = on (formula (with_list h None) ∷ k) 0
feed_item _ _ _ = None

abbrev pub feed_outer : Head → List Awaited → Lexeme → Option State
feed_outer h k (name a _) = on (this_sign signs.Comma ∷ inner_set h a ∷ k) 0
feed_outer _ _ _ = None

abbrev pub feed_inner : Head → List ℕ → List Awaited → Lexeme → Option State
feed_inner h a k (name b _) = on (this_sign signs.CloseGroup ∷ this_sign signs.Colon ∷ each_id h a b ∷ k) 0
feed_inner _ _ _ _ = None

abbrev pub feed_each_id : Head → List ℕ → List ℕ → List Awaited → Lexeme → Option State
feed_each_id h a b k (name id _) = statement_from (heading_of h (Some (a, b)) id) k
feed_each_id _ _ _ _ _ = None

abbrev pub with_limit : Opened → Bound → ℕ → Opened
with_limit o b n = record { heading = o.heading; pred = o.pred; path = o.path; limits = o.limits ++ record { bound = b; rate = n } ∷ [] }

abbrev pub feed_limit : Opened → List Awaited → Lexeme → Option State
feed_limit o k (word words.Max) = on (this_sign signs.OpenGroup ∷ limit_rate o Max ∷ k) 0
feed_limit o k (word words.Min) = on (this_sign signs.OpenGroup ∷ limit_rate o Min ∷ k) 0
feed_limit _ _ _ = None

abbrev pub feed_limit_rate : Opened → Bound → List Awaited → Lexeme → Option State
feed_limit_rate o b k (rate n) = on (this_sign signs.CloseGroup ∷ limit_rest (with_limit o b n) ∷ k) 0
feed_limit_rate _ _ _ _ = None

abbrev pub feed_limit_rest : Opened → List Awaited → Lexeme → Option State
feed_limit_rest o k (word words.And) = on (limit o ∷ k) 0
feed_limit_rest o k t = feed_end o k t

-- Terms.

abbrev pub with_term : WrittenPolicy → Bound → List Part → ℕ → WrittenPolicy
with_term w b parts n = record { sets = w.sets; items = w.items; default_path = w.default_path; terms = w.terms ++ record { bound = b; parts = parts; rate = n } ∷ [] }

abbrev pub feed_formula : WrittenPolicy → List Awaited → Lexeme → Option State
feed_formula w k (sign signs.Comma) = on (term w ∷ k) 0
feed_formula _ _ _ = None

abbrev pub feed_terms_rest : WrittenPolicy → List Awaited → Lexeme → Option State
feed_terms_rest w k (word words.And) = on (term w ∷ k) 0
feed_terms_rest _ _ _ = None

abbrev pub feed_term : WrittenPolicy → List Awaited → Lexeme → Option State
feed_term w k (word words.Max) = on (this_sign signs.OpenGroup ∷ leading w Max [] ∷ k) 0
feed_term w k (word words.Min) = on (this_sign signs.OpenGroup ∷ leading w Min [] ∷ k) 0
feed_term _ _ _ = None

abbrev pub feed_leading : WrittenPolicy → Bound → List Part → List Awaited → Lexeme → Option State
feed_leading w b parts k (rate n) = on (this_sign signs.Plus ∷ leading w b (parts ++ Constant n ∷ []) ∷ k) 0
feed_leading w b parts k (name a _) = on (sum_rest w b (parts ++ Id a ∷ []) ∷ k) 0
feed_leading _ _ _ _ _ = None

abbrev pub feed_sum_rest : WrittenPolicy → Bound → List Part → List Awaited → Lexeme → Option State
feed_sum_rest w b parts k (sign signs.Plus) = on (summand w b parts ∷ k) 0
feed_sum_rest w b parts k (sign signs.Comma) = on (term_rate w b parts ∷ k) 0
feed_sum_rest _ _ _ _ _ = None

abbrev pub feed_summand : WrittenPolicy → Bound → List Part → List Awaited → Lexeme → Option State
feed_summand w b parts k (rate n) = on (sum_rest w b (parts ++ Constant n ∷ []) ∷ k) 0
feed_summand w b parts k (name a _) = on (sum_rest w b (parts ++ Id a ∷ []) ∷ k) 0
feed_summand _ _ _ _ _ = None

abbrev pub feed_term_rate : WrittenPolicy → Bound → List Part → List Awaited → Lexeme → Option State
feed_term_rate w b parts k (rate n) = on (this_sign signs.CloseGroup ∷ terms_rest (with_term w b parts n) ∷ k) 0
feed_term_rate _ _ _ _ _ = None

-- Single lexemes.

abbrev pub feed_sign : Sign → List Awaited → ℕ → Lexeme → Option State
feed_sign s k n (sign t) = if sign_number s == sign_number t then on k n else None
feed_sign _ _ _ _ = None

abbrev pub feed_word : Word → List Awaited → ℕ → Lexeme → Option State
feed_word w k n (word v) = if word_number w == word_number v then on k n else None
feed_word _ _ _ _ = None

abbrev pub feed_name : List Awaited → ℕ → Lexeme → Option State
feed_name k n (name _ _) = on k n
feed_name _ _ _ = None

-- what a lexeme makes of what is awaited; none where nothing goes on with it
abbrev pub feed_on : Awaited → List Awaited → ℕ → Lexeme → Option State
feed_on a k n t = elim a [
  | this_sign s ↦ feed_sign s k n t
  | this_word w ↦ feed_word w k n t
  | any_name ↦ feed_name k n t
  | literal ↦ feed_literal k n t
  | negation ↦ None
  | lits ls ↦ feed_lits ls k n t
  | conjs ps ↦ feed_conjs ps k n t
  | whole_pred p ↦ feed_pred p k n t
  | bracket ↦ None
  | second b ↦ feed_second b k n t
  | value_of f ↦ feed_value f k n t
  | rep ↦ feed_rep k n t
  | prim p b ↦ feed_prim p b k n t
  | path_negation ↦ None
  | reps ls ↦ feed_reps ls k n t
  | alts ps ↦ feed_alts ps k n t
  | whole_path p ↦ feed_path p k n t
  | path_bracket ↦ None
  | sets ss ↦ feed_sets ss k t
  | set_start ss b ↦ feed_set_start ss b k t
  | set_rest ss b ls ↦ feed_set_rest ss b ls k t
  | set_more ss b ls ↦ feed_set_more ss b ls k t
  | item h ↦ feed_item h k t
  | outer_set h ↦ feed_outer h k t
  | inner_set h b ↦ feed_inner h b k t
  | each_id h b c ↦ feed_each_id h b c k t
  | statement_pred h ↦ None
  | statement_path h p ↦ None
  | default_path h ↦ None
  | limit o ↦ feed_limit o k t
  | limit_rate o b ↦ feed_limit_rate o b k t
  | limit_rest o ↦ feed_limit_rest o k t
  | formula w ↦ feed_formula w k t
  | terms_rest w ↦ feed_terms_rest w k t
  | term w ↦ feed_term w k t
  | leading w b ps ↦ feed_leading w b ps k t
  | sum_rest w b ps ↦ feed_sum_rest w b ps k t
  | summand w b ps ↦ feed_summand w b ps k t
  | term_rate w b ps ↦ feed_term_rate w b ps k t
]

abbrev pub feed_all : List Awaited → ℕ → Lexeme → Option State
feed_all [] n t = None
feed_all (a ∷ k) n t = feed_on a k n t

abbrev pub feed : State → Lexeme → Option State
feed s t = feed_all s.awaited s.left t

-- what is read where the lexemes end
abbrev pub finish_all : List Awaited → Option WrittenPolicy
finish_all (formula w ∷ []) = Some w
finish_all (terms_rest w ∷ []) = Some w
finish_all _ = None

abbrev pub finish : State → Option WrittenPolicy
finish s = finish_all s.awaited

abbrev pub next_step : Option State → ℕ → (State → Result WrittenPolicy ℕ) → Result WrittenPolicy ℕ
next_step None n f = Err n
next_step (Some s) n f = f s

-- what the lexemes stand for, or how many are left where nothing goes on
abbrev pub run : List Lexeme → State → Result WrittenPolicy ℕ
run [] s = ok_or (finish s) 0
run (t ∷ ts) s = next_step (feed s t) (suc (length ts)) (λ u. run ts u)

abbrev pub awaiting : List Awaited → ℕ → State
awaiting k n = record { awaited = k; left = n }

abbrev pub first_state : State
first_state = awaiting (sets [] ∷ []) 0
