-- The machine's run over a policy or over a predicate alone, what a reader's answer says of it, and some states of the machine by name.
use Rattle.std.specs.Prelude.{length, ℕ, ◌≡◌, ◌≢◌, ◌<◌, List, [], ◌∷◌, ◌++◌, suc, ok_or, Option, None, Some, Bool, true, false, Result, Ok, Err, IfOk}
use Rattle.merlin_model.specs.declared.policy.Bound.{Bound}
use Rattle.merlin_model.specs.declared.policy.Part.{Part}
use Rattle.merlin_model.specs.declared.policy.Pred.{Pred, Test as Tests}
use Rattle.merlin_model.specs.declared.policy.Term.{Term}
use Rattle.merlin_model.specs.declared.policy.Test.{Test}
use Rattle.merlin_text.specs.declared.token.Sign.{Sign}
use Rattle.merlin_text.specs.declared.token.Sign.TheVariants as signs
use Rattle.merlin_text.specs.declared.token.Word.TheVariants as words
use Rattle.policy_grammar.specs.declared.limits.TheConstants.{MAX_PATH_NAMES, MAX_TESTS}
use Rattle.policy_grammar.specs.declared.written.Item.{Item}
use Rattle.policy_grammar.specs.declared.written.Limit.{Limit}
use Rattle.policy_grammar.specs.declared.written.Literal.{Literal}
use Rattle.policy_grammar.specs.declared.written.RawPath.{RawPath}
use Rattle.policy_grammar.specs.declared.written.Tested.{Tested}
use Rattle.policy_grammar.specs.declared.written.WrittenPolicy.{WrittenPolicy}
use Rattle.policy_grammar.specs.declared.written.WrittenSet.{WrittenSet}
use Rattle.policy_grammar.specs.declared.written.WrittenStatement.{WrittenStatement}
use Rattle.policy_grammar.specs.Lexemes.{Lexeme, sign}
use Rattle.policy_grammar.specs.Predicates.{all_of, any_of}
use Rattle.policy_grammar.specs.Machine.{Awaited, Head, Heading, Opened, State, this_sign, this_word, any_name, literal, lits, conjs, statement_pred, statement_path, second, value_of, rep, alts, feed, terms_rest, whole_path, default_path, sets as sets_awaited, set_start, with_set, outer_set, each_id, item, limit, formula, with_list, with_item, item_from, closed, path_negation, reps, begins_rep, term, with_term, whole_pred, put, put_path, inner_set, heading_of, set_rest, limit_rate, limit_rest, with_limit, leading, sum_rest, term_rate, awaiting}
use Rattle.policy_parser.specs.declared.fault.ReadError.{ReadError}
use Rattle.policy_parser.specs.declared.fault.ReadError.TheVariants as errors
use Rattle.policy_parser.specs.declared.items.Ending.{Ending}
use Rattle.policy_parser.specs.declared.items.Ending.TheVariants as endings
use Rattle.policy_parser.specs.declared.items.Entry.{Entry}
use Rattle.policy_parser.specs.declared.items.Entry.TheVariants as entries

-- What lexemes can be as a whole: a policy as it is written, or a predicate alone.
pub data WholeText : Type 0 where
  whole_policy : WrittenPolicy → WholeText
  whole_predicate : Pred → WholeText

-- what is read where the lexemes end: a predicate alone, where nothing stands around it
abbrev pub finish_predicate : Pred → List Awaited → Option WholeText
finish_predicate p [] = Some (whole_predicate p)
finish_predicate p (_ ∷ _) = None

abbrev pub finish_literals : List Pred → List Awaited → Option WholeText
finish_literals ls (conjs ps ∷ k) = finish_predicate (any_of (ps ++ all_of ls ∷ [])) k
finish_literals ls _ = None

abbrev pub finish_text : List Awaited → Option WholeText
finish_text (formula w ∷ []) = Some (whole_policy w)
finish_text (terms_rest w ∷ []) = Some (whole_policy w)
finish_text (whole_pred p ∷ k) = finish_predicate p k
finish_text (conjs ps ∷ k) = finish_predicate (any_of ps) k
finish_text (lits ls ∷ k) = finish_literals ls k
finish_text _ = None

abbrev pub next_text : Option State → ℕ → (State → Result WholeText ℕ) → Result WholeText ℕ
next_text None n f = Err n
next_text (Some s) n f = f s

-- The machine's run over the lexemes of a policy or of a predicate: what they are as a whole, or how many are left where nothing goes on.
abbrev pub run_text : List Lexeme → State → Result WholeText ℕ
run_text [] s = ok_or (finish_text s.awaited) 0
run_text (t ∷ ts) s = next_text (feed s t) (suc (length ts)) (λ u. run_text ts u)

-- With a value the run goes on as it does after the phrase; a fault is the run's, by how many lexemes are left there. Memory may
-- run out anywhere.
abbrev pub AgreesWithRun : {X : Type 0} → Result X ReadError → (X → Result WholeText ℕ) → Result WholeText ℕ → Type 0
AgreesWithRun (Ok x) after all = all ≡ after x
AgreesWithRun (Err errors.Memory) after all = Unit {0}
AgreesWithRun (Err (errors.Syntax n)) after all = all ≡ Err n

-- A reader that stands at a state before these lexemes: with a value the run goes on with the rest of them from the state that the
-- value leads to.
abbrev pub Reads : {X : Type 0} → State → List Lexeme → Result (X × List Lexeme) ReadError → (X → State) → Type 0
Reads from lexemes result to = AgreesWithRun result (λ read. run_text read.1 (to read.0)) (run_text lexemes from)

-- There is less to read after the phrase.
abbrev pub Shortens : {X : Type 0} → List Lexeme → Result (X × List Lexeme) ReadError → Type 0
Shortens lexemes result = IfOk result (λ read. length read.1 < length lexemes)

-- The same of a reader that has no value.
abbrev pub Skips : State → List Lexeme → Result (List Lexeme) ReadError → State → Type 0
Skips from lexemes result to = AgreesWithRun result (λ rest. run_text rest to) (run_text lexemes from)

abbrev pub ShortensTo : List Lexeme → Result (List Lexeme) ReadError → Type 0
ShortensTo lexemes result = IfOk result (λ rest. length rest < length lexemes)

-- The same of a reader that takes all lexemes: with a value they stand for this policy.
abbrev pub ReadsAll : {X : Type 0} → State → List Lexeme → Result X ReadError → (X → WrittenPolicy) → Type 0
ReadsAll from lexemes result policy = AgreesWithRun result (λ x. (let whole : Result WholeText ℕ = Ok (whole_policy (policy x)) in whole)) (run_text lexemes from)

-- The same of a reader that takes all lexemes of a predicate alone: with a value they stand for this predicate.
abbrev pub ReadsPredicate : State → List Lexeme → Result Pred ReadError → Type 0
ReadsPredicate from lexemes result = AgreesWithRun result (λ pred. (let whole : Result WholeText ℕ = Ok (whole_predicate pred) in whole)) (run_text lexemes from)

-- The reader found no phrase. It is so in each error of a reader that takes no memory.
abbrev pub IsSyntax : ReadError → Type 0
IsSyntax error = error ≢ errors.Memory

-- A stack on which a path stands in a sequence, under bangs or not.
abbrev pub IsInSequence : List Awaited → Type 0
IsInSequence (path_negation ∷ k) = IsInSequence k
IsInSequence (reps _ ∷ k) = Unit {0}
IsInSequence _ = ⊥

-- whether a rep begins here
abbrev pub begins_list : List Lexeme → Bool
begins_list [] = false
begins_list (t ∷ _) = begins_rep t

abbrev pub is_star : Lexeme → Bool
is_star (sign signs.Star) = true
is_star _ = false

-- whether a star stands here
abbrev pub stars_list : List Lexeme → Bool
stars_list [] = false
stars_list (t ∷ _) = is_star t

-- What is awaited, by name.

-- this alone
abbrev pub alone : Awaited → State
alone a = awaiting (a ∷ []) 0

-- a sign, and then this alone
abbrev pub after_sign : Sign → Awaited → State
after_sign s a = awaiting (this_sign s ∷ a ∷ []) 0

abbrev pub closing : Awaited → State
closing a = after_sign signs.CloseGroup a

abbrev pub pred_awaited : List Awaited → List Awaited
pred_awaited k = literal ∷ lits [] ∷ conjs [] ∷ k

-- a predicate alone
abbrev pub first_pred : State
first_pred = awaiting (pred_awaited []) MAX_TESTS

abbrev pub path_awaited : List Awaited → List Awaited
path_awaited k = rep ∷ reps [] ∷ alts [] ∷ k

-- after the first name of a field, after the second, and after its value
abbrev pub second_awaited : List ℕ → List Awaited → List Awaited
second_awaited first k = this_sign signs.Dot ∷ second first ∷ k

abbrev pub after_field : List Awaited → ℕ → Tested → State
after_field k n field = awaiting (this_sign signs.Equals ∷ value_of field ∷ k) n

abbrev pub after_test : List Awaited → ℕ → Test → State
after_test k n test = awaiting (put (Tests test) k) n

-- after a part of a predicate, with how many tests may still come
abbrev pub after_lit : List Awaited → Pred × ℕ → State
after_lit k read = awaiting (put read.0 k) read.1

abbrev pub after_conjunction : List Pred → List Awaited → Pred × ℕ → State
after_conjunction ps k read = awaiting (conjs (ps ++ read.0 ∷ []) ∷ k) read.1

abbrev pub after_pred : List Awaited → Pred × ℕ → State
after_pred k read = awaiting (whole_pred read.0 ∷ k) read.1

-- after a part of a path, with how many names and dots may still come
abbrev pub after_rep : List Awaited → RawPath × ℕ → State
after_rep k read = awaiting (put_path read.0 k) read.1

abbrev pub after_sequence : List RawPath → List Awaited → RawPath × ℕ → State
after_sequence ps k read = awaiting (alts (ps ++ read.0 ∷ []) ∷ k) read.1

abbrev pub after_path : List Awaited → RawPath × ℕ → State
after_path k read = awaiting (whole_path read.0 ∷ k) read.1

-- after `foreach`: its two names, and then its two sets
abbrev pub variables_awaited : List Awaited → List Awaited
variables_awaited k = this_sign signs.OpenGroup ∷ any_name ∷ this_sign signs.Comma ∷ any_name ∷ this_sign signs.CloseGroup ∷ k

abbrev pub cross_awaited : Head → List Awaited
cross_awaited h = this_word words.In ∷ this_word words.Cross ∷ this_sign signs.OpenGroup ∷ outer_set h ∷ []

-- after the first set of a `foreach`, and after the second
abbrev pub after_outer : Head → List ℕ → State
after_outer h outer = after_sign signs.Comma (inner_set h outer)

abbrev pub after_inner : Head → List ℕ → List ℕ → State
after_inner h outer inner = awaiting (this_sign signs.CloseGroup ∷ this_sign signs.Colon ∷ each_id h outer inner ∷ []) 0

abbrev pub after_cross : Head → List ℕ × List ℕ → State
after_cross h names = after_inner h names.0 names.1

-- after `foreach`, up to its sets
abbrev pub for_each_awaited : Head → State
for_each_awaited h = awaiting (variables_awaited (cross_awaited h)) 0

-- after `default`
abbrev pub default_awaited : Head → State
default_awaited h = awaiting (this_sign signs.Arrow ∷ path_awaited (default_path h ∷ [])) MAX_PATH_NAMES

-- after the name of a set, after one of its addresses, and after the set
abbrev pub set_awaited : List WrittenSet → List ℕ → State
set_awaited ss name = awaiting (this_sign signs.Becomes ∷ this_sign signs.OpenSet ∷ set_start ss name ∷ []) 0

abbrev pub after_literal : List WrittenSet → List ℕ → List Literal → Literal → State
after_literal ss name literals a = alone (set_rest ss name (literals ++ a ∷ []))

abbrev pub after_set : List WrittenSet → List ℕ → List Literal → State
after_set ss name literals = alone (sets_awaited (with_set ss name literals))

-- after the opening of the list
abbrev pub first_item : List WrittenSet → State
first_item sets = alone (item (record { sets = sets; items = [] }))

-- after the id of a statement
abbrev pub statement_awaited : Heading → State
statement_awaited h = awaiting (this_sign signs.Colon ∷ pred_awaited (statement_pred h ∷ [])) MAX_TESTS

-- after the id of the statement of a `foreach`
abbrev pub after_each_id : Head → List ℕ → List ℕ → List ℕ → State
after_each_id h outer inner id = statement_awaited (heading_of h (Some (outer, inner)) id)

-- after the arrow of a statement, and after its path
abbrev pub path_of_statement : Heading → Pred → State
path_of_statement h pred = awaiting (path_awaited (statement_path h pred ∷ [])) MAX_PATH_NAMES

abbrev pub end_of_statement : Heading → Pred → RawPath → ℕ → State
end_of_statement h pred path n = awaiting (whole_path path ∷ statement_path h pred ∷ []) n

-- a statement up to its path, and these limits
abbrev pub opened : Heading → Pred → RawPath → List Limit → Opened
opened h pred path limits = record { heading = h; pred = pred; path = path; limits = limits }

-- after `at`
abbrev pub limits_awaited : Heading → Pred → RawPath → State
limits_awaited h pred path = alone (limit (opened h pred path []))

-- after the bound of a limit, after its rate, and after the limit
abbrev pub after_bound : Opened → Bound → State
after_bound o bound = after_sign signs.OpenGroup (limit_rate o bound)

abbrev pub after_rate : Opened → Bound → ℕ → State
after_rate o bound rate = closing (limit_rest (with_limit o bound rate))

abbrev pub after_limit : Opened → Limit → State
after_limit o read = alone (limit_rest (with_limit o read.bound read.rate))

-- after the sign that ends an item: the next item, or what follows the list
abbrev pub ended : Ending → Head → State
ended endings.Item h = alone (item h)
ended endings.List h = alone (formula (with_list h None))

-- after the limits of a statement and the sign that ends it
abbrev pub after_limits : Heading → Pred → RawPath → List Limit × Ending → State
after_limits h pred path read = ended read.1 (closed (opened h pred path read.0))

-- after a statement and the sign that ends it
abbrev pub after_statement : Head → Option (List ℕ × List ℕ) → WrittenStatement × Ending → State
after_statement h pair read = ended read.1 (with_item h (item_from pair read.0))

-- a policy of these parts
abbrev pub policy_with : List WrittenSet → List Item → Option RawPath → List Term → WrittenPolicy
policy_with sets items default terms = record { sets = sets; items = items; default_path = default; terms = terms }

-- after an entry of the list
abbrev pub after_entry : Head → Entry → State
after_entry h (entries.Item i end) = ended end (with_item h i)
after_entry h (entries.Default path) = alone (formula (with_list h (Some path)))
after_entry h entries.End = alone (formula (with_list h None))

-- after the whole list
abbrev pub after_list : List WrittenSet → List Item × Option RawPath → State
after_list sets read = alone (formula (policy_with sets read.0 read.1 []))

-- a term of the formula of a policy of these parts
abbrev pub term_awaited : List WrittenSet → List Item → Option RawPath → State
term_awaited sets items default = alone (term (policy_with sets items default []))

-- after the bound of a term, after its leading rates, after a part of its sum, after the sum, after its rate, and after the term
abbrev pub after_term_bound : WrittenPolicy → Bound → State
after_term_bound w bound = after_sign signs.OpenGroup (leading w bound [])

abbrev pub after_leading : WrittenPolicy → Bound → List Part → State
after_leading w bound parts = alone (sum_rest w bound parts)

abbrev pub after_summand : WrittenPolicy → Bound → List Part → Part → State
after_summand w bound parts part = alone (sum_rest w bound (parts ++ part ∷ []))

abbrev pub after_sum : WrittenPolicy → Bound → List Part → State
after_sum w bound parts = alone (term_rate w bound parts)

abbrev pub after_term_rate : WrittenPolicy → Bound → List Part → ℕ → State
after_term_rate w bound parts rate = closing (terms_rest (with_term w bound parts rate))

abbrev pub after_term : WrittenPolicy → Term → State
after_term w t = alone (terms_rest (with_term w t.bound t.parts t.rate))

-- after a term: another one, or the whole policy
abbrev pub more_terms : WrittenPolicy → Option (List Lexeme) → Result WholeText ℕ
more_terms w (Some rest) = run_text rest (alone (term w))
more_terms w None = Ok (whole_policy w)
