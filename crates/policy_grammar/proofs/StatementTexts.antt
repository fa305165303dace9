-- Statements after their ids, up to what ends an item: what is written is read, and what is read is written.
use Rattle.std.proofs.Common.{ℕ, ◌≡◌, ◌+◌, ◌-◌, ◌≤◌, suc, zero, Bool, true, false, List, [], ◌∷◌, ◌++◌, None, Ok, length, refl, sym, ap, ◌∙◌, subst, append_assoc, append-nil, length-append, arith}
use Rattle.merlin_model.specs.declared.policy.Bound.{Bound}
use Rattle.merlin_model.specs.declared.policy.Bound.TheVariants.{Max, Min}
use Rattle.merlin_model.specs.declared.policy.Pred.{Pred}
use Rattle.merlin_text.specs.declared.token.Word.TheVariants as words
use Rattle.merlin_text.specs.declared.token.Sign.{Sign}
use Rattle.merlin_text.specs.declared.token.Sign.TheVariants as signs
use Rattle.policy_grammar.specs.declared.limits.TheConstants.{MAX_PATH_NAMES, MAX_TESTS}
use Rattle.policy_grammar.specs.declared.written.Limit.{Limit}
use Rattle.policy_grammar.specs.declared.written.RawPath.{RawPath}
use Rattle.policy_grammar.specs.declared.written.WrittenPolicy.{WrittenPolicy}
use Rattle.policy_grammar.specs.Lexemes.{Lexeme, word, sign, rate, bound_word}
use Rattle.policy_grammar.specs.Predicates.{Disj, spell_pred, pred_value, pred_tests, IsPredWithin}
use Rattle.policy_grammar.specs.PathTexts.{Alts, spell_path, path_value, path_names, IsPathWithin}
use Rattle.policy_grammar.specs.Grammar.{spell_limit, spell_limits, StatementPhrase, IsStatementWithin}
use Rattle.policy_grammar.specs.Machine.{Head, Heading, Opened, this_sign, literal, lits, conjs, whole_pred, rep, reps, alts, whole_path, item, statement_pred, statement_path, limit, limit_rate, limit_rest, formula, closed, with_list, State, run, awaiting}
use Rattle.policy_grammar.proofs.SingleTexts.{Taken, took_sign, RateTaken, preceded, separated-preceded}
use Rattle.policy_grammar.proofs.PredicateTexts.{pred_complete, pred_sound}
use Rattle.policy_grammar.proofs.PathPhrases.{ends_path, path_complete, path_sound}

-- an item ends with `;`, or with the list
abbrev pub end_sign : Bool → Sign
end_sign true = signs.Semicolon
end_sign false = signs.CloseList

abbrev pub after_item : Bool → Head → State
after_item true h = awaiting (item h ∷ []) 0
after_item false h = awaiting (formula (with_list h None) ∷ []) 0

-- the statement with these limits after its own
abbrev with_limits : Opened → List Limit → Opened
with_limits o limits = record { heading = o.heading; pred = o.pred; path = o.path; limits = o.limits ++ limits }

with_none : (o : Opened) → with_limits o [] ≡ o
with_none o = ap (λ xs. let p : Opened = record { heading = o.heading; pred = o.pred; path = o.path; limits = xs } in p) (append-nil o.limits)

with_more : (o : Opened) (l : Limit) (limits : List Limit) → with_limits (with_limits o (l ∷ [])) limits ≡ with_limits o (l ∷ limits)
with_more o l limits = ap (λ xs. let p : Opened = record { heading = o.heading; pred = o.pred; path = o.path; limits = xs } in p) (append_assoc o.limits (l ∷ []) limits)

abbrev pub opened_with : Heading → Pred → RawPath → List Limit → Opened
opened_with h p path limits = record { heading = h; pred = p; path = path; limits = limits }

-- What is written is read.

reads_bound : (b : Bound) (n : ℕ) (o : Opened) (y : List Lexeme) → run (spell_limit (record { bound = b; rate = n }) ++ y) (awaiting (limit o ∷ []) 0) ≡ run y (awaiting (limit_rest (with_limits o (record { bound = b; rate = n } ∷ [])) ∷ []) 0)
reads_bound Max n o y = refl
reads_bound Min n o y = refl

reads_limits : (limits : List Limit) (o : Opened) (y : List Lexeme) → run (preceded (word words.And) spell_limit limits ++ y) (awaiting (limit_rest o ∷ []) 0) ≡ run y (awaiting (limit_rest (with_limits o limits) ∷ []) 0)
reads_limits [] o y = ap (λ p. run y (awaiting (limit_rest p ∷ []) 0)) (sym (with_none o))
reads_limits (l ∷ limits) o y =
    ap (λ ts. run ts (awaiting (limit o ∷ []) 0)) (append_assoc (spell_limit l) (preceded (word words.And) spell_limit limits) y)
    ∙ reads_bound l.bound l.rate o (preceded (word words.And) spell_limit limits ++ y)
    ∙ reads_limits limits (with_limits o (l ∷ [])) y
    ∙ ap (λ p. run y (awaiting (limit_rest p ∷ []) 0)) (with_more o l limits)

ends_limits : (b : Bool) (o : Opened) (y : List Lexeme) → run (sign (end_sign b) ∷ y) (awaiting (limit_rest o ∷ []) 0) ≡ run y (after_item b (closed o))
ends_limits true o y = refl
ends_limits false o y = refl

reads_end : (limits : List Limit) (h : Heading) (p : Pred) (path : RawPath) (n : ℕ) (b : Bool) (y : List Lexeme) → run (spell_limits limits ++ sign (end_sign b) ∷ y) (awaiting (whole_path path ∷ statement_path h p ∷ []) n) ≡ run y (after_item b (closed (opened_with h p path limits)))
reads_end [] h p path n true y = refl
reads_end [] h p path n false y = refl
reads_end (l ∷ limits) h p path n b y =
    let o : Opened = opened_with h p path [] in
    ap (λ ts. run (ts ++ sign (end_sign b) ∷ y) (awaiting (limit o ∷ []) 0)) (separated-preceded (word words.And) spell_limit l limits)
    ∙ ap (λ ts. run ts (awaiting (limit o ∷ []) 0)) (append_assoc (spell_limit l) (preceded (word words.And) spell_limit limits) (sign (end_sign b) ∷ y))
    ∙ reads_bound l.bound l.rate o (preceded (word words.And) spell_limit limits ++ sign (end_sign b) ∷ y)
    ∙ reads_limits limits (opened_with h p path (l ∷ [])) (sign (end_sign b) ∷ y)
    ∙ ends_limits b (opened_with h p path (l ∷ limits)) y

path_ends : (limits : List Limit) (b : Bool) (y : List Lexeme) → ends_path (spell_limits limits ++ sign (end_sign b) ∷ y) ≡ true
path_ends [] true y = refl
path_ends [] false y = refl
path_ends (l ∷ limits) b y = refl

-- a statement after its id, and what stands after it
abbrev pub statement_body : Disj → Alts → List Limit → List Lexeme → List Lexeme
statement_body d a limits y = sign signs.Colon ∷ (spell_pred d ++ sign signs.Arrow ∷ (spell_path a ++ (spell_limits limits ++ y)))

pub reads_body : (s : StatementPhrase) (h : Heading) (b : Bool) (y : List Lexeme) → IsStatementWithin s → run (statement_body s.pred s.path s.limits (sign (end_sign b) ∷ y)) (awaiting (this_sign signs.Colon ∷ literal ∷ lits [] ∷ conjs [] ∷ statement_pred h ∷ []) MAX_TESTS) ≡ run y (after_item b (closed (opened_with h (pred_value s.pred) (path_value s.path) s.limits)))
reads_body s h b y within =
    let after_path : List Lexeme = spell_limits s.limits ++ sign (end_sign b) ∷ y in
    let after_pred : List Lexeme = sign signs.Arrow ∷ (spell_path s.path ++ after_path) in
    let tests : MAX_TESTS ≡ pred_tests s.pred + (MAX_TESTS - pred_tests s.pred) = omega (arith, within.pred.tests) in
    let names : MAX_PATH_NAMES ≡ path_names s.path + (MAX_PATH_NAMES - path_names s.path) = omega (arith, within.path.names) in
    ap (λ m. run (spell_pred s.pred ++ after_pred) (awaiting (literal ∷ lits [] ∷ conjs [] ∷ statement_pred h ∷ []) m)) tests
    ∙ pred_complete s.pred after_pred (statement_pred h ∷ []) (MAX_TESTS - pred_tests s.pred) refl (omega (arith, within.pred.depth))
    ∙ ap (λ m. run (spell_path s.path ++ after_path) (awaiting (rep ∷ reps [] ∷ alts [] ∷ statement_path h (pred_value s.pred) ∷ []) m)) names
    ∙ path_complete s.path after_path (statement_path h (pred_value s.pred) ∷ []) (MAX_PATH_NAMES - path_names s.path) (path_ends s.limits b y) (omega (arith, within.path.depth))
    ∙ reads_end s.limits h (pred_value s.pred) (path_value s.path) (MAX_PATH_NAMES - path_names s.path) b y

-- What is read is written.

record LimitTaken (ts : List Lexeme) (o : Opened) (w : WrittenPolicy) : Type 0 where
  phrase : Limit
  rest : List Lexeme
  is : ts ≡ spell_limit phrase ++ rest
  goes : run rest (awaiting (limit_rest (with_limits o (phrase ∷ [])) ∷ []) 0) ≡ Ok w

took_rate : (ts : List Lexeme) (o : Opened) (b : Bound) (w : WrittenPolicy) → run ts (awaiting (limit_rate o b ∷ []) 0) ≡ Ok w → RateTaken ts (λ n. awaiting (this_sign signs.CloseGroup ∷ limit_rest (with_limits o (record { bound = b; rate = n } ∷ [])) ∷ []) 0) w
took_rate [] o b w e = cc
took_rate (rate n ∷ ts) o b w e = record { value = n; rest = ts; is = refl; goes = e }
took_rate (_ ∷ ts) o b w e = cc

limit_joined : (l : Limit) (ts a b rest : List Lexeme) → ts ≡ sign signs.OpenGroup ∷ a → a ≡ rate l.rate ∷ b → b ≡ sign signs.CloseGroup ∷ rest → word (bound_word l.bound) ∷ ts ≡ spell_limit l ++ rest
limit_joined l ts a b rest p q r = ap (λ xs. word (bound_word l.bound) ∷ xs) (p ∙ ap (λ xs. sign signs.OpenGroup ∷ xs) (q ∙ ap (λ xs. rate l.rate ∷ xs) r))

took_bound : (b : Bound) (ts : List Lexeme) (o : Opened) (w : WrittenPolicy) → run ts (awaiting (this_sign signs.OpenGroup ∷ limit_rate o b ∷ []) 0) ≡ Ok w → LimitTaken (word (bound_word b) ∷ ts) o w
took_bound b ts o w e =
    let opened = took_sign signs.OpenGroup ts (limit_rate o b ∷ []) 0 w e in
    let number = took_rate opened.rest o b w opened.goes in
    let close = took_sign signs.CloseGroup number.rest (limit_rest (with_limits o (record { bound = b; rate = number.value } ∷ [])) ∷ []) 0 w number.goes in
    record {
      phrase = record { bound = b; rate = number.value };
      rest = close.rest;
      is = limit_joined (record { bound = b; rate = number.value }) ts opened.rest number.rest close.rest opened.is number.is close.is;
      goes = close.goes;
    }

took_limit : (ts : List Lexeme) (o : Opened) (w : WrittenPolicy) → run ts (awaiting (limit o ∷ []) 0) ≡ Ok w → LimitTaken ts o w
took_limit [] o w e = cc
took_limit (word words.Max ∷ ts) o w e = took_bound Max ts o w e
took_limit (word words.Min ∷ ts) o w e = took_bound Min ts o w e
took_limit (_ ∷ ts) o w e = cc

record LimitsTaken (ts : List Lexeme) (o : Opened) (w : WrittenPolicy) : Type 0 where
  limits : List Limit
  closes : Bool
  rest : List Lexeme
  is : ts ≡ preceded (word words.And) spell_limit limits ++ sign (end_sign closes) ∷ rest
  goes : run rest (after_item closes (closed (with_limits o limits))) ≡ Ok w

more_limits : (ts : List Lexeme) (o : Opened) (w : WrittenPolicy) (one : LimitTaken ts o w) → LimitsTaken one.rest (with_limits o (one.phrase ∷ [])) w → LimitsTaken (word words.And ∷ ts) o w
more_limits ts o w one more = record {
  limits = one.phrase ∷ more.limits;
  closes = more.closes;
  rest = more.rest;
  is = ap (λ xs. word words.And ∷ xs) (one.is ∙ ap (λ xs. spell_limit one.phrase ++ xs) more.is
      ∙ sym (append_assoc (spell_limit one.phrase) (preceded (word words.And) spell_limit more.limits) (sign (end_sign more.closes) ∷ more.rest)));
  goes = subst (λ p. run more.rest (after_item more.closes (closed p)) ≡ Ok w) (with_more o one.phrase more.limits) more.goes;
}

shorter : (ts : List Lexeme) (o : Opened) (w : WrittenPolicy) (one : LimitTaken ts o w) → length one.rest ≤ length ts
shorter ts o w one = omega (arith, ap length one.is, length-append (spell_limit one.phrase) one.rest)

took_limits : (bound : ℕ) (ts : List Lexeme) (o : Opened) (w : WrittenPolicy) → length ts ≤ bound → run ts (awaiting (limit_rest o ∷ []) 0) ≡ Ok w → LimitsTaken ts o w
took_limits bound [] o w h e = cc
took_limits zero (t ∷ ts) o w h e = absurd (omega arith)
took_limits (suc bound) (sign signs.Semicolon ∷ ts) o w h e = record { limits = []; closes = true; rest = ts; is = refl; goes = subst (λ p. run ts (after_item true (closed p)) ≡ Ok w) (sym (with_none o)) e }
took_limits (suc bound) (sign signs.CloseList ∷ ts) o w h e = record { limits = []; closes = false; rest = ts; is = refl; goes = subst (λ p. run ts (after_item false (closed p)) ≡ Ok w) (sym (with_none o)) e }
took_limits (suc bound) (word words.And ∷ ts) o w h e =
    let one = took_limit ts o w e in
    more_limits ts o w one (took_limits bound one.rest (with_limits o (one.phrase ∷ [])) w (omega (arith, shorter ts o w one)) one.goes)
took_limits (suc bound) (_ ∷ ts) o w h e = cc

record EndTaken (ts : List Lexeme) (h : Heading) (p : Pred) (path : RawPath) (w : WrittenPolicy) : Type 0 where
  limits : List Limit
  closes : Bool
  rest : List Lexeme
  is : ts ≡ spell_limits limits ++ sign (end_sign closes) ∷ rest
  goes : run rest (after_item closes (closed (opened_with h p path limits))) ≡ Ok w

first_limit : (ts : List Lexeme) (h : Heading) (p : Pred) (path : RawPath) (w : WrittenPolicy) (one : LimitTaken ts (opened_with h p path []) w) → LimitsTaken one.rest (opened_with h p path (one.phrase ∷ [])) w → EndTaken (word words.At ∷ ts) h p path w
first_limit ts h p path w one more = record {
  limits = one.phrase ∷ more.limits;
  closes = more.closes;
  rest = more.rest;
  is = ap (λ xs. word words.At ∷ xs) (one.is ∙ ap (λ xs. spell_limit one.phrase ++ xs) more.is
      ∙ sym (append_assoc (spell_limit one.phrase) (preceded (word words.And) spell_limit more.limits) (sign (end_sign more.closes) ∷ more.rest))
      ∙ ap (λ xs. xs ++ sign (end_sign more.closes) ∷ more.rest) (sym (separated-preceded (word words.And) spell_limit one.phrase more.limits)));
  goes = more.goes;
}

took_end : (ts : List Lexeme) (h : Heading) (p : Pred) (path : RawPath) (n : ℕ) (w : WrittenPolicy) → run ts (awaiting (whole_path path ∷ statement_path h p ∷ []) n) ≡ Ok w → EndTaken ts h p path w
took_end [] h p path n w e = cc
took_end (sign signs.Semicolon ∷ ts) h p path n w e = record { limits = []; closes = true; rest = ts; is = refl; goes = e }
took_end (sign signs.CloseList ∷ ts) h p path n w e = record { limits = []; closes = false; rest = ts; is = refl; goes = e }
took_end (word words.At ∷ ts) h p path n w e =
    let one = took_limit ts (opened_with h p path []) w e in
    first_limit ts h p path w one (took_limits (length one.rest) one.rest (opened_with h p path (one.phrase ∷ [])) w (omega arith) one.goes)
took_end (_ ∷ ts) h p path n w e = cc

took_arrow : (ts : List Lexeme) (p : Pred) (h : Heading) (n : ℕ) (w : WrittenPolicy) → run ts (awaiting (whole_pred p ∷ statement_pred h ∷ []) n) ≡ Ok w → Taken (sign signs.Arrow) ts (awaiting (rep ∷ reps [] ∷ alts [] ∷ statement_path h p ∷ []) MAX_PATH_NAMES) w
took_arrow [] p h n w e = cc
took_arrow (sign signs.Arrow ∷ ts) p h n w e = record { rest = ts; is = refl; goes = e }
took_arrow (_ ∷ ts) p h n w e = cc

pub record BodyTaken (ts : List Lexeme) (h : Heading) (w : WrittenPolicy) : Type 0 where
  pub pred : Disj
  pub path : Alts
  pub limits : List Limit
  pub closes : Bool
  pub rest : List Lexeme
  pub is : ts ≡ statement_body pred path limits (sign (end_sign closes) ∷ rest)
  pub pred_within : IsPredWithin pred
  pub path_within : IsPathWithin path
  pub goes : run rest (after_item closes (closed (opened_with h (pred_value pred) (path_value path) limits))) ≡ Ok w

body_joined : (d : Disj) (p : Alts) (limits : List Limit) (ts a b c e y : List Lexeme) → ts ≡ sign signs.Colon ∷ a → a ≡ spell_pred d ++ b → b ≡ sign signs.Arrow ∷ c → c ≡ spell_path p ++ e → e ≡ spell_limits limits ++ y → ts ≡ statement_body d p limits y
body_joined d p limits ts a b c e y q r s t u =
    q ∙ ap (λ xs. sign signs.Colon ∷ xs) (r ∙ ap (λ xs. spell_pred d ++ xs) (s ∙ ap (λ xs. sign signs.Arrow ∷ xs) (t ∙ ap (λ xs. spell_path p ++ xs) u)))

pub took_body : (ts : List Lexeme) (h : Heading) (w : WrittenPolicy) → run ts (awaiting (this_sign signs.Colon ∷ literal ∷ lits [] ∷ conjs [] ∷ statement_pred h ∷ []) MAX_TESTS) ≡ Ok w → BodyTaken ts h w
took_body ts h w e =
    let colon = took_sign signs.Colon ts (literal ∷ lits [] ∷ conjs [] ∷ statement_pred h ∷ []) MAX_TESTS w e in
    let p = pred_sound colon.rest (statement_pred h ∷ []) MAX_TESTS w (omega arith) colon.goes in
    let arrow = took_arrow p.rest (pred_value p.tree) h p.spare w p.goes in
    let q = path_sound arrow.rest (statement_path h (pred_value p.tree) ∷ []) MAX_PATH_NAMES w (omega arith) arrow.goes in
    let end = took_end q.rest h (pred_value p.tree) (path_value q.tree) q.spare w q.goes in
    record {
      pred = p.tree;
      path = q.tree;
      limits = end.limits;
      closes = end.closes;
      rest = end.rest;
      is = body_joined p.tree q.tree end.limits ts colon.rest p.rest arrow.rest q.rest (sign (end_sign end.closes) ∷ end.rest) colon.is p.spelled arrow.is q.spelled end.is;
      pred_within = record { depth = omega (arith, p.deep); tests = omega (arith, p.tests) };
      path_within = record { depth = omega (arith, q.deep); names = omega (arith, q.names) };
      goes = end.goes;
    }
