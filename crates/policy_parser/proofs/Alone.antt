-- The machine over a predicate alone goes as it does over the predicate of a statement, up to the arrow.
use Rattle.std.proofs.Common.{ℕ, ◌≡◌, ◌+◌, ◌==◌, zero, suc, Bool, true, false, cond, List, [], ◌∷◌, ◌++◌, Option, Some, None, Result, Ok, Err, nat_lt, length, refl, sym, ap, ◌∙◌, subst}
use Rattle.merlin_model.specs.declared.policy.Pred.{Pred, Yes, No, Test as Tests, Not}
use Rattle.merlin_text.specs.declared.token.Sign.{Sign}
use Rattle.merlin_text.specs.declared.token.Sign.TheVariants as signs
use Rattle.merlin_text.specs.declared.token.Word.TheVariants as words
use Rattle.policy_grammar.specs.declared.limits.TheConstants.{MAX_NESTING}
use Rattle.policy_grammar.specs.declared.written.RawPath.{Dot}
use Rattle.policy_grammar.specs.declared.written.Tested.{Tested}
use Rattle.policy_grammar.specs.declared.written.Tested.TheVariants as tested
use Rattle.policy_grammar.specs.declared.written.WrittenPolicy.{WrittenPolicy}
use Rattle.policy_grammar.specs.Lexemes.{Lexeme, name, word, sign}
use Rattle.policy_grammar.specs.Predicates.{all_of, any_of, test_of}
use Rattle.policy_grammar.specs.Machine.{Awaited, this_sign, literal, negation, lits, conjs, bracket, second, value_of, statement_pred, Heading, State, opens, opens_of, put, is_first, field_at, then_some, sign_number, feed_sign, feed_literal, feed_lits, feed_conjs, feed_pred, feed_second, feed_value, feed_all, feed, finish_all, next_step, run, awaiting, closed, with_list}
use Rattle.policy_grammar.proofs.Closing.{Good, IsKept, kept}
use Rattle.policy_parser.specs.Readers.{WholeText, whole_policy, whole_predicate, next_text, run_text}

-- The states over a predicate alone.

mutual
  -- what may stand below a literal, and below a whole predicate
  pub data TakesLit : List Awaited → Type 0 where
    banged : {k : List Awaited} → TakesLit k → TakesLit (negation ∷ k)
    in_conj : {ls ps : List Pred} {k : List Awaited} → TakesPred k → TakesLit (lits ls ∷ conjs ps ∷ k)

  pub data TakesPred : List Awaited → Type 0 where
    nothing : TakesPred []
    in_bracket : {k : List Awaited} → TakesLit k → TakesPred (bracket ∷ k)

pub data IsAlone : List Awaited → Type 0 where
  at_literal : {k : List Awaited} → TakesLit k → IsAlone (literal ∷ k)
  at_lits : {ls ps : List Pred} {k : List Awaited} → TakesPred k → IsAlone (lits ls ∷ conjs ps ∷ k)
  at_dot : {a : List ℕ} {k : List Awaited} → TakesLit k → IsAlone (this_sign signs.Dot ∷ second a ∷ k)
  at_second : {a : List ℕ} {k : List Awaited} → TakesLit k → IsAlone (second a ∷ k)
  at_equals : {f : Tested} {k : List Awaited} → TakesLit k → IsAlone (this_sign signs.Equals ∷ value_of f ∷ k)
  at_value : {f : Tested} {k : List Awaited} → TakesLit k → IsAlone (value_of f ∷ k)

pub start_alone : IsAlone (literal ∷ lits [] ∷ conjs [] ∷ [])
start_alone = at_literal (in_conj nothing)

-- The same states in a statement.

abbrev pub heading : Heading
heading = record { head = record { sets = []; items = [] }; pair = None; id = [] }

abbrev pub stated : List Awaited
stated = statement_pred heading ∷ []

abbrev pub in_statement_of : State → State
in_statement_of s = awaiting (s.awaited ++ stated) s.left

-- the path and the end of the statement, and the policy that is this statement alone
abbrev pub tail : List Lexeme
tail = sign signs.Arrow ∷ sign signs.Dot ∷ sign signs.CloseList ∷ []

abbrev pub stating : Pred → WrittenPolicy
stating p = with_list (closed (record { heading = heading; pred = p; path = Dot; limits = [] })) None

-- A lexeme leads from such a state to such a state, and alike in a statement.

abbrev IsFramed : Option State → Option State → Type 0
IsFramed None o = Unit {0}
IsFramed (Some s) o = (o ≡ Some (in_statement_of s)) × IsAlone s.awaited

opens_same : (k : List Awaited) → opens (k ++ stated) ≡ opens k
opens_same [] = refl
opens_same (a ∷ k) = ap (λ n. opens_of a + n) (opens_same k)

put_same : (p : Pred) (k : List Awaited) → TakesLit k → put p (k ++ stated) ≡ put p k ++ stated
put_same p _ (banged {k = k} g) = put_same (Not p) k g
put_same p _ (in_conj g) = refl

put_alone : (p : Pred) (k : List Awaited) → TakesLit k → IsAlone (put p k)
put_alone p _ (banged {k = k} g) = put_alone (Not p) k g
put_alone p _ (in_conj g) = at_lits g

framed_put : (p : Pred) (k : List Awaited) (n : ℕ) → TakesLit k → IsFramed (Some (awaiting (put p k) n)) (Some (awaiting (put p (k ++ stated)) n))
framed_put p k n g = (ap (λ a. Some (awaiting a n)) (put_same p k g), put_alone p k g)

framed_if : (b c : Bool) (s : State) → c ≡ b → IsAlone s.awaited → IsFramed (cond b (Some s) None) (cond c (Some (in_statement_of s)) None)
framed_if true c s e g = (ap (λ x. cond x (Some (in_statement_of s)) None) e, g)
framed_if false c s e g = tt

framed_some : {A : Type 0} (o : Option A) (f g : A → State) → ((x : A) → IsFramed (Some (f x)) (Some (g x))) → IsFramed (then_some o (λ x. Some (f x))) (then_some o (λ x. Some (g x)))
framed_some None f g h = tt
framed_some (Some x) f g h = h x

framed_sign : (s : Sign) (k : List Awaited) (n : ℕ) (t : Lexeme) → IsAlone k → IsFramed (feed_sign s k n t) (feed_sign s (k ++ stated) n t)
framed_sign s k n (sign t) g = framed_if (sign_number s == sign_number t) (sign_number s == sign_number t) (awaiting k n) refl g
framed_sign s k n _ g = tt

framed_literal : (k : List Awaited) (n : ℕ) (t : Lexeme) → TakesLit k → IsFramed (feed_literal k n t) (feed_literal (k ++ stated) n t)
framed_literal k n (sign signs.Bang) g = framed_if (nat_lt (opens k) MAX_NESTING) (nat_lt (opens (k ++ stated)) MAX_NESTING) (awaiting (literal ∷ negation ∷ k) n) (ap (λ m. nat_lt m MAX_NESTING) (opens_same k)) (at_literal (banged g))
framed_literal k n (sign signs.OpenGroup) g = framed_if (nat_lt (opens k) MAX_NESTING) (nat_lt (opens (k ++ stated)) MAX_NESTING) (awaiting (literal ∷ lits [] ∷ conjs [] ∷ bracket ∷ k) n) (ap (λ m. nat_lt m MAX_NESTING) (opens_same k)) (at_literal (in_conj (in_bracket g)))
framed_literal k n (word words.True) g = framed_put Yes k n g
framed_literal k n (word words.False) g = framed_put No k n g
framed_literal k zero (name a _) g = tt
framed_literal k (suc n) (name a _) g = framed_if (is_first a) (is_first a) (awaiting (this_sign signs.Dot ∷ second a ∷ k) n) refl (at_dot g)
framed_literal k n _ g = tt

framed_second : (a : List ℕ) (k : List Awaited) (n : ℕ) (t : Lexeme) → TakesLit k → IsFramed (feed_second a k n t) (feed_second a (k ++ stated) n t)
framed_second a k n (name b _) g = framed_some (field_at a b) (λ f. awaiting (this_sign signs.Equals ∷ value_of f ∷ k) n) (λ f. awaiting (this_sign signs.Equals ∷ value_of f ∷ k ++ stated) n) (λ f. (refl, at_equals g))
framed_second a k n _ g = tt

framed_value : (f : Tested) (k : List Awaited) (n : ℕ) (t : Lexeme) → TakesLit k → IsFramed (feed_value f k n t) (feed_value f (k ++ stated) n t)
framed_value f k n t g = framed_some (test_of f t) (λ p. awaiting (put (Tests p) k) n) (λ p. awaiting (put (Tests p) (k ++ stated)) n) (λ p. framed_put (Tests p) k n g)

framed_pred : (p : Pred) (k : List Awaited) (n : ℕ) (t : Lexeme) → TakesPred k → IsFramed (feed_pred p k n t) (feed_pred p (k ++ stated) n t)
framed_pred p _ n t nothing = tt
framed_pred p _ n (sign signs.CloseGroup) (in_bracket {k = k} g) = framed_put p k n g
framed_pred p _ n _ (in_bracket g) = tt

framed_conjs : (ps : List Pred) (k : List Awaited) (n : ℕ) (t : Lexeme) → TakesPred k → IsFramed (feed_conjs ps k n t) (feed_conjs ps (k ++ stated) n t)
framed_conjs ps k n (word words.Or) g = (refl, at_literal (in_conj g))
framed_conjs ps k n t g = framed_pred (any_of ps) k n t g

framed_lits : (ls ps : List Pred) (k : List Awaited) (n : ℕ) (t : Lexeme) → TakesPred k → IsFramed (feed_lits ls (conjs ps ∷ k) n t) (feed_lits ls (conjs ps ∷ k ++ stated) n t)
framed_lits ls ps k n (word words.And) g = (refl, at_literal (in_conj g))
framed_lits ls ps k n t g = framed_conjs (ps ++ all_of ls ∷ []) k n t g

framed : (a : List Awaited) (n : ℕ) (t : Lexeme) → IsAlone a → IsFramed (feed_all a n t) (feed_all (a ++ stated) n t)
framed _ n t (at_literal {k = k} g) = framed_literal k n t g
framed _ n t (at_lits {ls = ls} {ps = ps} {k = k} g) = framed_lits ls ps k n t g
framed _ n t (at_dot {a = a} {k = k} g) = framed_sign signs.Dot (second a ∷ k) n t (at_second g)
framed _ n t (at_second {a = a} {k = k} g) = framed_second a k n t g
framed _ n t (at_equals {f = f} {k = k} g) = framed_sign signs.Equals (value_of f ∷ k) n t (at_value g)
framed _ n t (at_value {f = f} {k = k} g) = framed_value f k n t g

-- An arrow ends every predicate alone.

no_arrow_value : (f : Tested) → test_of f (sign signs.Arrow) ≡ None
no_arrow_value tested.EthSrc = refl
no_arrow_value _ = refl

no_arrow : (a : List Awaited) (n : ℕ) → IsAlone a → feed_all a n (sign signs.Arrow) ≡ None
no_arrow _ n (at_literal g) = refl
no_arrow _ n (at_lits nothing) = refl
no_arrow _ n (at_lits (in_bracket g)) = refl
no_arrow _ n (at_dot g) = refl
no_arrow _ n (at_second g) = refl
no_arrow _ n (at_equals g) = refl
no_arrow _ n (at_value {f = f} {k = k} g) = ap (λ o. then_some o (λ test. Some (awaiting (put (Tests test) k) n))) (no_arrow_value f)

not_zero : {A : Type 0} {m : ℕ} → (let r : Result A ℕ = Err (suc m) in r) ≡ Err 0 → ⊥
not_zero e = cc

pub arrow_stops : (ts z : List Lexeme) (a : List Awaited) (n : ℕ) → IsAlone a → run (ts ++ sign signs.Arrow ∷ z) (awaiting a n) ≡ Err 0 → ⊥
arrow_stops [] z a n g e = not_zero (sym (ap (λ o. next_step o (suc (length z)) (λ u. run z u)) (no_arrow a n g)) ∙ e)
arrow_stops (t ∷ ts) z a n g e = by (feed_all a n t) (feed_all (a ++ stated) n t) (framed a n t g) (λ u alone. arrow_stops ts z u.awaited u.left alone) e
  where
    by : (o r : Option State) → IsFramed o r → ((u : State) → IsAlone u.awaited → run (ts ++ sign signs.Arrow ∷ z) u ≡ Err 0 → ⊥) → next_step o (suc (length (ts ++ sign signs.Arrow ∷ z))) (λ u. run (ts ++ sign signs.Arrow ∷ z) u) ≡ Err 0 → ⊥
    by None r f ih e = not_zero e
    by (Some u) r f ih e = ih u f.1 e

-- The run over a predicate alone and the run over it in a statement.

abbrev pub IsStated : Result WholeText ℕ → Result WrittenPolicy ℕ → Type 0
IsStated (Ok (whole_predicate p)) r = r ≡ Ok (stating p)
IsStated (Ok (whole_policy w)) r = ⊥
IsStated (Err zero) r = r ≡ Err 3
IsStated (Err (suc m)) r = Unit {0}

stated_end : (a : List Awaited) (n : ℕ) → IsAlone a → IsStated (run_text [] (awaiting a n)) (run tail (awaiting (a ++ stated) n))
stated_end _ n (at_literal g) = refl
stated_end _ n (at_lits nothing) = refl
stated_end _ n (at_lits (in_bracket g)) = refl
stated_end _ n (at_dot g) = refl
stated_end _ n (at_second g) = refl
stated_end _ n (at_equals g) = refl
stated_end _ n (at_value {f = f} {k = k} g) = ap (λ o. next_step (then_some o (λ test. Some (awaiting (put (Tests test) (k ++ stated)) n))) 3 (λ u. run (sign signs.Dot ∷ sign signs.CloseList ∷ []) u)) (no_arrow_value f)

pub stated_run : (ts : List Lexeme) (a : List Awaited) (n : ℕ) → IsAlone a → IsStated (run_text ts (awaiting a n)) (run (ts ++ tail) (awaiting (a ++ stated) n))
stated_run [] a n g = stated_end a n g
stated_run (t ∷ ts) a n g = by (feed_all a n t) (feed_all (a ++ stated) n t) (framed a n t g) (λ u alone. stated_run ts u.awaited u.left alone)
  where
    by : (o r : Option State) → IsFramed o r → ((u : State) → IsAlone u.awaited → IsStated (run_text ts u) (run (ts ++ tail) (in_statement_of u))) → IsStated (next_text o (suc (length ts)) (λ u. run_text ts u)) (next_step r (suc (length (ts ++ tail))) (λ u. run (ts ++ tail) u))
    by None r f ih = tt
    by (Some u) r f ih = subst (λ x. IsStated (run_text ts u) (next_step x (suc (length (ts ++ tail))) (λ v. run (ts ++ tail) v))) (sym f.0) (ih u f.1)

-- The state that some lexemes lead to.

abbrev goes_on : Option State → (State → Option State) → Option State
goes_on None f = None
goes_on (Some s) f = f s

abbrev pub steps : List Lexeme → State → Option State
steps [] s = Some s
steps (t ∷ ts) s = goes_on (feed s t) (λ u. steps ts u)

pub first_step : (t : Lexeme) (ts : List Lexeme) (s u to : State) → feed s t ≡ Some u → steps ts u ≡ Some to → steps (t ∷ ts) s ≡ Some to
first_step t ts s u to e reached = ap (λ o. goes_on o (λ x. steps ts x)) e ∙ reached

some_inj : {A : Type 0} {x y : A} → Some x ≡ Some y → x ≡ y
some_inj e = cc

pub run_steps : (front y : List Lexeme) (s u : State) → steps front s ≡ Some u → run (front ++ y) s ≡ run y u
run_steps [] y s u e = ap (λ x. run y x) (some_inj e)
run_steps (t ∷ front) y s u e = by (feed s t) e (λ x. run_steps front y x u)
  where
    by : (o : Option State) → goes_on o (λ x. steps front x) ≡ Some u → ((x : State) → steps front x ≡ Some u → run (front ++ y) x ≡ run y u) → next_step o (suc (length (front ++ y))) (λ x. run (front ++ y) x) ≡ run y u
    by None e ih = cc
    by (Some x) e ih = ih x e

pub text_steps : (front y : List Lexeme) (s u : State) → steps front s ≡ Some u → run_text (front ++ y) s ≡ run_text y u
text_steps [] y s u e = ap (λ x. run_text y x) (some_inj e)
text_steps (t ∷ front) y s u e = by (feed s t) e (λ x. text_steps front y x u)
  where
    by : (o : Option State) → goes_on o (λ x. steps front x) ≡ Some u → ((x : State) → steps front x ≡ Some u → run_text (front ++ y) x ≡ run_text y u) → next_text o (suc (length (front ++ y))) (λ x. run_text (front ++ y) x) ≡ run_text y u
    by None e ih = cc
    by (Some x) e ih = ih x e

pub steps_good : (ts : List Lexeme) (s u : State) → Good s.awaited s.left → steps ts s ≡ Some u → Good u.awaited u.left
steps_good [] s u g e = subst (λ (x : State). Good x.awaited x.left) (some_inj e) g
steps_good (t ∷ ts) s u g e = by (feed s t) (kept s.awaited s.left t g) e (λ x. steps_good ts x u)
  where
    by : (o : Option State) → IsKept o → goes_on o (λ x. steps ts x) ≡ Some u → ((x : State) → Good x.awaited x.left → steps ts x ≡ Some u → Good u.awaited u.left) → Good u.awaited u.left
    by None g e ih = cc
    by (Some x) g e ih = ih x g e

-- the states that some lexemes lead to
pub stated_steps : (ts : List Lexeme) (s u : State) → IsAlone s.awaited → steps ts s ≡ Some u → (steps ts (in_statement_of s) ≡ Some (in_statement_of u)) × IsAlone u.awaited
stated_steps [] s u g e = subst (λ (x : State). (let o : Option State = Some (in_statement_of s) in o ≡ Some (in_statement_of x)) × IsAlone x.awaited) (some_inj e) (refl, g)
stated_steps (t ∷ ts) s u g e = by (feed_all s.awaited s.left t) (feed_all (s.awaited ++ stated) s.left t) (framed s.awaited s.left t g) (λ x alone. stated_steps ts x u alone) e
  where
    by : (o r : Option State) → IsFramed o r → ((x : State) → IsAlone x.awaited → steps ts x ≡ Some u → (steps ts (in_statement_of x) ≡ Some (in_statement_of u)) × IsAlone u.awaited) → goes_on o (λ x. steps ts x) ≡ Some u → (goes_on r (λ x. steps ts x) ≡ Some (in_statement_of u)) × IsAlone u.awaited
    by None r f ih e = cc
    by (Some x) r f ih e = let h = ih x f.1 e in (ap (λ o. goes_on o (λ y. steps ts y)) f.0 ∙ h.0, h.1)

pub unfinished : (a : List Awaited) → IsAlone a → finish_all a ≡ None
unfinished _ (at_literal g) = refl
unfinished _ (at_lits g) = refl
unfinished _ (at_dot g) = refl
unfinished _ (at_second g) = refl
unfinished _ (at_equals g) = refl
unfinished _ (at_value g) = refl
