-- The run over a predicate alone is the grammar: what it reads stands for it, and it stops where no predicate goes on.
use Rattle.std.proofs.Common.{ℕ, ◌≡◌, ◌+◌, ◌-◌, ◌<◌, ◌≤◌, zero, suc, List, [], ◌∷◌, ◌++◌, Option, Some, None, Result, Ok, Err, ok_or, length, take, drop, refl, sym, ap, ◌∙◌, subst, append_assoc, append-nil, length-append, add-one, arith}
use Rattle.std.specs.List.{AllByRecursion}
use Rattle.std.proofs.Math.Seq.{take-append_seam, take-append-add}
use Rattle.merlin_model.specs.declared.policy.Pred.{Pred, No}
use Rattle.merlin_text.specs.declared.token.Sign.TheVariants as signs
use Rattle.policy_grammar.specs.declared.limits.TheConstants.{MAX_NESTING, MAX_TESTS}
use Rattle.policy_grammar.specs.declared.written.Item.{Item}
use Rattle.policy_grammar.specs.declared.written.Item.TheVariants.{One}
use Rattle.policy_grammar.specs.declared.written.WrittenPolicy.{WrittenPolicy}
use Rattle.policy_grammar.specs.Lexemes.{Lexeme, IsSpelled, sign}
use Rattle.policy_grammar.specs.Predicates.{Disj, spell_pred, pred_value, pred_tests}
use Rattle.policy_grammar.specs.Machine.{literal, lits, conjs, whole_pred, State, feed, run, awaiting}
use Rattle.policy_grammar.proofs.PredicateTexts.{ends_pred, pred_complete, pred_sound, PredRead}
use Rattle.policy_grammar.proofs.Closing.{Good, good_literal, in_conj, in_statement, closes}
use Rattle.policy_parser.specs.PredicateTexts.{StandForPredicate, BeginPredicate, IsPredicateFaultAt}
use Rattle.policy_parser.specs.Readers.{WholeText, whole_policy, whole_predicate, finish_text, next_text, run_text, first_pred}
use Rattle.policy_parser.proofs.WholeTexts.{policy_alone, policy_run}
use Rattle.policy_parser.proofs.Alone.{IsAlone, start_alone, stated, in_statement_of, tail, stating, arrow_stops, IsStated, stated_run, steps, first_step, run_steps, text_steps, steps_good, stated_steps, unfinished}

-- Where an arrow follows in one list and in another.

data Cut (l t s r : List Lexeme) : Type 0 where
  here : l ≡ s → t ≡ r → Cut l t s r
  after : (x : List Lexeme) → l ≡ s ++ sign signs.Arrow ∷ x → Cut l t s r
  before : (z : List Lexeme) → s ≡ l ++ sign signs.Arrow ∷ z → Cut l t s r

head_same : {A : Type 0} {x y : A} {xs ys : List A} → x ∷ xs ≡ y ∷ ys → x ≡ y
head_same e = cc

tail_same : {A : Type 0} {x y : A} {xs ys : List A} → x ∷ xs ≡ y ∷ ys → xs ≡ ys
tail_same e = cc

cons_same : {A : Type 0} {x y : A} {xs ys : List A} → x ≡ y → xs ≡ ys → x ∷ xs ≡ y ∷ ys
cons_same p q = cc

cut : (l t s r : List Lexeme) → l ++ sign signs.Arrow ∷ t ≡ s ++ sign signs.Arrow ∷ r → Cut l t s r
cut [] t [] r e = here refl (tail_same e)
cut [] t (x ∷ s) r e = before s (cons_same (sym (head_same e)) refl)
cut (x ∷ l) t [] r e = after l (cons_same (head_same e) refl)
cut (x ∷ l) t (y ∷ s) r e = by (cut l t s r (tail_same e))
  where
    by : Cut l t s r → Cut (x ∷ l) t (y ∷ s) r
    by (here p q) = here (cons_same (head_same e) p) q
    by (after z p) = after z (cons_same (head_same e) p)
    by (before z p) = before z (cons_same (sym (head_same e)) p)

-- the arrow of a statement follows its predicate
arrow_next : (rest : List Lexeme) (p : Pred) (n : ℕ) (w : WrittenPolicy) → run rest (awaiting (whole_pred p ∷ stated) n) ≡ Ok w → (after : List Lexeme) × (rest ≡ sign signs.Arrow ∷ after)
arrow_next [] p n w e = cc
arrow_next (sign signs.Arrow ∷ rest) p n w e = (rest, refl)
arrow_next (_ ∷ rest) p n w e = cc

-- the predicate of the first statement
abbrev pred_of_first : List Item → Pred
pred_of_first (One s ∷ _) = s.pred
pred_of_first _ = No

ok_inj : {A B : Type 0} {x y : A} → (let r : Result A B = Ok x in r) ≡ Ok y → x ≡ y
ok_inj e = cc

same_pred : (p q : Pred) → (let r : Result WrittenPolicy ℕ = Ok (stating p) in r) ≡ Ok (stating q) → p ≡ q
same_pred p q e = ap (λ (w : WrittenPolicy). pred_of_first w.items) (ok_inj e)

not_both : {A B : Type 0} {x : Result A B} {y : A} {m : B} → x ≡ Err m → x ≡ Ok y → ⊥
not_both p q = cc

not_zero : {A : Type 0} {m : ℕ} → (let r : Result A ℕ = Err (suc m) in r) ≡ Err 0 → ⊥
not_zero e = cc

-- A predicate, run alone and in a statement.

spare : (d : Disj) → pred_tests d ≤ MAX_TESTS → pred_tests d + (MAX_TESTS - pred_tests d) ≡ MAX_TESTS
spare d h = omega arith

alone_runs : (l : List Lexeme) (p : Pred) → StandForPredicate l p → run l first_pred ≡ Err 0
alone_runs l p s =
    ap (λ n. run l (awaiting (literal ∷ lits [] ∷ conjs [] ∷ []) n)) (sym (spare s.phrase s.within.tests))
    ∙ ap (λ ts. run ts (awaiting (literal ∷ lits [] ∷ conjs [] ∷ []) (pred_tests s.phrase + (MAX_TESTS - pred_tests s.phrase)))) (sym s.spelled ∙ sym (append-nil (spell_pred s.phrase)))
    ∙ pred_complete s.phrase [] [] (MAX_TESTS - pred_tests s.phrase) refl (omega (arith, s.within.depth))

stated_runs : (l : List Lexeme) (p : Pred) → StandForPredicate l p → run (l ++ tail) (in_statement_of first_pred) ≡ Ok (stating p)
stated_runs l p s =
    ap (λ n. run (l ++ tail) (awaiting (literal ∷ lits [] ∷ conjs [] ∷ stated) n)) (sym (spare s.phrase s.within.tests))
    ∙ ap (λ ts. run (ts ++ tail) (awaiting (literal ∷ lits [] ∷ conjs [] ∷ stated) (pred_tests s.phrase + (MAX_TESTS - pred_tests s.phrase)))) (sym s.spelled)
    ∙ pred_complete s.phrase tail stated (MAX_TESTS - pred_tests s.phrase) refl (omega (arith, s.within.depth))
    ∙ ap (λ q. let r : Result WrittenPolicy ℕ = Ok (stating q) in r) s.is

-- What stands for a predicate is read as it.

pub complete : (l : List Lexeme) (p : Pred) → StandForPredicate l p → run_text l first_pred ≡ Ok (whole_predicate p)
complete l p s = by (run_text l first_pred) refl (stated_run l first_pred.awaited first_pred.left start_alone) (policy_run l first_pred)
  where
    by : (r : Result WholeText ℕ) → run_text l first_pred ≡ r → IsStated r (run (l ++ tail) (in_statement_of first_pred)) → run l first_pred ≡ policy_alone r → run_text l first_pred ≡ Ok (whole_predicate p)
    by (Ok (whole_predicate q)) e h o = e ∙ ap (λ x. let r : Result WholeText ℕ = Ok (whole_predicate x) in r) (same_pred q p (sym h ∙ stated_runs l p s))
    by (Ok (whole_policy w)) e h o = absurd h
    by (Err zero) e h o = absurd (not_both h (stated_runs l p s))
    by (Err (suc m)) e h o = absurd (not_zero (sym o ∙ alone_runs l p s))

-- What is read as a predicate stands for it.

arrow_in : (l x s : List Lexeme) → s ≡ l ++ sign signs.Arrow ∷ x → run s first_pred ≡ Err 0 → ⊥
arrow_in l x s e r = arrow_stops l x first_pred.awaited first_pred.left start_alone (sym (ap (λ ts. run ts first_pred) e) ∙ r)

tree_alone : (l : List Lexeme) (w : WrittenPolicy) (d : PredRead l stated MAX_TESTS w) → run (spell_pred d.tree) first_pred ≡ Err 0
tree_alone l w d = alone_runs (spell_pred d.tree) (pred_value d.tree) (record { phrase = d.tree; spelled = refl; is = refl; within = record { depth = omega (arith, d.deep); tests = omega (arith, d.tests) } })

pub sound : (l : List Lexeme) (p : Pred) → run_text l first_pred ≡ Ok (whole_predicate p) → StandForPredicate l p
sound l p e =
    let told : run (l ++ tail) (in_statement_of first_pred) ≡ Ok (stating p) = subst (λ r. IsStated r (run (l ++ tail) (in_statement_of first_pred))) e (stated_run l first_pred.awaited first_pred.left start_alone) in
    let alone : run l first_pred ≡ Err 0 = policy_run l first_pred ∙ ap policy_alone e in
    let d = pred_sound (l ++ tail) stated MAX_TESTS (stating p) (omega arith) told in
    let next = arrow_next d.rest (pred_value d.tree) d.spare (stating p) d.goes in
    by d alone next.0 next.1 (cut l (sign signs.Dot ∷ sign signs.CloseList ∷ []) (spell_pred d.tree) next.0 (d.spelled ∙ ap (λ xs. spell_pred d.tree ++ xs) next.1))
  where
    by : (d : PredRead (l ++ tail) stated MAX_TESTS (stating p)) → run l first_pred ≡ Err 0 → (r : List Lexeme) → d.rest ≡ sign signs.Arrow ∷ r → Cut l (sign signs.Dot ∷ sign signs.CloseList ∷ []) (spell_pred d.tree) r → StandForPredicate l p
    by d alone r is (here same path) = record {
      phrase = d.tree;
      spelled = sym same;
      is = same_pred (pred_value d.tree) p (sym (ap (λ ts. run ts (awaiting (whole_pred (pred_value d.tree) ∷ stated) d.spare)) (is ∙ ap (λ xs. sign signs.Arrow ∷ xs) (sym path))) ∙ d.goes);
      within = record { depth = omega (arith, d.deep); tests = omega (arith, d.tests) };
    }
    by d alone r is (after x e) = absurd (arrow_in (spell_pred d.tree) x l e alone)
    by d alone r is (before z e) = absurd (arrow_in l z (spell_pred d.tree) e (tree_alone (l ++ tail) (stating p) d))

-- Where the run stops.

abbrev IsStuck : List Lexeme → State → Type 0
IsStuck [] u = finish_text u.awaited ≡ None
IsStuck (t ∷ _) u = feed u t ≡ None

record Stopped (ts : List Lexeme) (s : State) (m : ℕ) : Type 0 where
  front : List Lexeme
  rest : List Lexeme
  to : State
  is : ts ≡ front ++ rest
  count : length rest ≡ m
  reached : steps front s ≡ Some to
  stuck : IsStuck rest to

err_inj : {A B : Type 0} {x y : B} → (let r : Result A B = Err x in r) ≡ Err y → x ≡ y
err_inj e = cc

stopped : (ts : List Lexeme) (s : State) (m : ℕ) → run_text ts s ≡ Err m → Stopped ts s m
stopped [] s m e = by (finish_text s.awaited) refl e
  where
    by : (o : Option WholeText) → finish_text s.awaited ≡ o → ok_or o zero ≡ Err m → Stopped [] s m
    by None q e = record { front = []; rest = []; to = s; is = refl; count = err_inj e; reached = refl; stuck = q }
    by (Some x) q e = cc
stopped (t ∷ ts) s m e = by (feed s t) refl e (λ u. stopped ts u m)
  where
    by : (o : Option State) → feed s t ≡ o → next_text o (suc (length ts)) (λ u. run_text ts u) ≡ Err m → ((u : State) → run_text ts u ≡ Err m → Stopped ts u m) → Stopped (t ∷ ts) s m
    by None q e ih = record { front = []; rest = t ∷ ts; to = s; is = refl; count = err_inj e; reached = refl; stuck = q }
    by (Some u) q e ih =
        let a = ih u e in
        record { front = t ∷ a.front; rest = a.rest; to = a.to; is = ap (λ xs. t ∷ xs) a.is; count = a.count; reached = first_step t a.front s u a.to q a.reached; stuck = a.stuck }

-- The lexemes that lead somewhere begin a predicate.

data Front (l m s r : List Lexeme) : Type 0 where
  within : (z : List Lexeme) → s ≡ l ++ z → m ≡ z ++ r → Front l m s r
  past : (y : Lexeme) (x : List Lexeme) → l ≡ s ++ y ∷ x → r ≡ y ∷ (x ++ m) → Front l m s r

front_of : (l m s r : List Lexeme) → l ++ m ≡ s ++ r → Front l m s r
front_of [] m s r e = within s refl e
front_of (x ∷ l) m [] r e = past x l refl (sym e)
front_of (x ∷ l) m (y ∷ s) r e = by (front_of l m s r (tail_same e))
  where
    by : Front l m s r → Front (x ∷ l) m (y ∷ s) r
    by (within z p q) = within z (cons_same (sym (head_same e)) p) q
    by (past a b p q) = past a b (cons_same (head_same e) p) q

first_spelled : (z r : List Lexeme) → AllByRecursion IsSpelled (z ++ r) → AllByRecursion IsSpelled z
first_spelled [] r p = tt
first_spelled (t ∷ z) r p = (p.0, first_spelled z r p.1)

start_good : Good (in_statement_of first_pred).awaited (in_statement_of first_pred).left
start_good = good_literal (in_conj in_statement)

begins : (front : List Lexeme) (u : State) → steps front first_pred ≡ Some u → BeginPredicate front
begins front u reached =
    let there = stated_steps front first_pred u start_alone reached in
    let c = closes (in_statement_of u).awaited (in_statement_of u).left (steps_good front (in_statement_of first_pred) (in_statement_of u) start_good there.0) in
    let whole : run (front ++ c.more) (in_statement_of first_pred) ≡ Ok c.policy = run_steps front c.more (in_statement_of first_pred) (in_statement_of u) there.0 ∙ c.goes in
    let d = pred_sound (front ++ c.more) stated MAX_TESTS c.policy (omega arith) whole in
    by c.more c.policy c.spelled d there.1 (front_of front c.more (spell_pred d.tree) d.rest d.spelled)
  where
    by : (more : List Lexeme) (w : WrittenPolicy) → AllByRecursion IsSpelled more → (d : PredRead (front ++ more) stated MAX_TESTS w) → IsAlone u.awaited → Front front more (spell_pred d.tree) d.rest → BeginPredicate front
    by more w real d alone (within z p q) = record {
      more = z;
      spelled = first_spelled z d.rest (subst (λ xs. AllByRecursion IsSpelled xs) q real);
      pred = pred_value d.tree;
      stands = record { phrase = d.tree; spelled = p; is = refl; within = record { depth = omega (arith, d.deep); tests = omega (arith, d.tests) } };
    }
    by more w real d alone (past y x p q) =
        let next = arrow_next d.rest (pred_value d.tree) d.spare w d.goes in
        let arrow : y ≡ sign signs.Arrow = head_same (sym q ∙ next.1) in
        let here : front ≡ spell_pred d.tree ++ sign signs.Arrow ∷ x = p ∙ ap (λ t. spell_pred d.tree ++ t ∷ x) arrow in
        let ends : run front first_pred ≡ Err 0 = ap (λ ts. run ts first_pred) (sym (append-nil front)) ∙ run_steps front [] first_pred u reached ∙ ap (λ o. let r : Result WrittenPolicy ℕ = ok_or o 0 in r) (unfinished u.awaited alone) in
        absurd (arrow_in (spell_pred d.tree) x front here ends)

no_more : (front rest : List Lexeme) (u : State) → steps front first_pred ≡ Some u → IsStuck rest u → 0 < length rest → BeginPredicate (take (suc (length front)) (front ++ rest)) → ⊥
no_more front [] u reached stuck some b = absurd (omega arith)
no_more front (t ∷ rest) u reached stuck some b =
    let whole : take (suc (length front)) (front ++ t ∷ rest) ≡ front ++ t ∷ [] = ap (λ n. take n (front ++ t ∷ rest)) (sym (add-one (length front))) ∙ take-append-add front (t ∷ rest) 1 in
    let text : take (suc (length front)) (front ++ t ∷ rest) ++ b.more ≡ front ++ t ∷ b.more = ap (λ xs. xs ++ b.more) whole ∙ append_assoc front (t ∷ []) b.more in
    not_both
    (text_steps front (t ∷ b.more) first_pred u reached ∙ ap (λ o. next_text o (suc (length b.more)) (λ x. run_text b.more x)) stuck)
    (ap (λ xs. run_text xs first_pred) (sym text) ∙ complete _ b.pred b.stands)

bounded : (ts : List Lexeme) (m : ℕ) → run_text ts first_pred ≡ Err m → m ≤ length ts
bounded ts m e = let a = stopped ts first_pred m e in omega (arith, ap length a.is, length-append a.front a.rest, a.count)

fault_at : (ts : List Lexeme) (m place : ℕ) → run_text ts first_pred ≡ Err m → place + m ≡ length ts → IsPredicateFaultAt ts place
fault_at ts m place e c =
    let a = stopped ts first_pred m e in
    let size : length ts ≡ length a.front + length a.rest = ap length a.is ∙ length-append a.front a.rest in
    let here : place ≡ length a.front = omega (arith, size, a.count) in
    let front : take place ts ≡ a.front = ap (λ n. take n ts) here ∙ ap (λ xs. take (length a.front) xs) a.is ∙ take-append_seam a.front a.rest in
    record {
      within = omega arith;
      before = subst BeginPredicate (sym front) (begins a.front a.to a.reached);
      token = λ h b. no_more a.front a.rest a.to a.reached a.stuck (omega (arith, a.count)) (subst BeginPredicate (ap (λ n. take (suc n) ts) here ∙ ap (λ xs. take (suc (length a.front)) xs) a.is) b);
      end = λ _ p s. not_both e (complete ts p s);
    }

-- The run stops where no predicate goes on.
pub fault : (ts : List Lexeme) (m : ℕ) → run_text ts first_pred ≡ Err m → (m ≤ length ts) × IsPredicateFaultAt ts (length ts - m)
fault ts m e = (bounded ts m e, fault_at ts m (length ts - m) e (omega (arith, bounded ts m e)))
