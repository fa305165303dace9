-- Automata and paths between two hosts.
use Rattle.std.proofs.Common.{◌≡◌, ◌<◌, ◌↔◌, ℕ, zero, suc, Bool, true, false, not, IsTrue, List, [], ◌∷◌, length, Option, None, Some, is_some, is_none, slice_get, refl, sym, ◌∙◌, subst, arith}
use Rattle.std.specs.List.{AllByRecursion}
use Rattle.merlin_model.specs.declared.policy.Path.{Path}
use Rattle.merlin_model.specs.declared.policy.Symbol.{Symbol}
use Rattle.merlin_model.specs.Networks.{Network}
use Rattle.merlin_model.specs.Words.{IsSymbol, IsWalk}
use Rattle.merlin_model.specs.Paths.{InLanguage}
use Rattle.merlin_model.specs.Policies.{Policy, paths_of, IsOnPath}
use Rattle.path_automaton.specs.Automata.{AutomatonTables}
use Rattle.path_automaton.specs.States.{IsMadeOf}
use Rattle.path_automaton.proofs.Listed.{accepts-listed}
use Rattle.language_check.specs.Inclusion.{accepts_word, IsInclusionAnswer}
use Rattle.language_check.specs.Ways.{AreSymbolsOf}
use Rattle.policy_check.specs.Checked.{CheckedPolicy, automaton_of_statement, HasAutomata, IsAutomatonOfPath}
use Rattle.negotiator.specs.Between.{HasWalk, StaysWithin, AcceptsNothing}

clash : false ≡ true → ⊥
clash e = cc

same-some : {X : Type 0} (x y : X) → Some x ≡ Some y → x ≡ y
same-some x y e = cc

pub get-some : {X : Type 0} (xs : List X) (i : ℕ) → i < length xs → (x : X) × (slice_get xs i ≡ Some x)
get-some [] i lt = absurd (omega (arith, lt))
get-some (x ∷ xs) zero lt = (x, refl)
get-some (x ∷ xs) (suc i) lt = get-some xs i (omega arith)

pub made : (net : Network) (symbols : List Symbol) → AreSymbolsOf net symbols → (w : List Symbol) → AllByRecursion (IsSymbol net) w → IsMadeOf symbols w
made net symbols are [] h = tt
made net symbols are (x ∷ w) h = ((are.each x).1 h.0, made net symbols are w h.1)

pub not-not : (b : Bool) → not (not b) ≡ b
not-not true = refl
not-not false = refl

-- the automaton that stands at a statement accepts its words
pub record IsReadBy (symbols : List Symbol) (policy : Policy) (i : ℕ) (table : AutomatonTables) : Type 0 where
  pub path : Path
  pub has : slice_get (paths_of policy) i ≡ Some path
  pub of_path : IsAutomatonOfPath symbols path table

pub read-by : (symbols : List Symbol) (checked : CheckedPolicy) → HasAutomata symbols checked → (i : ℕ) → i < length (paths_of checked.policy) →
    (table : AutomatonTables) → automaton_of_statement checked i ≡ Some table → IsReadBy symbols checked.policy i table
read-by symbols checked have i lt table e =
    let at = get-some (paths_of checked.policy) i lt in
    let has = have i at.0 at.1 in
    record {
      path = at.0;
      has = at.1;
      of_path = subst (IsAutomatonOfPath symbols at.0) (same-some has.0 table (sym has.1 ∙ e)) has.2;
    }

pub width-of : (symbols : List Symbol) (policy : Policy) (i : ℕ) (table : AutomatonTables) → IsReadBy symbols policy i table → table.width ≡ length symbols
width-of symbols policy i table r = r.of_path.built.1.width

pub on-path : (net : Network) (symbols : List Symbol) → AreSymbolsOf net symbols → (policy : Policy) (i : ℕ) (table : AutomatonTables) → IsReadBy symbols policy i table →
    (s d : ℕ) (w : List Symbol) → IsWalk net s d w → (accepts_word symbols table w ≡ true) ↔ IsOnPath policy i w
on-path net symbols are policy i table r s d w walk =
    let law = accepts-listed symbols r.path table r.of_path.words w (made net symbols are w walk.symbols) in (
      λ a. record { path = r.path; has = r.has; described = law.0 a },
      λ o. law.1 (subst (λ p. InLanguage p w) (same-some o.path r.path (sym o.has ∙ r.has)) o.described),
    )

pub walks-decided : (net : Network) (symbols : List Symbol) → AreSymbolsOf net symbols → (policy : Policy) (i : ℕ) (table none : AutomatonTables) → IsReadBy symbols policy i table →
    AcceptsNothing symbols none → (s d : ℕ) (found : Option (List Symbol)) → IsInclusionAnswer net symbols table none s d found → IsTrue (is_some found) ↔ HasWalk net policy s d i
walks-decided net symbols are policy i table none r nothing s d None answer =
    (λ t. absurd (clash t), λ h. absurd (nothing.none h.0 (made net symbols are h.0 h.1.symbols) (answer h.0 h.1 ((on-path net symbols are policy i table r s d h.0 h.1).1 h.2))))
walks-decided net symbols are policy i table none r nothing s d (Some w) answer =
    (λ t. (w, answer.0.walk, (on-path net symbols are policy i table r s d w answer.0.walk).0 answer.0.accepted), λ h. refl)

pub stays-decided : (net : Network) (symbols : List Symbol) → AreSymbolsOf net symbols → (parent child : Policy) (i j : ℕ) (table other : AutomatonTables) →
    IsReadBy symbols child i table → IsReadBy symbols parent j other → (s d : ℕ) (found : Option (List Symbol)) → IsInclusionAnswer net symbols table other s d found →
    IsTrue (is_none found) ↔ StaysWithin net parent child s d i j
stays-decided net symbols are parent child i j table other r q s d None answer =
    (λ t w walk on. (on-path net symbols are parent j other q s d w walk).0 (answer w walk ((on-path net symbols are child i table r s d w walk).1 on)), λ h. refl)
stays-decided net symbols are parent child i j table other r q s d (Some w) answer = (
  λ t. absurd (clash t),
  λ h. absurd (clash (sym answer.0.refused
      ∙ (on-path net symbols are parent j other q s d w answer.0.walk).1 (h w answer.0.walk ((on-path net symbols are child i table r s d w answer.0.walk).0 answer.0.accepted)))),
)
