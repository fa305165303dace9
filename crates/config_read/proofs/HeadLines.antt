-- The second line of a result with an assignment, part by part.
use Rattle.std.proofs.Common.{◌≡◌, ℕ, List, ◌∷◌, ◌++◌, sym, ◌∙◌, arith}
use Rattle.std.proofs.lemmas.List.{append_cancel_left}
use Rattle.std.specs.Prelude.{codes}
use Rattle.merlin_model.specs.declared.policy.Objective.{Objective}
use Rattle.merlin_base.proofs.Cutting.{cut_once}
use Rattle.config_text.specs.Result.{objective_word}
use Rattle.config_read.specs.Heads.{IsWrittenValue, least_then}
use Rattle.config_read.proofs.HeadTexts.{objective_free}

pub no_objective : (text : List ℕ) → ((o : Objective) (rest : List ℕ) → text ≡ codes "objective " ++ (objective_word o ++ 32 ∷ rest) → ⊥) → (o : Objective) (value rest : List ℕ) → IsWrittenValue value → text ≡ least_then o value rest → ⊥
no_objective text none o value rest is e = none o (value ++ 10 ∷ rest) e

pub no_value : (text rest : List ℕ) (objective : Objective) → text ≡ codes "objective " ++ (objective_word objective ++ 32 ∷ rest) → ((value more : List ℕ) → IsWrittenValue value → rest ≡ value ++ 10 ∷ more → ⊥) → (o : Objective) (value more : List ℕ) → IsWrittenValue value → text ≡ least_then o value more → ⊥
no_value text rest objective e none o value more is h =
    none value more is
    (cut_once 32 (objective_word objective) (objective_word o) rest (value ++ 10 ∷ more) (objective_free 32 objective (omega arith)) (objective_free 32 o (omega arith))
    (append_cancel_left (codes "objective ") (objective_word objective ++ 32 ∷ rest) (objective_word o ++ 32 ∷ (value ++ 10 ∷ more)) (sym e ∙ h))).rest
