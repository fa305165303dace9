-- The first two lines of a result.
use Rattle.std.specs.Prelude.{ℕ, ◌≡◌, ◌⊎◌, ◌+◌, ◌++◌, ◌∷◌, Bool, true, false, List, codes}
use Rattle.std.specs.Fmt.{decimal}
use Rattle.merlin_model.specs.declared.policy.Objective.{Objective}
use Rattle.config_text.specs.Loads.{ratio_text}
use Rattle.config_text.specs.Result.{objective_word}
use Rattle.config_lines.specs.Words.{HasFewDigits}

abbrev pub IsVersion : ℕ → Type 0
IsVersion version = (version ≡ 1) ⊎ (version ≡ 2)

abbrev pub outcome_word : Bool → List ℕ
outcome_word true = codes "ok\n"
outcome_word false = codes "infeasible\n"

-- the version, which is one digit, and whether there is an assignment
abbrev pub first_line : ℕ → Bool → List ℕ
first_line version feasible = codes "merlin " ++ (48 + version) ∷ 32 ∷ outcome_word feasible

-- a value as it is written: a number, or a load of a capacity
abbrev pub IsWrittenValue : List ℕ → Type 0
IsWrittenValue text =
    ((n : ℕ) × HasFewDigits n × (text ≡ decimal n))
    ⊎ ((load : ℕ) × (capacity : ℕ) × HasFewDigits load × HasFewDigits capacity × (text ≡ ratio_text load capacity))

-- the second line of a result with an assignment, and what stands behind it
abbrev pub least_then : Objective → List ℕ → List ℕ → List ℕ
least_then objective value more = codes "objective " ++ (objective_word objective ++ 32 ∷ (value ++ 10 ∷ more))

-- the second line of one without
abbrev pub infeasible_then : Objective → List ℕ → List ℕ
infeasible_then objective more = codes "objective " ++ (objective_word objective ++ 10 ∷ more)
