-- The texts of a result, of no result and of a spent budget: the lines before the configuration, and the whole texts of
-- the last two, which have none.
use Rattle.std.specs.Prelude.{ℕ, ⊤, List, [], ◌∷◌, ◌++◌, map, zip, Option, None, Some, codes}
use Rattle.std.specs.List.{AllByRecursion}
use Rattle.merlin_model.specs.declared.certificate.Tree.{Tree}
use Rattle.merlin_model.specs.declared.policy.Objective.{Objective}
use Rattle.merlin_model.specs.declared.policy.Symbol.{Symbol}
use Rattle.merlin_model.specs.declared.policy.Value.{Value}
use Rattle.merlin_model.specs.Networks.{Network}
use Rattle.merlin_model.specs.Words.{IsSymbol}
use Rattle.config_text.specs.declared.loads.Load.{Load}
use Rattle.config_text.specs.Words.{words, line}
use Rattle.config_text.specs.Loads.{load_lines}
use Rattle.config_text.specs.Result.{objective_word, value_text, objective_text, walk_text, tree_lines}

-- a line for each walk, beside the id of its statement
abbrev pub walk_lines : Network → List (List ℕ × List Symbol) → List (List ℕ)
walk_lines net walks = map (λ walk. line (walk_text net walk)) walks

-- what stands before the configuration of a result
abbrev pub ok_head_lines : Network → Objective → Value → List (List ℕ × List Symbol) → List Load → List (List ℕ)
ok_head_lines net objective value walks loads =
    line (codes "merlin 2 ok") ∷ line (objective_text objective value) ∷ (walk_lines net walks ++ load_lines net loads)

-- the certificate, which ends each text
abbrev pub certificate_lines : Tree → List (List ℕ)
certificate_lines tree = line (codes "tree") ∷ (tree_lines tree ++ line (codes "end") ∷ [])

-- a word and a value
abbrev pub value_line : List ℕ → Value → List ℕ
value_line word value = line (words (word ∷ value_text value ∷ []))

-- the objective alone, where it has no value
abbrev pub objective_line : Objective → List ℕ
objective_line objective = line (words (codes "objective" ∷ objective_word objective ∷ []))

-- what stands before the certificate that no assignment is feasible
abbrev pub infeasible_head_lines : Objective → List (List ℕ)
infeasible_head_lines objective = line (codes "merlin 2 infeasible") ∷ objective_line objective ∷ []

-- The text that says that no assignment is feasible.
abbrev pub infeasible_lines : Objective → Tree → List (List ℕ)
infeasible_lines objective tree = infeasible_head_lines objective ++ certificate_lines tree

-- the best walks, if there are any, have symbols of the network
abbrev pub HasBestSymbols : Network → Option (Value × List (List Symbol)) → Type 0
HasBestSymbols net None = ⊤
HasBestSymbols net (Some best) = AllByRecursion (AllByRecursion (IsSymbol net)) best.1

-- The best walks that were found, with their value, if there are any. The ids are those of the guaranteed statements.
abbrev pub best_lines : Network → List (List ℕ) → Option (Value × List (List Symbol)) → List (List ℕ)
best_lines net ids None = line (codes "best none") ∷ []
best_lines net ids (Some best) = value_line (codes "best") best.0 ∷ walk_lines net (zip ids best.1)

-- what stands before the tree of a budget that is spent
abbrev pub budget_head_lines : Network → Objective → List (List ℕ) → Option (Value × List (List Symbol)) → Value → List (List ℕ)
budget_head_lines net objective ids best bound =
    line (codes "merlin 2 budget") ∷ objective_line objective ∷ (best_lines net ids best ++ value_line (codes "bound") bound ∷ [])

-- The text of a budget that is spent.
abbrev pub budget_lines : Network → Objective → List (List ℕ) → Option (Value × List (List Symbol)) → Value → Tree → List (List ℕ)
budget_lines net objective ids best bound tree = budget_head_lines net objective ids best bound ++ certificate_lines tree
