-- Two flows of 60 that must cross a link of 100.
use Rattle.std.specs.Prelude.{ℕ, ℤ, pos, zero, suc, List, [], ◌∷◌, Some}
use Rattle.merlin_model.specs.declared.certificate.Weight.{Weight}
use Rattle.merlin_model.specs.declared.policy.Objective.TheVariants as objective
use Rattle.cutoff_program.specs.declared.flow.Flow.{Flow}
use Rattle.cutoff_program.specs.declared.flow.Problem.{Problem}
use Rattle.merlin_model.specs.Programs.{Program}
use Rattle.merlin_model.specs.Trees.{root_box, least_value}

-- the least value of some weighted rows over all points
abbrev pub least_at_root : Program → List Weight → ℤ
least_at_root program weights = least_value program (root_box program) weights

abbrev pub over_link : Flow
over_link = record { rate = 60; vertices = 2; edges = record { from = 0; to = 1; crosses = Some 0 } ∷ [] }

abbrev pub two_over_link : Problem
two_over_link = record {
  flows = over_link ∷ over_link ∷ [];
  links = record { from = 0; out_port = 1; to = 1; in_port = 1; capacity = 100; back = 100; weight = 1 } ∷ [];
  objective = objective.Shortest;
}

-- least rates over the link, from the start to each vertex
abbrev pub rates_to : ℕ → ℕ → ℕ
rates_to n zero = 0
rates_to n (suc vertex) = 60

abbrev pub link_leaf : List Weight
link_leaf = record { row = 1; weight = pos 60 } ∷ record { row = 3; weight = pos 60 } ∷ record { row = 4; weight = pos 1 } ∷ []
