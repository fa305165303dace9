-- Branches of written walks.
use Rattle.std.specs.Prelude.{ℕ, suc, ◌≡◌, ◌<◌, ◌⊎◌, ◌++◌, nat_lt, List, [], ◌∷◌, length, map, Option, None, Some, if◌then◌else◌}
use Rattle.merlin_model.specs.declared.policy.Symbol.{Symbol}
use Rattle.rules_model.specs.Products.{SymbolAutomaton, Vertex}
use Rattle.rule_tables.specs.declared.branches.Branch.{Branch}
use Rattle.rule_tables.specs.declared.branches.Step.{Step}
use Rattle.rule_tables.specs.Branches.{vertex_in, next_step_at}
use Rattle.configuration_model.specs.Groups.{vertices_after}

-- the vertices of all symbols of a word, after a state
abbrev pub vertices_on_word : SymbolAutomaton → ℕ → List Symbol → List Vertex
vertices_on_word a q [] = []
vertices_on_word a q (x ∷ w) = record { symbol = x; state = a.step q x } ∷ vertices_on_word a (a.step q x) w

-- the place after k, if it is one of so many
abbrev pub place_after : ℕ → ℕ → Option ℕ
place_after count k = if nat_lt (suc k) count then Some (suc k) else None

-- all but the last, if there is a last
abbrev pub IsBeforeLast : List Symbol → List Symbol → Type 0
IsBeforeLast walk inner = ((walk ≡ []) × (inner ≡ [])) ⊎ ((last : Symbol) × (walk ≡ inner ++ last ∷ []))

-- the vertices of a word, each with the next one
pub record AreStepsAlong (a : SymbolAutomaton) (word : List Symbol) (steps : List Step) : Type 0 where
  pub vertices : map vertex_in steps ≡ vertices_on_word a 0 word
  pub follows : (k : ℕ) → k < length word → next_step_at steps k ≡ Some (place_after (length word) k)

-- the vertices of a walk before its end, each with the next one
pub record IsWalkBranch (a : SymbolAutomaton) (walk : List Symbol) (dest : ℕ) (branch : Branch) : Type 0 where
  pub dest_is : branch.dest ≡ dest
  pub vertices : map vertex_in branch.steps ≡ vertices_after a 0 walk
  pub follows : (k : ℕ) → k < length branch.steps → next_step_at branch.steps k ≡ Some (place_after (length branch.steps) k)
