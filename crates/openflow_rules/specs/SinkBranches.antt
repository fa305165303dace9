-- Branches of best effort.
use Rattle.std.specs.Prelude.{ℕ, ◌≡◌, ◌≢◌, ◌<◌, ◌==◌, List, map, take, Option, None, Some, Contains, if◌then◌else◌}
use Rattle.merlin_model.specs.Networks.{Network, IsHost, Pairwise}
use Rattle.rules_model.specs.Products.{SymbolAutomaton, Vertex, start_of, LeadsToEnd, TreeFollows}
use Rattle.product_graph.specs.declared.span.Product.{Product}
use Rattle.product_graph.specs.Products.{vertices_of}
use Rattle.rule_tables.specs.declared.branches.Step.{Step}
use Rattle.rule_tables.specs.declared.branches.Branch.{Branch}
use Rattle.rule_tables.specs.Branches.{vertex_in, vertex_at, next_step_at, LeadsOn}

-- none where the end follows
abbrev pub before_end : ℕ → Option ℕ → Option ℕ
before_end end None = None
before_end end (Some j) = if j == end then None else Some j

-- the first so many vertices, each with the place of what follows it
pub record AreStepsBelow (product : Product) (next : ℕ → Option ℕ) (end n : ℕ) (steps : List Step) : Type 0 where
  pub vertices : map vertex_in steps ≡ take n (vertices_of product)
  pub follows : (k : ℕ) → k < n → next_step_at steps k ≡ Some (before_end end (next k))

-- all vertices for host d, once, each with what follows it in the sink tree; also each that an allowed walk starts from
pub record IsSinkBranch (net : Network) (a : SymbolAutomaton) (d : ℕ) (branch : Branch) : Type 0 where
  pub dest : branch.dest ≡ d
  pub follow : (k : ℕ) (v : Vertex) → vertex_at branch.steps k ≡ Some v →
      (us : List Vertex) × LeadsOn branch.steps k us × TreeFollows net a d v us
  pub all : (v : Vertex) (us : List Vertex) → TreeFollows net a d v us → Contains (map vertex_in branch.steps) v
  pub differ : Pairwise (λ u v. u ≢ v) (map vertex_in branch.steps)
  pub starts : (s : ℕ) (us : List Vertex) → IsHost net s → s ≢ d → LeadsToEnd net a d (start_of a s) us →
      Contains (map vertex_in branch.steps) (start_of a s)
