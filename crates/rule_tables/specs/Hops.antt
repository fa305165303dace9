-- How frames leave the locations of vertices, by the places of vertices.
use Rattle.std.specs.Prelude.{ℕ, ◌≡◌, ◌==◌, ◌++◌, ⊤, Bool, false, List, [], Option, None, Some, Contains}
use Rattle.merlin_model.specs.Networks.{Network, AreLinked}
use Rattle.merlin_model.specs.Words.{functions_of}
use Rattle.rules_model.specs.Products.{Vertex, loc_of}
use Rattle.rules_model.specs.Tables.{TagKey, tag_key_of, functions_here, onward, onward_location, Hop, IsTagOn, IsHop}
use Rattle.rule_tables.specs.declared.branches.Step.{Step}
use Rattle.rule_tables.specs.declared.hops.Onward.{Onward}
use Rattle.rule_tables.specs.declared.hops.Hop.{Hop as MadeHop}
use Rattle.rule_tables.specs.Branches.{vertex_at}

abbrev pub stands_at : Option Vertex → ℕ → Bool
stands_at None loc = false
stands_at (Some v) loc = loc_of v == loc

-- the function of a vertex
abbrev pub functions_in : Option Vertex → List ℕ
functions_in None = []
functions_in (Some v) = functions_of v.symbol

-- the place is that of the onward vertex; none is the end
abbrev pub IsOnwardPlace : List Step → Option (Vertex × List Vertex) → Option ℕ → Type 0
IsOnwardPlace steps None None = ⊤
IsOnwardPlace steps None (Some k) = ⊥
IsOnwardPlace steps (Some next) None = ⊥
IsOnwardPlace steps (Some next) (Some k) = vertex_at steps k ≡ Some next.0

-- what runs at the location of vertex v, which us follow, and where the frame goes on
abbrev pub IsOnwardFrom : List Step → Vertex → List Vertex → Onward → Type 0
IsOnwardFrom steps v us o =
    (o.functions ≡ functions_of v.symbol ++ functions_here (loc_of v) us)
    × IsOnwardPlace steps (onward (loc_of v) us) o.next

-- the vertex where the frame goes on has a tag
abbrev pub IsTagged : List TagKey → ℕ → Option (Vertex × List Vertex) → Type 0
IsTagged tags g None = ⊤
IsTagged tags g (Some next) = Contains tags (tag_key_of g next.0)

-- the location where the frame goes on, and its tag there
abbrev pub IsGoingOn : List TagKey → ℕ → ℕ → Option (Vertex × List Vertex) → Option (ℕ × Option ℕ) → Type 0
IsGoingOn tags g d next None = ⊥
IsGoingOn tags g d next (Some found) = (found.0 ≡ onward_location d next) × IsTagOn tags g next found.1

-- a link leads on from the location of v, which us follow, to a vertex with a tag or to the end
pub record CanHop (net : Network) (tags : List TagKey) (g d : ℕ) (v : Vertex) (us : List Vertex) : Type 0 where
  pub linked : AreLinked net (loc_of v) (onward_location d (onward (loc_of v) us))
  pub tagged : IsTagged tags g (onward (loc_of v) us)

abbrev pub table_hop : MadeHop → Hop
table_hop h = record { functions = h.functions; link = h.link; tag = h.tag }

abbrev pub IsHopMade : Network → List TagKey → ℕ → ℕ → Vertex → List Vertex → Option MadeHop → Type 0
IsHopMade net tags g d v us None = ⊥
IsHopMade net tags g d v us (Some h) = IsHop net tags g d v us (table_hop h)
