-- Two flows of 60 from one host to another over a triangle of switches.
use Rattle.std.specs.Prelude.{ℕ, ℤ, ◌==◌, Bool, true, false, List, [], ◌∷◌, map, Option, None, Some}
use Rattle.merlin_model.specs.declared.policy.Value.{Value}
use Rattle.merlin_model.specs.declared.policy.Value.TheVariants.{Whole}
use Rattle.merlin_model.specs.declared.network.DirectedLink.{DirectedLink}
use Rattle.merlin_model.specs.declared.network.LocationKind.{LocationKind}
use Rattle.merlin_model.specs.declared.network.LocationKind.TheVariants.{Host, Switch}
use Rattle.merlin_model.specs.declared.network.Location.{Location}
use Rattle.merlin_model.specs.declared.network.Link.{Link}
use Rattle.merlin_model.specs.Networks.{Network}
use Rattle.merlin_model.specs.Words.{at}
use Rattle.rules_model.specs.Products.{SymbolAutomaton, Vertex}
use Rattle.cutoff_program.specs.Products.{Product}
use Rattle.merlin_model.specs.declared.policy.Objective.{Objective}
use Rattle.merlin_model.specs.declared.policy.Objective.TheVariants.{Shortest}
use Rattle.merlin_model.specs.Programs.{Program, row_at}
use Rattle.cutoff_program.specs.Flows.{FlowEdge, Flow, Problem}

abbrev pub below_421 : Option Value
below_421 = Some (Whole 421)

abbrev pub rights : Program → List ℤ
rights program = map (λ row. row.right) program.rows

abbrev pub right_of_row : Program → ℕ → ℤ
right_of_row program row = (row_at program row).right

abbrev pub edge : ℕ → ℕ → ℕ → FlowEdge
edge from to link = record { from = from; to = to; crosses = Some link }

abbrev pub over_triangle : Flow
over_triangle = record { rate = 60; vertices = 5; edges = edge 0 1 0 ∷ edge 1 2 4 ∷ edge 1 3 6 ∷ edge 2 1 5 ∷ edge 2 3 9 ∷ edge 2 4 3 ∷ edge 3 1 7 ∷ edge 3 2 8 ∷ [] }

abbrev pub of_capacity : ℕ → DirectedLink
of_capacity n = record { from = 0; out_port = 1; to = 1; in_port = 1; capacity = n; back = n; weight = 1 }

abbrev pub triangle : Objective → Problem
triangle objective = record {
  flows = over_triangle ∷ over_triangle ∷ [];
  links = of_capacity 1000 ∷ of_capacity 1000 ∷ of_capacity 1000 ∷ of_capacity 1000 ∷ of_capacity 100 ∷ of_capacity 100 ∷ of_capacity 100 ∷ of_capacity 100 ∷ of_capacity 100 ∷ of_capacity 100 ∷ [];
  objective = objective;
}

-- a flow for which no walk is allowed, over three links
abbrev pub cut_off : Problem
cut_off = record {
  flows = record { rate = 5; vertices = 0; edges = [] } ∷ [];
  links = of_capacity 1000 ∷ of_capacity 1000 ∷ of_capacity 1000 ∷ of_capacity 1000 ∷ [];
  objective = Shortest;
}

abbrev pub two_walks : List Bool
two_walks = true ∷ true ∷ false ∷ false ∷ false ∷ true ∷ false ∷ false ∷ true ∷ false ∷ true ∷ false ∷ false ∷ true ∷ false ∷ true ∷ []

abbrev pub all_shut : List Bool
all_shut = false ∷ false ∷ false ∷ false ∷ false ∷ false ∷ false ∷ false ∷ false ∷ false ∷ false ∷ false ∷ false ∷ false ∷ false ∷ false ∷ []

-- The same as a network: hosts at 0 and 1, switches at 2, 3 and 4.
abbrev pub place : ℕ → LocationKind → Location
place n kind = record { name = n ∷ []; kind = kind }

abbrev pub link : ℕ → ℕ → ℕ → ℕ → ℕ → Link
link a aport b bport capacity = record { a = a; aport = aport; b = b; bport = bport; capacity = capacity; back = capacity; weight = 1 }

abbrev pub triangle_net : Network
triangle_net = record {
  locations = place 0 (Host (record { eth = 1; ip = 1 })) ∷ place 1 (Host (record { eth = 2; ip = 2 })) ∷ place 2 Switch ∷ place 3 Switch ∷ place 4 Switch ∷ [];
  links = link 0 1 2 1 1000 ∷ link 1 1 3 1 1000 ∷ link 2 2 3 2 100 ∷ link 2 3 4 1 100 ∷ link 4 2 3 3 100 ∷ [];
  functions = [];
}

abbrev pub vertex : ℕ → Vertex
vertex loc = record { symbol = at loc; state = 0 }

-- The automaton of `.*`: it is in state 0 while no symbol had a function, then in state 1.

abbrev pub any_step : ℕ → Option ℕ → ℕ
any_step q None = q
any_step q (Some f) = 1

abbrev pub any_automaton : SymbolAutomaton
any_automaton = record { step = λ q x. any_step q x.fun; accepts = λ q. q == 0 }

-- from host 0 to host 1 on any way
abbrev pub triangle_product : Product
triangle_product = record {
  vertices = vertex 0 ∷ vertex 2 ∷ vertex 3 ∷ vertex 4 ∷ vertex 1 ∷ [];
  edges = (0, 1) ∷ (1, 2) ∷ (1, 3) ∷ (2, 1) ∷ (2, 3) ∷ (2, 4) ∷ (3, 1) ∷ (3, 2) ∷ [];
}
