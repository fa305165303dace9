-- Leaves that are made from numbers at the vertices of flows.
use Rattle.std.specs.Prelude.{ℕ, zero, suc, ◌≡◌, ◌≤◌, ◌<◌, ◌+◌, ◌^◌, Bool, true, false, ℤ, pos, List, [], ◌∷◌, ◌++◌, map, length, sum_by, Option, None, Some, slice_get, ◌⊎◌}
use Rattle.std.specs.List.{range_with_len}
use Rattle.merlin_model.specs.declared.network.DirectedLink.{DirectedLink}
use Rattle.merlin_model.specs.declared.policy.Value.{Value}
use Rattle.merlin_model.specs.declared.certificate.Weight.{Weight}
use Rattle.cutoff_program.specs.declared.flow.Problem.{Problem}
use Rattle.cutoff_program.specs.declared.flow.Flow.{Flow}
use Rattle.cutoff_program.specs.declared.flow.Variable.{Variable}
use Rattle.cutoff_program.specs.Flows.{variables_of, room, last_of, is_on, count_if, length_of, cutoff_right}
use Rattle.cutoff_program.specs.Flows.{rate_over}
use Rattle.cutoff_program.specs.Easy.{MayIn, fixed_from}

-- Weights of all rows, from the first; a row whose weight is 0 is left out.

abbrev pub with_weight : ℕ → ℕ → List Weight → List Weight
with_weight row zero weights = weights
with_weight row (suc m) weights = record { row = row; weight = pos (suc m) } ∷ weights

abbrev pub weights_from : ℕ → List ℕ → List Weight
weights_from row [] = []
weights_from row (m ∷ ms) = with_weight row m (weights_from (row + 1) ms)

-- What is priced beside the rows of flows: nothing, the cutoff row, or one link's row, each with the weight 1.
pub data Pricing : Type 0 where
  Bare : Pricing
  Lengths : Pricing
  OnLink : (link : ℕ) → Pricing

-- the weights of the rows of flows are numbers at the vertices: flow by flow, vertex by vertex
abbrev pub flow_weights : (ℕ → ℕ → ℕ) → ℕ → List Flow → List ℕ
flow_weights at n [] = []
flow_weights at n (flow ∷ flows) = map (λ vertex. at n vertex) (range_with_len 0 (last_of flow + 1)) ++ flow_weights at (n + 1) flows

abbrev pub link_of : Pricing → Option ℕ
link_of Bare = None
link_of Lengths = None
link_of (OnLink link) = Some link

abbrev pub prices_lengths : Pricing → Bool
prices_lengths Bare = false
prices_lengths Lengths = true
prices_lengths (OnLink link) = false

abbrev pub link_weights : Option ℕ → ℕ → List DirectedLink → List ℕ
link_weights link n [] = []
link_weights link n (directed ∷ links) = count_if (is_on n link) 1 ∷ link_weights link (n + 1) links

abbrev pub row_weights : Problem → (ℕ → ℕ → ℕ) → Pricing → List ℕ
row_weights problem at pricing = flow_weights at 0 problem.flows ++ (link_weights (link_of pricing) 0 problem.links ++ count_if (prices_lengths pricing) 1 ∷ [])

abbrev pub leaf_from : Problem → (ℕ → ℕ → ℕ) → Pricing → List Weight
leaf_from problem at pricing = weights_from 0 (row_weights problem at pricing)

-- what an edge costs under a pricing
abbrev pub price_of : Problem → Pricing → Variable → ℕ
price_of problem Bare v = 0
price_of problem Lengths v = length_of problem.objective problem v
price_of problem (OnLink link) v = rate_over link v

abbrev pub capacity_of : Option DirectedLink → ℕ
capacity_of None = 0
capacity_of (Some directed) = directed.capacity

abbrev pub capacity_at : Problem → ℕ → ℕ
capacity_at problem link = capacity_of (slice_get problem.links link)

-- the right side of the priced row
abbrev pub priced_right : Problem → Option Value → Pricing → ℤ
priced_right problem cutoff Bare = pos 0
priced_right problem cutoff Lengths = cutoff_right cutoff (sum_by (length_of problem.objective problem) (variables_of problem))
priced_right problem cutoff (OnLink link) = room problem.objective cutoff (capacity_at problem link)

-- the priced link is one
abbrev pub IsPriced : Problem → Pricing → Type 0
IsPriced problem Bare = Unit {0}
IsPriced problem Lengths = Unit {0}
IsPriced problem (OnLink link) = link < length problem.links

-- an amount for each flow, added up
abbrev pub amounts_from : (ℕ → Flow → ℕ) → ℕ → List Flow → ℕ
amounts_from amount n [] = 0
amounts_from amount n (flow ∷ flows) = amount n flow + amounts_from amount (n + 1) flows

-- numbers at vertices that may be weights, 0 at each start
pub record AreSmallNumbers (at : ℕ → ℕ → ℕ) : Type 0 where
  pub start : (n : ℕ) → at n 0 ≡ 0
  pub low : (n vertex : ℕ) → at n vertex ≤ 2 ^ 60

module _ (problem : Problem) (cutoff : Option Value) (box : List (Option Bool)) where
  -- numbers at the vertices of a flow, 0 at its start, that rise along each permitted edge by no more than its term
  pub record IsPotential (n : ℕ) (f : Variable → ℕ) (at : ℕ → ℕ) : Type 0 where
    pub start : at 0 ≡ 0
    pub rises : (k : ℕ) (v : Variable) → slice_get (variables_of problem) k ≡ Some v → v.flow ≡ n → MayIn problem cutoff box k → at v.edge.to ≤ at v.edge.from + f v

  -- A flow adds an amount to a leaf: by a potential, or by what is fixed, with 0 at each vertex.
  pub record AddsByPotential (pricing : Pricing) (n : ℕ) (flow : Flow) (at : ℕ → ℕ) (amount : ℕ) : Type 0 where
    pub potential : IsPotential n (price_of problem pricing) at
    pub covers : amount ≤ at (last_of flow)

  pub record AddsByFixed (pricing : Pricing) (n : ℕ) (at : ℕ → ℕ) (amount : ℕ) : Type 0 where
    pub link : ℕ
    pub priced : pricing ≡ OnLink link
    pub zero_at : (vertex : ℕ) → at vertex ≡ 0
    pub covers : amount ≤ fixed_from problem cutoff box n link 0 (variables_of problem)

  abbrev pub Adds : Pricing → (ℕ → ℕ → ℕ) → (ℕ → Flow → ℕ) → ℕ → Flow → Type 0
  Adds pricing at amount n flow = AddsByPotential pricing n flow (at n) (amount n flow) ⊎ AddsByFixed pricing n (at n) (amount n flow)
