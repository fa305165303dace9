-- The bound that takes each flow by itself.
use Rattle.std.specs.Prelude.{ℕ, ◌≡◌, false, List, [], ◌∷◌, map, sum, Option, None, Some, slice_get}
use Rattle.std.specs.Option.{option_map_or}
use Rattle.merlin_model.specs.declared.network.DirectedLink.{DirectedLink}
use Rattle.merlin_model.specs.declared.policy.Objective.{Objective}
use Rattle.merlin_model.specs.declared.policy.Objective.TheVariants as objective
use Rattle.merlin_model.specs.declared.policy.Value.{Value}
use Rattle.merlin_model.specs.declared.policy.Value.TheVariants.{Whole}
use Rattle.merlin_model.specs.Assignments.{greatest_ratio, ratio_lt, ratio_value}
use Rattle.cutoff_program.specs.Flows.{variables_of, cost_of_variable}
use Rattle.cutoff_program.specs.declared.flow.Flow.{Flow}
use Rattle.cutoff_program.specs.declared.flow.Problem.{Problem}
use Rattle.cutoff_program.specs.declared.flow.Variable.{Variable}
use Rattle.cutoff_program.specs.Easy.{IsTrailThrough, IsLeastSum, MayAt, EachFlowHas}
use Rattle.program_walks.specs.Loads.{value_by_walks}

-- the link that an edge crosses, if it crosses one
abbrev pub link_crossed : Problem → Option ℕ → Option DirectedLink
link_crossed problem None = None
link_crossed problem (Some l) = slice_get problem.links l

-- The share of a crossing, as a pair: for the greatest ratio the rate per capacity, for the greatest load the rate.
abbrev pub share_on_link : Objective → ℕ → Option DirectedLink → ℕ × ℕ
share_on_link objective.Ratio rate (Some link) = (rate, link.capacity)
share_on_link objective.Reserved rate (Some link) = (rate, 1)
share_on_link _ rate _ = (0, 1)

abbrev pub share_of_variable : Problem → Variable → ℕ × ℕ
share_of_variable problem v = share_on_link problem.objective v.rate (link_crossed problem v.edge.crosses)

abbrev pub share_by_number : Problem → ℕ → ℕ × ℕ
share_by_number problem k = option_map_or (share_of_variable problem) (slice_get (variables_of problem) k) (0, 1)

-- a trail counts its greatest share
abbrev pub greatest_share : Problem → List ℕ → ℕ × ℕ
greatest_share problem trail = greatest_ratio (map (share_by_number problem) trail)

-- a flow counts the least among its trails, over variables that may be 1 without a cutoff
pub record IsLeastShare (problem : Problem) (n : ℕ) (flow : Flow) (share : ℕ × ℕ) : Type 0 where
  pub trail : List ℕ
  pub through : IsTrailThrough problem (MayAt problem None) n flow trail
  pub reached : greatest_share problem trail ≡ share
  pub no_less : (other : List ℕ) → IsTrailThrough problem (MayAt problem None) n flow other →
      ratio_lt (greatest_share problem other) share ≡ false

-- the same of what a trail costs
abbrev pub IsLeastCost : Problem → ℕ → Flow → ℕ → Type 0
IsLeastCost problem n flow cost = IsLeastSum problem (MayAt problem None) n flow (cost_of_variable problem) cost

abbrev pub AreLeastCosts : Problem → List ℕ → Type 0
AreLeastCosts problem costs = EachFlowHas (IsLeastCost problem) 0 problem.flows costs

abbrev pub AreLeastShares : Problem → List (ℕ × ℕ) → Type 0
AreLeastShares problem shares = EachFlowHas (IsLeastShare problem) 0 problem.flows shares

abbrev pub IsSumOfCosts : Problem → ℕ → Type 0
IsSumOfCosts problem total = (costs : List ℕ) × AreLeastCosts problem costs × (total ≡ sum costs)

-- the greatest of the least shares, as the first that is as great
abbrev pub IsGreatestOfShares : Problem → ℕ × ℕ → Type 0
IsGreatestOfShares problem share = (shares : List (ℕ × ℕ)) × AreLeastShares problem shares × (share ≡ greatest_ratio shares)

-- the bound as the objective has it
abbrev pub IsBoundAs : Objective → Problem → Value → Type 0
IsBoundAs objective.Shortest problem value = (total : ℕ) × IsSumOfCosts problem total × (value ≡ Whole total)
IsBoundAs objective.Ratio problem value = (share : ℕ × ℕ) × IsGreatestOfShares problem share × (value ≡ ratio_value share)
IsBoundAs objective.Reserved problem value = (share : ℕ × ℕ) × IsGreatestOfShares problem share × (value ≡ Whole share.0)

-- without a flow it is the value of no walks
abbrev pub IsBoundOver : List Flow → Problem → Value → Type 0
IsBoundOver [] problem value = value ≡ value_by_walks problem []
IsBoundOver (flow ∷ flows) problem value = IsBoundAs problem.objective problem value

-- a flow has no trail over variables that may be 1 without a cutoff
abbrev pub IsWithoutTrail : Problem → ℕ → Flow → Type 0
IsWithoutTrail problem n flow = (trail : List ℕ) → ¬ IsTrailThrough problem (MayAt problem None) n flow trail

pub record HasFlowWithoutTrail (problem : Problem) : Type 0 where
  pub n : ℕ
  pub flow : Flow
  pub stands : slice_get problem.flows n ≡ Some flow
  pub none : IsWithoutTrail problem n flow

-- there is a bound exactly where each flow has a trail
abbrev pub IsSeparateBound : Problem → Option Value → Type 0
IsSeparateBound problem None = HasFlowWithoutTrail problem
IsSeparateBound problem (Some value) = IsBoundOver problem.flows problem value
