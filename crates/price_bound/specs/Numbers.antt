-- Numbers at the vertices of flows, one flow after the other.
use Rattle.std.specs.Prelude.{ℕ, ℤ, pos, negsuc, ◌≡◌, ◌<◌, ◌+◌, ◌⊎◌, List, map, take, length, Option, None, Some, Bool, slice_get}
use Rattle.std.specs.List.{range_with_len}
use Rattle.merlin_model.specs.declared.policy.Value.{Value}
use Rattle.merlin_model.specs.declared.certificate.Weight.{Weight}
use Rattle.merlin_model.specs.Programs.{Program}
use Rattle.merlin_model.specs.Trees.{RefutesBox}
use Rattle.cutoff_program.specs.declared.flow.Problem.{Problem}
use Rattle.cutoff_program.specs.declared.flow.Flow.{Flow}
use Rattle.cutoff_program.specs.Flows.{last_of, program_at}
use Rattle.cutoff_program.specs.Easy.{EachFlowHas, IsTrailThrough, MayIn}
use Rattle.price_candidates.specs.Leaves.{flow_weights, AreSmallNumbers}
use Rattle.price_candidates.specs.Tried.{IsLeastPath, IsFloorAt, IsUnreached, HasEdgesOf, HasFailed, IsLight, IsTried, leaf_by_costs, one_weight, only}
use Rattle.price_bound.specs.declared.costs.Costs.{Costs}
use Rattle.price_bound.specs.declared.costs.CostsFound.{CostsFound}
use Rattle.price_bound.specs.declared.costs.CostsFound.TheVariants.{Cut, Paths}

-- those of one flow
abbrev pub numbers_at : (ℕ → ℕ → ℕ) → ℕ → Flow → List ℕ
numbers_at at n flow = map (λ vertex. at n vertex) (range_with_len 0 (last_of flow + 1))

-- numbers that may be weights
pub record AreNumbers (problem : Problem) (numbers : List ℕ) : Type 0 where
  pub at : ℕ → ℕ → ℕ
  pub small : AreSmallNumbers at
  pub flat : numbers ≡ flow_weights at 0 problem.flows

-- a flow that is not reached
pub record IsCutAt (problem : Problem) (cutoff : Option Value) (box : List (Option Bool)) (numbers : List ℕ) : Type 0 where
  pub n : ℕ
  pub flow : Flow
  pub at : ℕ → ℕ
  pub stands : slice_get problem.flows n ≡ Some flow
  pub unreached : IsUnreached problem cutoff box n flow at
  pub flat : numbers ≡ flow_weights (only n at) 0 problem.flows

-- least costs and paths of the first so many flows, and the point of their edges
pub record AreCosts (problem : Problem) (cutoff : Option Value) (box : List (Option Bool)) (count : ℕ) (costs : Costs) : Type 0 where
  pub at : ℕ → ℕ → ℕ
  pub small : AreSmallNumbers at
  pub flat : costs.numbers ≡ flow_weights at 0 (take count problem.flows)
  pub paths : List (List ℕ)
  pub are_paths : EachFlowHas (IsLeastPath problem cutoff box at) 0 (take count problem.flows) paths
  pub of : HasEdgesOf problem paths costs.point

-- one more flow was added, or is not reached
abbrev pub IsAdded : Problem → Option Value → List (Option Bool) → ℕ → Costs → Option (List ℕ) → Type 0
IsAdded problem cutoff box n costs (Some numbers) = IsCutAt problem cutoff box numbers
IsAdded problem cutoff box n costs None = AreCosts problem cutoff box (n + 1) costs

abbrev pub ArePathsFound : Problem → Option Value → List (Option Bool) → CostsFound → Type 0
ArePathsFound problem cutoff box (Cut numbers) = IsCutAt problem cutoff box numbers
ArePathsFound problem cutoff box (Paths costs) = AreCosts problem cutoff box (length problem.flows) costs

-- what is tried of a link, for the first so many flows
pub record AreFloors (problem : Problem) (cutoff : Option Value) (box : List (Option Bool)) (link count : ℕ) (numbers : List ℕ) : Type 0 where
  pub at : ℕ → ℕ → ℕ
  pub small : AreSmallNumbers at
  pub flat : numbers ≡ flow_weights at 0 (take count problem.flows)
  pub floors : (n : ℕ) (flow : Flow) → n < count → slice_get problem.flows n ≡ Some flow → IsFloorAt problem cutoff box link at n flow

-- weights that refute, or the leaf that was tried does not
abbrev pub IsLeafTried : Program → List (Option Bool) → List Weight → Option (List Weight) → Type 0
IsLeafTried program box leaf None = ¬ RefutesBox program box leaf
IsLeafTried program box leaf (Some weights) = RefutesBox program box weights

-- each flow has a path that may be taken
abbrev pub EachIsReached : Problem → Option Value → List (Option Bool) → Type 0
EachIsReached problem cutoff box =
    (n : ℕ) (flow : Flow) → slice_get problem.flows n ≡ Some flow → (trail : List ℕ) × IsTrailThrough problem (MayIn problem cutoff box) n flow trail

-- and the same of a link: weights that refute, or what was tried does not, or it need not be tried
abbrev pub IsLinkTried : Problem → Option Value → List (Option Bool) → ℕ → Option (List Weight) → Type 0
IsLinkTried problem cutoff box link None = HasFailed problem cutoff box link ⊎ IsLight problem cutoff box link
IsLinkTried problem cutoff box link (Some weights) = RefutesBox (program_at problem cutoff) box weights

abbrev pub AreLinksTried : Problem → Option Value → List (Option Bool) → Option (List Weight) → Type 0
AreLinksTried problem cutoff box None =
    (link : ℕ) → link < length problem.links → HasFailed problem cutoff box link ⊎ IsLight problem cutoff box link
AreLinksTried problem cutoff box (Some weights) = RefutesBox (program_at problem cutoff) box weights

-- and of a row by itself, with the weight 1 or -1
abbrev pub DoesNotRefute : Program → List (Option Bool) → ℕ → Type 0
DoesNotRefute program box row = (weight : ℤ) → (weight ≡ pos 1) ⊎ (weight ≡ negsuc 0) → ¬ RefutesBox program box (one_weight row weight)

abbrev pub IsRowTried : Program → List (Option Bool) → ℕ → Option (List Weight) → Type 0
IsRowTried program box row None = DoesNotRefute program box row
IsRowTried program box row (Some weights) = RefutesBox program box weights

abbrev pub AreRowsTried : Program → List (Option Bool) → Option (List Weight) → Type 0
AreRowsTried program box None = (row : ℕ) → row < length program.rows → DoesNotRefute program box row
AreRowsTried program box (Some weights) = RefutesBox program box weights

-- Paths of least cost were found, and neither their costs nor a link refutes.
pub record ArePricesTried (problem : Problem) (cutoff : Option Value) (box : List (Option Bool)) (point : List Bool) : Type 0 where
  pub at : ℕ → ℕ → ℕ
  pub paths : List (List ℕ)
  pub tried : IsTried problem cutoff box at paths
  pub of : HasEdgesOf problem paths point
  pub lengths : ¬ RefutesBox (program_at problem cutoff) box (leaf_by_costs problem at)
  pub links : AreLinksTried problem cutoff box None

-- the leaf of these costs does not refute
abbrev pub DoNotRefute : Problem → Option Value → List (Option Bool) → List ℕ → Type 0
DoNotRefute problem cutoff box numbers = (at : ℕ → ℕ → ℕ) → numbers ≡ flow_weights at 0 problem.flows → ¬ RefutesBox (program_at problem cutoff) box (leaf_by_costs problem at)
