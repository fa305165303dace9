-- Boxes that a relaxation has to decide: those that are plainly closed, and those in which nothing is fixed while shortest paths
-- do not hinder one another.
use Rattle.std.specs.Prelude.{ℕ, ◌≡◌, ◌≢◌, ◌≤◌, ◌+◌, ◌==◌, Bool, true, false, pos, ◌≤ℤ◌, ◌<ℤ◌, List, [], ◌∷◌, sum, max, Option, None, Some, slice_get, if◌then◌else◌, Contains, ◌⊎◌}
use Rattle.std.specs.List.{AllByRecursion}
use Rattle.std.specs.List.Sorted.{IsStrictlyIncreasing}
use Rattle.merlin_model.specs.declared.policy.Objective.TheVariants as objective
use Rattle.merlin_model.specs.declared.policy.Value.{Value}
use Rattle.merlin_model.specs.declared.policy.Value.TheVariants.{Whole}
use Rattle.merlin_model.specs.declared.network.DirectedLink.{DirectedLink}
use Rattle.merlin_model.specs.Programs.{is_chosen}
use Rattle.merlin_model.specs.Trees.{fixed_at}
use Rattle.cutoff_program.specs.Flows.{rate_over, Problem, Flow, Variable, variables_of, program_at, room, last_of, cost_of_variable}
use Rattle.cutoff_program.specs.Trails.{IsTrailOf, sum_along}

-- a trail from a flow's start to its end over such variables
pub record IsTrailThrough (problem : Problem) (may : ℕ → Type 0) (n : ℕ) (flow : Flow) (trail : List ℕ) : Type 0 where
  pub steps : IsTrailOf (variables_of problem) n trail 0 (last_of flow)
  pub allowed : AllByRecursion may trail

-- the sum of some terms over some variables
abbrev pub sum_over : Problem → (Variable → ℕ) → List ℕ → ℕ
sum_over problem f ks = sum_along (variables_of problem) f ks

-- the least sum of some terms over such trails
pub record IsLeastSum (problem : Problem) (may : ℕ → Type 0) (n : ℕ) (flow : Flow) (f : Variable → ℕ) (least : ℕ) : Type 0 where
  pub trail : List ℕ
  pub through : IsTrailThrough problem may n flow trail
  pub reached : sum_over problem f trail ≡ least
  pub no_less : (other : List ℕ) → IsTrailThrough problem may n flow other → least ≤ sum_over problem f other

-- at a cutoff a variable may be 1; in a box it may be when it isn't fixed to 0 either
abbrev pub MayAt : Problem → Option Value → ℕ → Type 0
MayAt problem cutoff k = is_chosen (program_at problem cutoff).upper k ≡ true

abbrev pub MayIn : Problem → Option Value → List (Option Bool) → ℕ → Type 0
MayIn problem cutoff box k = MayAt problem cutoff k × (fixed_at box k ≢ Some false)

-- a list has, flow by flow, something that Q says of the flow and its number
abbrev pub EachFlowHas : {X : Type 0} → (Q : ℕ → Flow → X → Type 0) → ℕ → List Flow → List X → Type 0
EachFlowHas Q n [] [] = Unit {0}
EachFlowHas Q n (flow ∷ flows) (x ∷ xs) = Q n flow x × EachFlowHas Q (n + 1) flows xs
EachFlowHas Q n _ _ = ⊥

abbrev pub rate_if_fixed : Option Bool → Bool → ℕ → ℕ
rate_if_fixed (Some true) true rate = rate
rate_if_fixed _ _ rate = 0

module _ (problem : Problem) (cutoff : Option Value) (box : List (Option Bool)) where
  -- some flow has no permitted path
  pub record HasNoPermittedPath : Type 0 where
    pub n : ℕ
    pub flow : Flow
    pub stands : slice_get problem.flows n ≡ Some flow
    pub none : (trail : List ℕ) → ¬ IsTrailThrough problem (MayIn problem cutoff box) n flow trail

  -- the shortest permitted paths together cost at least the cutoff
  pub record CostsTooMuch : Type 0 where
    pub shortest : problem.objective ≡ objective.Shortest
    pub z : ℕ
    pub at : cutoff ≡ Some (Whole z)
    pub costs : List ℕ
    pub least : EachFlowHas (λ n flow cost. IsLeastSum problem (MayIn problem cutoff box) n flow (cost_of_variable problem) cost) 0 problem.flows costs
    pub too_much : z ≤ sum costs

  -- what a flow's variables that are fixed to 1 put on a link; the first of them has number k
  abbrev pub fixed_from : ℕ → ℕ → ℕ → List Variable → ℕ
  fixed_from n link k [] = 0
  fixed_from n link k (v ∷ vs) = rate_if_fixed (fixed_at box k) (v.flow == n) (rate_over link v) + fixed_from n link (k + 1) vs

  -- the least that a flow puts on a link: what is fixed, or what each of its permitted paths does, if that is more
  pub record IsFloor (link : ℕ) (n : ℕ) (flow : Flow) (floor : ℕ) : Type 0 where
    pub least : ℕ
    pub is_least : IsLeastSum problem (MayIn problem cutoff box) n flow (rate_over link) least
    pub greater : floor ≡ max (fixed_from n link 0 (variables_of problem)) least

  -- the floors on some link exceed its room
  pub record IsOverloaded : Type 0 where
    pub place : ℕ
    pub link : DirectedLink
    pub stands : slice_get problem.links place ≡ Some link
    pub floors : List ℕ
    pub are_floors : EachFlowHas (IsFloor place) 0 problem.flows floors
    pub over : room problem.objective cutoff link.capacity <ℤ pos (sum floors)

  pub data IsPlainlyClosed : Type 0 where
    Cut : HasNoPermittedPath → IsPlainlyClosed
    Dear : CostsTooMuch → IsPlainlyClosed
    Over : IsOverloaded → IsPlainlyClosed

module _ (problem : Problem) (cutoff : Option Value) where
  -- the variable lies on a shortest path of its flow
  pub record IsOnShortestPath (k : ℕ) : Type 0 where
    pub n : ℕ
    pub flow : Flow
    pub stands : slice_get problem.flows n ≡ Some flow
    pub trail : List ℕ
    pub through : IsTrailThrough problem (MayAt problem cutoff) n flow trail
    pub least : (other : List ℕ) → IsTrailThrough problem (MayAt problem cutoff) n flow other →
        sum_over problem (cost_of_variable problem) trail ≤ sum_over problem (cost_of_variable problem) other
    pub lies : Contains trail k

  -- all variables on shortest paths together fit on each link
  abbrev pub IsUncoupled : Type 0
  IsUncoupled =
      (place : ℕ) (link : DirectedLink) → slice_get problem.links place ≡ Some link →
      (ks : List ℕ) → IsStrictlyIncreasing ks → AllByRecursion IsOnShortestPath ks →
      pos (sum_over problem (rate_over place) ks) ≤ℤ room problem.objective cutoff link.capacity

  -- plainly closed; or nothing is fixed that could be 1, and shortest paths do not hinder one another
  abbrev pub IsEasy : List (Option Bool) → Type 0
  IsEasy box = IsPlainlyClosed problem cutoff box ⊎ (IsUncoupled × ((k : ℕ) → MayAt problem cutoff k → fixed_at box k ≡ None))
