-- How wide trails are: a trail is as wide as the narrowest link that it crosses.
use Rattle.std.specs.Prelude.{ℕ, ◌≡◌, ◌&&◌, nat_le, Bool, true, List, map, Option, None, Some, MatchOption}
use Rattle.merlin_model.specs.declared.network.DirectedLink.{DirectedLink}
use Rattle.merlin_model.specs.declared.policy.Value.{Value}
use Rattle.merlin_model.specs.Programs.{is_chosen}
use Rattle.cutoff_program.specs.Flows.{variables_of}
use Rattle.cutoff_program.specs.declared.flow.Flow.{Flow}
use Rattle.cutoff_program.specs.declared.flow.Problem.{Problem}
use Rattle.cutoff_program.specs.declared.flow.Variable.{Variable}
use Rattle.cutoff_program.specs.Easy.{IsTrailThrough}
use Rattle.program_walks.specs.declared.crossing.TheConstants.{UNCROSSED}
use Rattle.program_walks.specs.Bounds.{link_crossed, greatest_share, IsLeastShare, IsWithoutTrail, HasFlowWithoutTrail, IsSumOfCosts, IsGreatestOfShares, IsBoundAs}

-- what an edge has room for that crosses such a link: a rate, and so wide a trail
abbrev pub has_width : ℕ → ℕ → Option DirectedLink → Bool
has_width width rate None = nat_le width UNCROSSED
has_width width rate (Some link) = nat_le rate link.capacity && nat_le width link.capacity

abbrev pub is_so_wide : Problem → ℕ → Variable → Bool
is_so_wide problem width v = has_width width v.rate (link_crossed problem v.edge.crosses)

abbrev pub wide_point : Problem → ℕ → List Bool
wide_point problem width = map (is_so_wide problem width) (variables_of problem)

abbrev pub IsWideAt : Problem → ℕ → ℕ → Type 0
IsWideAt problem width k = is_chosen (wide_point problem width) k ≡ true

-- some trail that is so wide has this greatest share
pub record IsShareAtWidth (problem : Problem) (n : ℕ) (flow : Flow) (width : ℕ) (share : ℕ × ℕ) : Type 0 where
  pub trail : List ℕ
  pub through : IsTrailThrough problem (IsWideAt problem width) n flow trail
  pub reached : greatest_share problem trail ≡ share

abbrev pub HasNoTrailAtWidth : Problem → ℕ → Flow → ℕ → Type 0
HasNoTrailAtWidth problem n flow width = (trail : List ℕ) → ¬ IsTrailThrough problem (IsWideAt problem width) n flow trail

abbrev pub IsShareIf : Problem → ℕ → Flow → ℕ → Option (ℕ × ℕ) → Type 0
IsShareIf problem n flow width found =
    MatchOption found (HasNoTrailAtWidth problem n flow width) (IsShareAtWidth problem n flow width)

-- the least share of a flow, or none where it has no trail
abbrev pub IsLeastShareIf : Problem → ℕ → Flow → Option (ℕ × ℕ) → Type 0
IsLeastShareIf problem n flow found =
    MatchOption found (IsWithoutTrail problem n flow) (IsLeastShare problem n flow)

-- the same over all flows, or none where some flow has no trail
abbrev pub IsSumIf : Problem → Option ℕ → Type 0
IsSumIf problem found = MatchOption found (HasFlowWithoutTrail problem) (IsSumOfCosts problem)

abbrev pub IsGreatestIf : Problem → Option (ℕ × ℕ) → Type 0
IsGreatestIf problem found = MatchOption found (HasFlowWithoutTrail problem) (IsGreatestOfShares problem)

abbrev pub IsBoundIf : Problem → Option Value → Type 0
IsBoundIf problem found = MatchOption found (HasFlowWithoutTrail problem) (IsBoundAs problem.objective problem)
