-- What is kept of verdicts between two hosts: of each statement of the child the last one.
use Rattle.std.specs.Prelude.{ℕ, ◌≡◌, ◌≢◌, ⊤, List, length, Option, None, Some, MatchOption}
use Rattle.std.specs.List.{slice_index_or}
use Rattle.merlin_model.specs.Policies.{paths_of}
use Rattle.negotiator.specs.declared.known.Known.{Known}
use Rattle.negotiator.specs.declared.verdicts.Case.{Case}
use Rattle.negotiator.specs.declared.verdicts.WalkVerdict.{WalkVerdict}
use Rattle.negotiator.specs.Between.{IsWalkVerdict}

abbrev pub known : ℕ → WalkVerdict → Known
known j verdict = record { parent = j; verdict = verdict }

-- the verdict that is kept with this statement of the parent, if there is one
abbrev pub IsKeptWith : Option Known → ℕ → Option WalkVerdict → Type 0
IsKeptWith kept j verdict = MatchOption verdict ((v : WalkVerdict) → kept ≢ Some (known j v)) (λ v. kept ≡ Some (known j v))

-- if a verdict is kept, it is so of this statement of the child and the kept one of the parent, between these hosts
abbrev pub KnowsVerdict : Case → ℕ → ℕ → ℕ → Option Known → Type 0
KnowsVerdict case s d i kept = MatchOption kept ⊤ (λ k. IsWalkVerdict case s d i k.parent k.verdict)

-- there is a place for each statement of the child, and what is kept there is so
pub record KnowsVerdicts (case : Case) (s d : ℕ) (kept : List (Option Known)) : Type 0 where
  pub count : length kept ≡ length (paths_of case.child.now.policy)
  pub each : (i : ℕ) → KnowsVerdict case s d i (slice_index_or kept i None)
