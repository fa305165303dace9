use Rattle.std.proofs.Common.{ℕ, ◌≡◌, ◌<◌, ◌⊎◌}
use Rattle.std.specs.Option.{option_copied}
use Rattle.price_candidates.specs.Tried.{HasFailed, IsLight}
use Rattle.price_bound.proofs.tried.try_links.Given as goal

abbrev pub invariant-loop-link : goal.invariant-loop-link
invariant-loop-link l = record {
  same : l.workspace ≡ l.fn.workspace;
  tried : (k : ℕ) → k < l.link → HasFailed l.program.problem (option_copied l.cutoff) l.fixed k ⊎ IsLight l.program.problem (option_copied l.cutoff) l.fixed k;
}
