use Rattle.std.proofs.Common.{List, ℕ, slice_get, ◌∙◌, ap}
use Rattle.std.specs.Prelude.{unwrap_or}
use Rattle.localise.specs.declared.localising.Rates.{Rates}
use Rattle.queue_and_tc.proofs.RatesByPlace.{min-at as by-place}
use Rattle.queue_and_tc.proofs.rates.min_at.Goals as goal

pub returns : goal.returns
returns c =
    c.least_at.ensures
    ∙ ap (λ (l : List ℕ). unwrap_or (slice_get l c.args.statement) 0) (c.as_slice.ensures ∙ ap (λ (r : Rates). r.min) c.rates.ensures)
    ∙ by-place c.args.checked.now.policy.terms c.args.checked.now.policy.statements c.args.statement
