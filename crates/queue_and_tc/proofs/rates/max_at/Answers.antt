use Rattle.std.proofs.Common.{List, ℕ, Option, None, slice_get, ◌∙◌, ap}
use Rattle.std.specs.Prelude.{unwrap_or}
use Rattle.localise.specs.declared.localising.Rates.{Rates}
use Rattle.queue_and_tc.proofs.RatesByPlace.{max-at as by-place}
use Rattle.queue_and_tc.proofs.rates.max_at.Goals as goal

pub returns : goal.returns
returns c =
    c.most_at.ensures
    ∙ ap (λ (l : List (Option ℕ)). unwrap_or (slice_get l c.args.statement) None) (c.as_slice.ensures ∙ ap (λ (r : Rates). r.max) c.rates.ensures)
    ∙ by-place c.args.checked.now.policy.terms c.args.checked.now.policy.statements c.args.statement
