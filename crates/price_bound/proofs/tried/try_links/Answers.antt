use Rattle.std.proofs.Common.{◌∙◌, ◌⊎◌, subst}
use Rattle.std.specs.Option.{option_copied}
use Rattle.graph_search.proofs.Places.{no-more}
use Rattle.price_candidates.specs.Tried.{HasFailed, IsLight}
use Rattle.price_bound.specs.Numbers.{IsLinkTried}
use Rattle.price_bound.proofs.Looking.{all-reached}
use Rattle.price_bound.proofs.Steps.{more}
use Rattle.price_bound.proofs.tried.try_links.Goals as goal

pub try_link-requires-clause-reached : goal.try_link-requires-clause-reached
try_link-requires-clause-reached c = all-reached c.args.program.now.problem (option_copied c.args.cutoff) c.args.fixed.now c.args.point.now c.requires.paths

pub loop-link-preserved : goal.loop-link-preserved
loop-link-preserved c =
    let problem = c.args.program.now.problem in
    let cutoff = option_copied c.args.cutoff in
    let box = c.args.fixed.now in
    let link = c.loop-link.link in
    record {
      same = c.try_link.ensures.same ∙ c.loop-link.invariant.same;
      tried = more (λ k. HasFailed problem cutoff box k ⊎ IsLight problem cutoff box k) link c.loop-link.invariant.tried
          (subst (IsLinkTried problem cutoff box link) (no-more c.in_ok-weights.field-0 c.in_default.not-Some) c.in_ok-weights.ensures.tried);
    }
