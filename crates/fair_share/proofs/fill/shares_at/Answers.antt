use Rattle.std.proofs.Common.{◌<◌, false, length, get_or, sym, ◌∙◌, ap, arith}
use Rattle.fair_share.specs.Shares.{share_rates}
use Rattle.fair_share.specs.Filling.{share_at}
use Rattle.fair_share.proofs.Filling.{level-step}
use Rattle.fair_share.proofs.Rates.{rate-at, rates-push}
use Rattle.fair_share.proofs.fill.shares_at.Goals as goal

pub loop-index-preserved : goal.loop-index-preserved
loop-index-preserved c =
    let within : c.loop-index.index < length c.args.shares.now = (let t = c.loop-index-test.true in let a = c.requires.shares in omega arith) in
    let at = rate-at c.args.shares.now c.loop-index.index within in
    level-step c.args.tenants.now (share_rates c.args.shares.now) c.args.rising.now c.args.level c.loop-index.index (share_rates c.loop-index.next.items) (share_rates c.push.new.self.items) c.index-tenants-index.result c.share_of-rate.result
    c.loop-index.invariant (omega arith) c.index-tenants-index.is
    (c.share_of-rate.ensures ∙ ap (λ n. share_at (get_or c.args.rising.now c.loop-index.index false) n c.index-tenants-index.result.demand c.args.level) (sym at))
    (ap share_rates c.in_ok-push.ensures.items ∙ rates-push c.loop-index.next.items _)
