use Rattle.std.proofs.Common.{◌≡◌, ◌<◌, ◌≤◌, ◌↔◌, true, length, slice_index, sym, ◌∙◌, subst, arith}
use Rattle.fair_share.specs.Shares.{is_on_way, share_rates}
use Rattle.fair_share.proofs.Naming.{tops-take}
use Rattle.fair_share.proofs.Rates.{rates-long, rate-at}
use Rattle.fair_share.proofs.tops.top_all.Goals as goal

pub loop-index-preserved : goal.loop-index-preserved
loop-index-preserved c =
    let long : length (share_rates c.args.shares.now) ≡ length c.args.tenants.now = rates-long c.args.shares.now ∙ c.requires.as_many in
    let within : c.loop-index.index < length c.args.shares.now = (let t = c.loop-index-test.true in let a = c.requires.as_many in omega arith) in
    let at = rate-at c.args.shares.now c.loop-index.index within in
    tops-take c.args.caps.now c.args.tenants.now (share_rates c.args.shares.now) c.loop-index.tops c.top_up.new.tops c.loop-index.index c.index-tenants-index.result long (omega arith) c.index-tenants-index.is c.loop-index.invariant c.top_up.ensures.as_many
    (λ k m l. subst (λ n. (slice_index c.top_up.new.tops k ≤ m) ↔ ((slice_index c.loop-index.tops k ≤ m) × (is_on_way c.args.caps.now (length c.args.caps.now) c.index-tenants-index.result.under k ≡ true → n ≤ m))) (sym at) (c.top_up.ensures.each k m l))
