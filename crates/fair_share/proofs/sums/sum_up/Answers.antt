use Rattle.std.proofs.Common.{◌≡◌, zero, ◌+◌, ◌<◌, length, get_or, cond, false, ◌==◌, sym, ◌∙◌, ap, arith}
use Rattle.std.proofs.lemmas.List.{length-replicate}
use Rattle.std.specs.Option.{option_map_or}
use Rattle.fair_share.specs.Shares.{share_rates}
use Rattle.fair_share.proofs.Pouring.{direct-none, direct-room, direct-step, direct-all}
use Rattle.fair_share.proofs.Rates.{rates-long, rate-at}
use Rattle.fair_share.proofs.sums.sum_up.Goals as goal

pub loop-index-init : goal.loop-index-init
loop-index-init c = direct-none c.args.caps.now c.args.tenants.now (share_rates c.args.shares.now) c.args.sums.now 18446744073709551615 c.requires.zeros
    (ap (λ l. length l) c.requires.zeros ∙ length-replicate (length c.args.caps.now) zero)

pub add_direct-requires-clause-room : goal.add_direct-requires-clause-room
add_direct-requires-clause-room c =
    direct-room c.args.caps.now c.args.tenants.now (share_rates c.args.shares.now) c.loop-index.sums c.loop-index.index _ c.loop-index.invariant (omega arith) (omega arith)

pub loop-index-preserved : goal.loop-index-preserved
loop-index-preserved c =
    let long : length (share_rates c.args.shares.now) ≡ length c.args.tenants.now = rates-long c.args.shares.now ∙ c.requires.as_many in
    let within : c.loop-index.index < length c.args.shares.now = (let t = c.loop-index-test.true in let a = c.requires.as_many in omega arith) in
    let at = rate-at c.args.shares.now c.loop-index.index within in
    direct-step c.args.caps.now c.args.tenants.now (share_rates c.args.shares.now) c.loop-index.sums c.add_direct.new.sums c.loop-index.index 18446744073709551615 c.index-tenants-index.result c.loop-index.invariant long (omega arith)
    c.index-tenants-index.is (let e = at in omega arith) c.add_direct.ensures.as_many
    (λ k l. c.add_direct.ensures.each k l ∙ ap (λ n. get_or c.loop-index.sums k 0 + cond (option_map_or (λ j. j == k) c.index-tenants-index.result.under false) n 0) (sym at))

pub pour-requires-clause-direct : goal.pour-requires-clause-direct
pour-requires-clause-direct c =
    let t = c.loop-index-test.false in
    let long : length (share_rates c.args.shares.now) ≡ length c.args.tenants.now = rates-long c.args.shares.now ∙ c.requires.as_many in
    let all = direct-all c.args.caps.now c.args.tenants.now (share_rates c.args.shares.now) c.loop-index.sums c.loop-index.index 18446744073709551615 c.loop-index.invariant (omega arith) long in
    record { tenants = c.args.tenants.now; shares = share_rates c.args.shares.now; direct = all.0; small = let s = all.1 in omega arith }

pub returns : goal.returns
returns c =
    let t = c.loop-index-test.false in
    let long : length (share_rates c.args.shares.now) ≡ length c.args.tenants.now = rates-long c.args.shares.now ∙ c.requires.as_many in
    let all = direct-all c.args.caps.now c.args.tenants.now (share_rates c.args.shares.now) c.loop-index.sums c.loop-index.index 18446744073709551615 c.loop-index.invariant (omega arith) long in
    c.pour.ensures.used c.args.tenants.now (share_rates c.args.shares.now) all.0
