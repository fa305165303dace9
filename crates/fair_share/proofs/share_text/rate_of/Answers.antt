use Rattle.std.proofs.Common.{◌≡◌, ◌<◌, ◌^◌, sym, ◌∙◌, arith, lit<}
use Rattle.merlin_base.proofs.Decimals.{decimal_same}
use Rattle.fair_share.proofs.share_text.rate_of.Goals as goal

pub returns-else-rate-le-MAX_RATE-clause-none : goal.returns-else-rate-le-MAX_RATE-clause-none
returns-else-rate-le-MAX_RATE-clause-none c = λ rate le e.
    let t : 1000000000 < 10 ^ 19 = lit< tt in
    let n = c.in_ok-number.ensures.some in
    let same : c.in_ok-number.number ≡ rate = decimal_same c.in_ok-number.number rate n.1 (omega arith) (sym n.0 ∙ e) in
    let f = c.if-rate-le-MAX_RATE.false in omega arith
