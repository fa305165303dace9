use Rattle.fair_share.proofs.ShareLines.{bound-named, unknown}
use Rattle.fair_share.proofs.share_text.read_bound.Goals as goal

pub returns-in_err-cap-clause-none : goal.returns-in_err-cap-clause-none
returns-in_err-cap-clause-none c = rw c.from_residual-in_err-cap.ensures (unknown c.args.caps.now c.requires c.args.text.now c.in_ok-named.named.now c.in_ok-name.name.now c.in_ok-name.rest.now c.in_default.ensures.none c.in_ok-named.ensures.some
    c.in_ok-name.ensures.some.0 c.in_ok-name.ensures.some.1 c.in_err-cap.ensures.none)

pub returns-clause-some : goal.returns-clause-some
returns-clause-some c = bound-named c.args.caps.now c.args.text.now c.in_ok-named.named.now c.in_ok-name.name.now c.in_ok-name.rest.now c.in_ok-cap.cap c.in_ok-named.ensures.some c.in_ok-name.ensures.some.0 c.in_ok-cap.ensures.some
