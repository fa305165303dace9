use Rattle.std.proofs.Common.{◌++◌, ◌∙◌, ap}
use Rattle.fair_share.proofs.ShareLines.{no-blank, no-unit, no-rate, no-kbps, no-bound}
use Rattle.fair_share.proofs.share_text.read_share.Goals as goal

pub returns-in_err-number-clause-none : goal.returns-in_err-number-clause-none
returns-in_err-number-clause-none c = rw c.from_residual-in_err-number.ensures (no-blank c.args.caps.now c.args.tenant.now c.args.text.now c.in_ok-named.named.now c.in_ok-named.ensures.some
    c.in_ok-behind.behind.now (c.in_ok-behind.ensures.some ∙ ap (λ z. z ++ c.in_ok-behind.behind.now) c.bytes.ensures) c.in_err-number.ensures.none)

pub returns-in_err-digits-clause-none : goal.returns-in_err-digits-clause-none
returns-in_err-digits-clause-none c = rw c.from_residual-in_err-digits.ensures (no-unit c.args.caps.now c.args.tenant.now c.args.text.now c.in_ok-named.named.now c.in_ok-named.ensures.some
    c.in_ok-behind.behind.now (c.in_ok-behind.ensures.some ∙ ap (λ z. z ++ c.in_ok-behind.behind.now) c.bytes.ensures) c.in_ok-number.number.now c.in_ok-number.ensures.some c.in_err-digits.ensures.none)

pub returns-in_err-rate-clause-none : goal.returns-in_err-rate-clause-none
returns-in_err-rate-clause-none c = rw c.from_residual-in_err-rate.ensures (no-rate c.args.caps.now c.args.tenant.now c.args.text.now c.in_ok-named.named.now c.in_ok-named.ensures.some
    c.in_ok-behind.behind.now (c.in_ok-behind.ensures.some ∙ ap (λ z. z ++ c.in_ok-behind.behind.now) c.bytes.ensures) c.in_ok-number.number.now c.in_ok-number.ensures.some
    c.in_ok-digits.digits.now c.in_ok-digits.unit.now c.in_ok-digits.ensures.some.0 c.in_ok-digits.ensures.some.1 c.in_err-rate.ensures.none)

pub returns-in_err-bound-clause-none : goal.returns-in_err-bound-clause-none
returns-in_err-bound-clause-none c = rw c.from_residual-in_err-bound.ensures (no-kbps c.args.caps.now c.args.tenant.now c.args.text.now c.in_ok-named.named.now c.in_ok-named.ensures.some
    c.in_ok-behind.behind.now (c.in_ok-behind.ensures.some ∙ ap (λ z. z ++ c.in_ok-behind.behind.now) c.bytes.ensures) c.in_ok-number.number.now c.in_ok-number.ensures.some
    c.in_ok-digits.digits.now c.in_ok-digits.unit.now c.in_ok-digits.ensures.some.0 c.in_ok-digits.ensures.some.1 c.in_err-bound.ensures.none)

pub returns-in_err-cap-clause-none : goal.returns-in_err-cap-clause-none
returns-in_err-cap-clause-none c = rw c.from_residual-in_err-cap.ensures (no-bound c.args.caps.now c.args.tenant.now c.args.text.now c.in_ok-named.named.now c.in_ok-named.ensures.some
    c.in_ok-behind.behind.now (c.in_ok-behind.ensures.some ∙ ap (λ z. z ++ c.in_ok-behind.behind.now) c.bytes.ensures) c.in_ok-number.number.now c.in_ok-number.ensures.some
    c.in_ok-digits.digits.now c.in_ok-digits.unit.now c.in_ok-digits.ensures.some.0 c.in_ok-digits.ensures.some.1 c.in_ok-bound.bound.now c.in_ok-bound.ensures.some c.in_err-cap.ensures.none)
