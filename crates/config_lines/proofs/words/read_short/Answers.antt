use Rattle.std.proofs.Common.{◌∙◌, sym, arith}
use Rattle.merlin_base.proofs.Decimals.{decimal_same}
use Rattle.config_lines.proofs.words.read_short.Goals as goal

pub returns-in_err-number-clause-none : goal.returns-in_err-number-clause-none
returns-in_err-number-clause-none c = rw c.from_residual.ensures (λ n is e. let most = c.ranges.most in let h = is.high in c.in_err-number.ensures.none n (omega arith) e)

pub returns-then-number-from-clause-none : goal.returns-then-number-from-clause-none
returns-then-number-from-clause-none c = λ n is e.
    let most = c.ranges.most in let h = is.high in let l = is.low in let b = c.if-number-from.true in
    let same = decimal_same c.in_ok-number.number n c.in_ok-number.ensures.some.1 (omega arith) (sym c.in_ok-number.ensures.some.0 ∙ e) in omega arith

pub returns-then-from-number-clause-none : goal.returns-then-from-number-clause-none
returns-then-from-number-clause-none c = λ n is e.
    let most = c.ranges.most in let h = is.high in let b = c.if-from-number.true in
    let same = decimal_same c.in_ok-number.number n c.in_ok-number.ensures.some.1 (omega arith) (sym c.in_ok-number.ensures.some.0 ∙ e) in omega arith
