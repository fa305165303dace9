use Rattle.std.proofs.Common.{◌∙◌, sym, arith}
use Rattle.merlin_base.proofs.Decimals.{decimal_same}
use Rattle.config_lines.proofs.Then.{unlike}
use Rattle.config_lines.proofs.PortTexts.{no_proto}
use Rattle.config_lines.proofs.hosts.read_proto.Goals as goal

pub returns-then-number-eq6-clause-none : goal.returns-then-number-eq6-clause-none
returns-then-number-eq6-clause-none c =
    no_proto c.args.word.now (λ e. unlike c.args.word.now c.as_slice.result.now c.eq.result c.eq.ensures c.if-eq.false (e ∙ sym c.as_slice.ensures))
    (λ e. unlike c.args.word.now c.as_slice-2.result.now c.eq-2.result c.eq-2.ensures c.if-eq-2.false (e ∙ sym c.as_slice-2.ensures))
    (λ n small six seventeen e.
    let high = c.in_ok-number.ensures.some.1.high in
    let same = decimal_same c.in_ok-number.number n (omega arith) (omega arith) (sym c.in_ok-number.ensures.some.0 ∙ e) in
    let is = c.if-number-eq6.true in omega arith)

pub returns-then-number-eq17-clause-none : goal.returns-then-number-eq17-clause-none
returns-then-number-eq17-clause-none c =
    no_proto c.args.word.now (λ e. unlike c.args.word.now c.as_slice.result.now c.eq.result c.eq.ensures c.if-eq.false (e ∙ sym c.as_slice.ensures))
    (λ e. unlike c.args.word.now c.as_slice-2.result.now c.eq-2.result c.eq-2.ensures c.if-eq-2.false (e ∙ sym c.as_slice-2.ensures))
    (λ n small six seventeen e.
    let high = c.in_ok-number.ensures.some.1.high in
    let same = decimal_same c.in_ok-number.number n (omega arith) (omega arith) (sym c.in_ok-number.ensures.some.0 ∙ e) in
    let is = c.if-number-eq17.true in omega arith)
