use Rattle.merlin_base.proofs.LineSkips.{weights_line, no_weights_end, no_weights_line}
use Rattle.merlin_base.proofs.nodes.skip_weights_line.Goals as goal

pub returns-in_err-line-clause-none : goal.returns-in_err-line-clause-none
returns-in_err-line-clause-none c = rw c.from_residual.ensures (no_weights_end c.args.text.now c.in_err-line.ensures.none)

pub returns-then-are_pairs-clause-some : goal.returns-then-are_pairs-clause-some
returns-then-are_pairs-clause-some c = weights_line c.args.text.now c.in_ok-line.line.now c.in_ok-line.rest.now c.in_ok-line.ensures.some.0 (c.are_pairs.ensures.yes c.if-are_pairs.true)

pub returns-else-are_pairs-clause-none : goal.returns-else-are_pairs-clause-none
returns-else-are_pairs-clause-none c = no_weights_line c.args.text.now c.in_ok-line.line.now c.in_ok-line.rest.now c.in_ok-line.ensures.some.0 c.in_ok-line.ensures.some.1 (c.are_pairs.ensures.no c.if-are_pairs.false)
