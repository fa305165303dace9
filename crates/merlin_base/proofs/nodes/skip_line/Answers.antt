use Rattle.merlin_base.proofs.LineSkips.{split_line, leaf_line, no_split_line, no_leaf_line}
use Rattle.merlin_base.proofs.nodes.skip_line.Goals as goal

pub returns-in_err-rest-clause-none : goal.returns-in_err-rest-clause-none
returns-in_err-rest-clause-none c = rw c.from_residual.ensures (no_split_line c.args.unclosed c.args.text.now c.in-Some.digits.now c.in-Some.ensures.some c.in_err-rest.ensures.none)

pub returns-in-Some-clause-some : goal.returns-in-Some-clause-some
returns-in-Some-clause-some c = split_line c.args.unclosed c.args.text.now c.in-Some.digits.now c.in_ok-rest.rest.now c.in-Some.ensures.some c.in_ok-rest.ensures.some

pub returns-in_err-rest-2-clause-none : goal.returns-in_err-rest-2-clause-none
returns-in_err-rest-2-clause-none c =
    rw c.from_residual-in_err-rest-2.ensures (no_leaf_line c.args.unclosed c.args.text.now c.in-Some-strip_front.weights.now c.in-Some-strip_front.ensures.some c.in_err-rest-2.ensures.none)

pub returns-in-Some-strip_front-clause-some : goal.returns-in-Some-strip_front-clause-some
returns-in-Some-strip_front-clause-some c = leaf_line c.args.unclosed c.args.text.now c.in-Some-strip_front.weights.now c.in_ok-rest-2.rest.now c.in-Some-strip_front.ensures.some c.in_ok-rest-2.ensures.some
