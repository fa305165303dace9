use Rattle.config_read.proofs.HeadLines.{no_objective, no_value}
use Rattle.config_read.proofs.heads.read_least_line.Goals as goal

pub returns-in_err-objective-clause-none : goal.returns-in_err-objective-clause-none
returns-in_err-objective-clause-none c = rw c.from_residual.ensures (no_objective c.args.text.now c.in_err-objective.ensures.none)

pub returns-in_err-value-clause-none : goal.returns-in_err-value-clause-none
returns-in_err-value-clause-none c = rw c.from_residual-in_err-value.ensures (no_value c.args.text.now c.in_ok-objective.rest.now c.in_ok-objective.objective c.in_ok-objective.ensures.some c.in_err-value.ensures.none)
