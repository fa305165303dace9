use Rattle.config_read.proofs.Wholes.{no_first}
use Rattle.config_read.proofs.Standing.{answer_over, ok_over}
use Rattle.config_read.proofs.OneResult.{answer_only}
use Rattle.config_read.proofs.reader.read.Goals as goal

pub returns-in_default-clause-err : goal.returns-in_default-clause-err
returns-in_default-clause-err c = no_first c.args.net.now c.args.bytes.now c.in_default.ensures.none

pub returns-then-feasible-clause-over : goal.returns-then-feasible-clause-over
returns-then-feasible-clause-over c = answer_over c.args.net.now c.args.bytes.now c.read_least.result c.read_least.ensures.ok

pub returns-else-feasible-clause-over : goal.returns-else-feasible-clause-over
returns-else-feasible-clause-over c = answer_over c.args.net.now c.args.bytes.now c.read_infeasible.result (ok_over c.args.net.now c.args.bytes.now c.read_infeasible.result c.read_infeasible.ensures.ok)

pub returns-then-feasible-clause-only : goal.returns-then-feasible-clause-only
returns-then-feasible-clause-only c = answer_only c.args.net.now c.locations-locations.ensures.lawful.lawful c.args.bytes.now c.read_least.result c.read_least.ensures.ok

pub returns-else-feasible-clause-only : goal.returns-else-feasible-clause-only
returns-else-feasible-clause-only c =
    answer_only c.args.net.now c.locations-locations.ensures.lawful.lawful c.args.bytes.now c.read_infeasible.result (ok_over c.args.net.now c.args.bytes.now c.read_infeasible.result c.read_infeasible.ensures.ok)
