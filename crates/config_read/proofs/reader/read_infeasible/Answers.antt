use Rattle.std.proofs.Common.{length, false}
use Rattle.config_read.proofs.Wholes.{no_infeasible}
use Rattle.config_read.proofs.Ends.{wrong_behind, infeasible_ends_wrong}
use Rattle.config_read.proofs.reader.read_infeasible.Goals as goal

pub returns-in_default-clause-err : goal.returns-in_default-clause-err
returns-in_default-clause-err c =
    λ net. (wrong_behind net c.args.bytes.now c.args.text.now c.args.version false (length c.args.text.now) c.requires.text (no_infeasible net c.args.version c.args.text.now c.requires.version c.in_default.ensures.none)).1

pub returns-in-Err-clause-err : goal.returns-in-Err-clause-err
returns-in-Err-clause-err c =
    λ net. (infeasible_ends_wrong net c.args.bytes.now c.args.text.now c.in-Some.tree.now c.args.version c.in-Some.objective c.in-Err.left c.requires.version c.requires.text c.in-Some.ensures.some c.in-Err.ensures.err).1
