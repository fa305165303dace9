use Rattle.std.proofs.Common.{sym, arith}
use Rattle.program_walks.proofs.Dropping.{crossings-last}
use Rattle.program_walks.proofs.values.crossings_of.Goals as goal

pub loop-place-init : goal.loop-place-init
loop-place-init c = (omega arith, sym (crossings-last c.args.walk.now c.args.from c.args.to), omega arith)
