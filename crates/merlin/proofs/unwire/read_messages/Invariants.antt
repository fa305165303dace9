use Rattle.std.proofs.Common.{length}
use Rattle.merlin.specs.Unwire.{BeginsWithMessages}
use Rattle.merlin.proofs.unwire.read_messages.Given as goal

abbrev pub invariant-lines : goal.invariant-lines
invariant-lines l = BeginsWithMessages l.fn.switch l.fn.text l.rules l.rest

abbrev pub decreases-lines : goal.decreases-lines
decreases-lines l = length l.rest
