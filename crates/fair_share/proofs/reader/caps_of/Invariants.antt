use Rattle.fair_share.proofs.Numbering.{AreCapsSoFar}
use Rattle.fair_share.proofs.reader.caps_of.Given as goal

abbrev pub invariant-loop-place : goal.invariant-loop-place
invariant-loop-place l = AreCapsSoFar l.entries l.place l.caps.items
