use Rattle.std.proofs.Common.{◌≡◌, map, take}
use Rattle.merlin_base.specs.NodeTexts.{pair_of}
use Rattle.certificate_text.proofs.line.weights_of.Given as goal

abbrev pub invariant-loop-row : goal.invariant-loop-row
invariant-loop-row l = map pair_of l.weights ≡ take l.row-index l.pairs
