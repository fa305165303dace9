use Rattle.std.proofs.Common.{◌≡◌, ◌++◌, map, take}
use Rattle.merlin_base.specs.Pairs.{pairs_text}
use Rattle.merlin_base.specs.NodeTexts.{pair_of}
use Rattle.certificate_text.proofs.writing.add_weights.Given as goal

abbrev pub invariant-loop-weight : goal.invariant-loop-weight
invariant-loop-weight l = l.line.items ≡ l.fn.line.items ++ pairs_text (map pair_of (take l.weight-index l.weights))
