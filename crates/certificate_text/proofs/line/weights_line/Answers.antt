use Rattle.std.proofs.Common.{map}
use Rattle.merlin_base.specs.Pairs.{pairs_text}
use Rattle.merlin_base.specs.NodeTexts.{pair_of}
use Rattle.merlin_base.proofs.NodeLines.{no_weights, no_end}
use Rattle.certificate_text.proofs.line.weights_line.Goals as goal

pub returns-in_default-clause-none : goal.returns-in_default-clause-none
returns-in_default-clause-none c = λ weights rest are e. no_end c.args.text.now (pairs_text (map pair_of weights)) rest c.in_default.ensures.none e

pub returns-in-None-clause-none : goal.returns-in-None-clause-none
returns-in-None-clause-none c = no_weights c.args.text.now c.in-Some.line.now c.in-Some.rest.now c.in-Some.ensures.some.0 c.in-Some.ensures.some.1 (rw c.in-None.is at c.in_ok-pairs.ensures.none)
