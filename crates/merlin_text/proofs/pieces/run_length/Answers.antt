use Rattle.std.proofs.Common.{refl, arith}
use Rattle.std.proofs.lemmas.List.Elements.{All-more}
use Rattle.merlin_text.specs.Fronts.{IsByteOf}
use Rattle.merlin_text.proofs.pieces.run_length.Goals as goal

pub loop-length-preserved : goal.loop-length-preserved
loop-length-preserved c =
    All-more (IsByteOf c.args.run) c.args.text.now c.loop-length.length 0 (omega arith) c.loop-length.invariant (c.if-not-goes_on.ensures.0 refl)
