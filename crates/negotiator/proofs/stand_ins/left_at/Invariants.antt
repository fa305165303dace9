use Rattle.std.proofs.Common.{◌≡◌, take}
use Rattle.predicate_logic.specs.Residues.{residues}
use Rattle.negotiator.proofs.stand_ins.left_at.Given as goal

abbrev pub invariant-loop-pred : goal.invariant-loop-pred
invariant-loop-pred l = l.left ≡ residues l.field l.value (take l.pred-index l.preds)
