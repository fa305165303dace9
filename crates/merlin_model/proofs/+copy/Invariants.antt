use Rattle.std.proofs.Common.{◌≡◌, take}
use Rattle.merlin_model.proofs.+copy.Given as goal

abbrev pub invariant-pred_copy::copies-loop-pred : goal.invariant-pred_copy::copies-loop-pred
invariant-pred_copy::copies-loop-pred l = l.copies ≡ take l.pred-index l.preds
