use Rattle.std.proofs.Common.{◌≡◌, ◌++◌, take}
use Rattle.negotiator.proofs.contacts.copy_preds.Given as goal

abbrev pub invariant-loop-pred : goal.invariant-loop-pred
invariant-loop-pred l = l.copies ≡ l.initial.copies ++ take l.pred-index l.preds
