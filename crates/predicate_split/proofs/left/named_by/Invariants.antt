use Rattle.std.proofs.Common.{◌≡◌, take}
use Rattle.std.specs.List.{flat_map}
use Rattle.predicate_logic.specs.Mentions.{mentions}
use Rattle.predicate_split.specs.Overlaps.{preds_in}
use Rattle.predicate_split.proofs.left.named_by.Given as goal

abbrev pub invariant-loop-entry : goal.invariant-loop-entry
invariant-loop-entry l = l.values.items ≡ flat_map (mentions l.field) (preds_in (take l.entry-index l.entries))
