use Rattle.std.proofs.Common.{◌≡◌, take}
use Rattle.std.specs.List.{flat_map}
use Rattle.predicate_logic.specs.Mentions.{mentions, prefixes}
use Rattle.predicate_split.specs.Overlaps.{preds_in}
use Rattle.predicate_split.proofs.pairs.parts_for.Given as goal

abbrev pub invariant-loop-entry : goal.invariant-loop-entry
invariant-loop-entry l = record {
  named : l.named.items ≡ flat_map (mentions l.field) (preds_in (take l.entry-index l.entries));
  blocks : l.blocks.items ≡ flat_map (prefixes l.field) (preds_in (take l.entry-index l.entries));
}
