use Rattle.std.proofs.Common.{◌≡◌, not, filter, take}
use Rattle.std.specs.List.{list_any}
use Rattle.predicate_split.specs.Parts.{is_whole as whole, begins_below as below}
use Rattle.predicate_split.proofs.parts.split_blocks.Given as goal

abbrev pub invariant-loop-block : goal.invariant-loop-block
invariant-loop-block l = record {
  left : l.halves.left.items ≡ filter (below l.middle) (filter (λ b. not (whole l.bits b)) (take l.block-index l.block-items));
  right : l.halves.right.items ≡ filter (λ b. not (below l.middle b)) (filter (λ b. not (whole l.bits b)) (take l.block-index l.block-items));
  closed : l.halves.is_closed ≡ list_any (whole l.bits) (take l.block-index l.block-items);
}
