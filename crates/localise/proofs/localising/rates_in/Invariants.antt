use Rattle.std.proofs.Common.{◌≡◌, take, drop, map}
use Rattle.localise.specs.Limits.{held_for, limits_at, conflicts_at}
use Rattle.localise.proofs.localising.rates_in.Given as goal

abbrev pub invariant-loop-id : goal.invariant-loop-id
invariant-loop-id l = record {
  least : l.min ≡ map (λ id. (limits_at (held_for l.table id)).floor) (take l.id-index l.ids);
  most : l.max ≡ map (λ id. (limits_at (held_for l.table id)).cap) (take l.id-index l.ids);
  clear : conflicts_at (held_for l.table) (drop l.id-index l.ids) ≡ conflicts_at (held_for l.table) l.ids;
}
