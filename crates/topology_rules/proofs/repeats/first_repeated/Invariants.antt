use Rattle.std.proofs.Common.{◌≡◌, take}
use Rattle.std.specs.List.{IsDistinct}
use Rattle.topology_rules.proofs.repeats.first_repeated.Given as goal

abbrev pub invariant-loop-place : goal.invariant-loop-place
invariant-loop-place g l = record { same : l.seen.keys ≡ take l.place l.keys; apart : IsDistinct g.K.PartialEq.eq l.seen.keys }
