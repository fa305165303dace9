use Rattle.std.proofs.Common.{◌≤◌, ◌-◌, map, length}
use Rattle.merlin_model.specs.Networks.{Pairwise}
use Rattle.rules_model.specs.Tables.{IsBelowKey}
use Rattle.rule_tables.specs.Branches.{key_of}
use Rattle.rule_tables.proofs.Searching.{IsWithin}
use Rattle.rule_tables.proofs.tags.count_below.Given as goal

abbrev pub invariant-loop-low : goal.invariant-loop-low
invariant-loop-low l = (l.low ≤ l.high) × (l.high ≤ length l.tags) × (Pairwise IsBelowKey (map key_of l.tags) → IsWithin l.tags l.key l.low l.high)

abbrev pub decreases-loop-low : goal.decreases-loop-low
decreases-loop-low l = l.high - l.low
