use Rattle.std.proofs.Common.{◌≡◌, drop}
use Rattle.std.specs.Prelude.{find, flat_map}
use Rattle.policy_expansion.specs.Faults.{is_unknown, names_in}
use Rattle.policy_expansion.specs.Tables.{under}
use Rattle.policy_expansion.proofs.faults.ask_names.Given as goal

abbrev pub invariant-loop-item : goal.invariant-loop-item
invariant-loop-item l = find (is_unknown (under l.sets)) (flat_map names_in (drop l.item-index l.items)) ≡ find (is_unknown (under l.sets)) (flat_map names_in l.items)
