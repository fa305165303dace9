use Rattle.std.proofs.Common.{◌≡◌, ◌+◌, length, drop}
use Rattle.std.specs.Prelude.{flat_map}
use Rattle.policy_expansion.specs.declared.limits.TheConstants.{MAX_STATEMENTS}
use Rattle.policy_expansion.specs.WrittenOut.{written_out}
use Rattle.policy_expansion.specs.Faults.{count_of_default}
use Rattle.policy_expansion.specs.Tables.{under}
use Rattle.policy_expansion.proofs.faults.ask_count.Given as goal

abbrev pub invariant-loop-item : goal.invariant-loop-item
invariant-loop-item l = l.room + (length (flat_map (written_out (under l.sets)) l.items) + count_of_default l.default_path) ≡ MAX_STATEMENTS + length (flat_map (written_out (under l.sets)) (drop l.item-index l.items))
