use Rattle.std.proofs.Common.{ℕ, ◌+◌, ◌*◌, length, take}
use Rattle.merlin_model.proofs.Members.{In}
use Rattle.predicate_logic.specs.Residues.{residue}
use Rattle.predicate_split.specs.Walks.{HoldsNowhere}
use Rattle.predicate_split.proofs.least.+least_from.Given as goal

abbrev pub decreases-least_from : goal.decreases-least_from
decreases-least_from l = 3 * length l.fields.now + 1

abbrev pub decreases-least_within : goal.decreases-least_within
decreases-least_within l = 3 * length l.rest.now + 3

abbrev pub decreases-least_unless : goal.decreases-least_unless
decreases-least_unless l = 3 * length l.fields.now + 2

abbrev pub invariant-least_within-loop-value : goal.invariant-least_within-loop-value
invariant-least_within-loop-value l = record {
  tried : (u : ℕ) → In u (take l.value-index l.value-items) → HoldsNowhere (residue l.field u l.pred);
  last : HoldsNowhere l.recent.last;
  earlier : HoldsNowhere l.recent.earlier;
}
