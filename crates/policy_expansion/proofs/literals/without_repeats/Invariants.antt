use Rattle.std.proofs.Common.{◌≡◌, ◌++◌, drop}
use Rattle.policy_expansion.specs.WrittenOut.{first_places}
use Rattle.policy_expansion.specs.Seen.{has_seen}
use Rattle.policy_expansion.proofs.Places.{to_keep}
use Rattle.policy_expansion.proofs.literals.without_repeats.Given as goal

abbrev pub invariant-loop-literal : goal.invariant-loop-literal
invariant-loop-literal l = l.kept ++ to_keep (has_seen l.seen) (drop l.literal-index l.literals) ≡ first_places l.literals
