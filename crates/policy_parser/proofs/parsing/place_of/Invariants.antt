use Rattle.std.proofs.Common.{◌≡◌}
use Rattle.policy_parser.specs.Policies.{place_of}
use Rattle.policy_parser.proofs.parsing.place_of.Given as goal

abbrev pub invariant-skipped : goal.invariant-skipped
invariant-skipped l = place_of l.bytes l.fn.tokens l.fn.number ≡ place_of l.bytes l.rest l.before

abbrev pub decreases-skipped : goal.decreases-skipped
decreases-skipped l = l.before
