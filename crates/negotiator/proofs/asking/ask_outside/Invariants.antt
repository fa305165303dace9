use Rattle.std.proofs.Common.{ℕ, ◌<◌}
use Rattle.merlin_model.specs.Networks.{Network}
use Rattle.negotiator.specs.Amounts.{IsWithinReserves}
use Rattle.negotiator.specs.Wider.{AreContacts}
use Rattle.negotiator.proofs.asking.ask_outside.Given as goal

abbrev pub invariant-loop-statement : goal.invariant-loop-statement
invariant-loop-statement l = (net : Network) → AreContacts net l.parent.policy l.child.policy l.contacts → (k : ℕ) → k < l.statement → IsWithinReserves net l.parent.policy l.child.policy k
