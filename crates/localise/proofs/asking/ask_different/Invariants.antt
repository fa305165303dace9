use Rattle.std.proofs.Common.{◌≡◌, drop}
use Rattle.localise.specs.Faults.{repeated_ids}
use Rattle.localise.proofs.asking.ask_different.Given as goal

abbrev pub invariant-loop-term : goal.invariant-loop-term
invariant-loop-term l = repeated_ids (drop l.term-index l.terms) ≡ repeated_ids l.terms
