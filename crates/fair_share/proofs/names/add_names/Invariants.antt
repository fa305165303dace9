use Rattle.fair_share.specs.Failing.{key_texts}
use Rattle.fair_share.proofs.Repeated.{AreAdded}
use Rattle.fair_share.proofs.names.add_names.Given as goal

abbrev pub invariant-loop-entry : goal.invariant-loop-entry
invariant-loop-entry l = AreAdded (key_texts l.initial.numbers.keys) l.entries l.entry-index l.numbers.keys
