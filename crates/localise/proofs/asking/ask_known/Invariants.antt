use Rattle.std.proofs.Common.{◌≡◌, drop, is_some}
use Rattle.localise.specs.Faults.{unknown_ids}
use Rattle.localise.specs.Limits.{held_for}
use Rattle.localise.proofs.asking.ask_known.Given as goal

abbrev pub invariant-loop-term : goal.invariant-loop-term
invariant-loop-term l = unknown_ids (λ name. is_some (held_for l.table name)) (drop l.term-index l.terms) ≡ unknown_ids (λ name. is_some (held_for l.table name)) l.terms
