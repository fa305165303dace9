use Rattle.std.proofs.Common.{◌≡◌, ℕ, List, [], drop}
use Rattle.localise.specs.Faults.{repeated_ids}
use Rattle.localise.specs.Limits.{held_for}
use Rattle.localise.proofs.Divided.{asked_by}
use Rattle.localise.proofs.sharing.share_all.Given as goal

abbrev pub invariant-loop-term : goal.invariant-loop-term
invariant-loop-term l = record {
  asked : (name : List ℕ) → asked_by (drop l.term-index l.terms) name (held_for l.table name) ≡ asked_by l.terms name (held_for l.initial.table name);
  different : repeated_ids (drop l.term-index l.terms) ≡ [];
}
