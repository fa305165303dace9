use Rattle.delegation_text.specs.Alongside.{IsEntryFor, names_kept}
use Rattle.delegation_text.proofs.Growing.{AreBeside}
use Rattle.delegation_text.proofs.reader.entries_of.Given as goal

abbrev pub invariant-loop-place : goal.invariant-loop-place
invariant-loop-place l = AreBeside (IsEntryFor (names_kept l.names.keys)) l.nodes l.place l.entries.items
