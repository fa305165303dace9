use Rattle.std.proofs.Common.{take}
use Rattle.policy_check.specs.Sharing.{ShareAutomata}
use Rattle.policy_check.proofs.automata.automata_of.Given as goal

abbrev pub invariant-loop-place : goal.invariant-loop-place
invariant-loop-place l = ShareAutomata l.symbols (take l.place l.paths) l.automata
