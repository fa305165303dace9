-- What is answered for a path and symbols.
use Rattle.std.specs.Prelude.{◌≡◌, ◌≤◌, ◌+◌, List, length, Result, Ok, Err}
use Rattle.merlin_model.specs.declared.policy.Symbol.{Symbol}
use Rattle.merlin_model.specs.declared.policy.Path.{Path}
use Rattle.path_automaton.specs.declared.fault.AutomatonFault.{AutomatonFault}
use Rattle.path_automaton.specs.declared.fault.AutomatonFault.TheVariants.{TooManyStates, OutOfMemory}
use Rattle.path_automaton.specs.declared.exploring.TheConstants.{MAX_STATES}
use Rattle.path_automaton.specs.States.{HasStates}
use Rattle.path_automaton.specs.Automata.{AutomatonTables, AreTablesOfPath}

-- the tables of the path, whose states are within the limit; or it has one state more and maybe others; or memory ran out
abbrev pub IsBuilt : Path → List Symbol → Result AutomatonTables AutomatonFault → Type 0
IsBuilt path symbols (Ok t) = (forms : List Path) × AreTablesOfPath path symbols t forms × (length forms ≤ MAX_STATES)
IsBuilt path symbols (Err (TooManyStates count)) = (count ≡ MAX_STATES + 1) × HasStates path symbols count
IsBuilt path symbols (Err OutOfMemory) = Unit {0}
