-- What statements of two policies have to do with each other between two hosts, and what the automata of their paths say of it.
use Rattle.std.specs.Prelude.{ℕ, ◌≡◌, ◌↔◌, IsTrue, true, List, length}
use Rattle.merlin_model.specs.declared.policy.Symbol.{Symbol}
use Rattle.merlin_model.specs.Networks.{Network}
use Rattle.merlin_model.specs.Words.{IsWalk}
use Rattle.merlin_model.specs.Policies.{Policy, IsOnPath}
use Rattle.path_automaton.specs.Automata.{AutomatonTables}
use Rattle.path_automaton.specs.States.{IsMadeOf}
use Rattle.language_check.specs.Inclusion.{accepts_word}
use Rattle.language_check.specs.Ways.{AreSymbolsOf}
use Rattle.policy_check.specs.Checked.{HasAutomata}
use Rattle.negotiator.specs.declared.verdicts.Case.{Case}
use Rattle.negotiator.specs.declared.verdicts.WalkVerdict.{WalkVerdict}

-- some walk between the two hosts is on the path of the statement
abbrev pub HasWalk : Network → Policy → ℕ → ℕ → ℕ → Type 0
HasWalk net policy s d i = (w : List Symbol) × IsWalk net s d w × IsOnPath policy i w

-- each walk between the two hosts on the path of the one statement is on that of the other
abbrev pub StaysWithin : Network → Policy → Policy → ℕ → ℕ → ℕ → ℕ → Type 0
StaysWithin net parent child s d i j = (w : List Symbol) → IsWalk net s d w → IsOnPath child i w → IsOnPath parent j w

-- no word is accepted
pub record AcceptsNothing (symbols : List Symbol) (table : AutomatonTables) : Type 0 where
  pub width : table.width ≡ length symbols
  pub none : (w : List Symbol) → IsMadeOf symbols w → ¬ (accepts_word symbols table w ≡ true)

-- both policies are over the symbols of the network
pub record IsCase (case : Case) : Type 0 where
  pub symbols : AreSymbolsOf case.net.now case.symbols.now
  pub parent : HasAutomata case.symbols.now case.parent.now
  pub child : HasAutomata case.symbols.now case.child.now
  pub nothing : AcceptsNothing case.symbols.now case.nothing.now

-- what is said of a statement of the child and one of the parent is so
pub record IsWalkVerdict (case : Case) (s d i j : ℕ) (verdict : WalkVerdict) : Type 0 where
  pub walks : IsTrue verdict.walks ↔ HasWalk case.net.now case.child.now.policy s d i
  pub stays : IsTrue verdict.stays ↔ StaysWithin case.net.now case.parent.now.policy case.child.now.policy s d i j
