-- A policy that was checked, with its automata, and what is so of it.
use Rattle.std.specs.Prelude.{ℕ, ◌↔◌, ◌≡◌, ◌≤◌, List, true, length, Contains, Option, Ok, Some, slice_get, option_and_then, sum_by}
use Rattle.std.specs.List.{AllByRecursion}
use Rattle.merlin_model.specs.declared.limits.TheConstants.{MAX_RATE}
use Rattle.merlin_model.specs.declared.policy.Path.{Path}
use Rattle.merlin_model.specs.declared.policy.Symbol.{Symbol}
use Rattle.merlin_model.specs.declared.policy.Term.{Term}
use Rattle.merlin_model.specs.Networks.{Network, AreDifferent}
use Rattle.merlin_model.specs.Predicates.{IsPred}
use Rattle.merlin_model.specs.Policies.{Policy, AreDisjoint, IsTotal, IsOnPath, paths_of}
use Rattle.merlin_model.specs.Rates.{is_max, ids_of, constant_of_part, HasRoomForGuarantees}
use Rattle.rate_formula.specs.Usage.{ids_in}
use Rattle.path_automaton.specs.Automata.{AutomatonTables, AcceptsWordsOf, Spells, accepts, state_after_numbers}
use Rattle.path_automaton.specs.Built.{IsBuilt}
use Rattle.policy_expansion.specs.declared.limits.TheConstants.{MAX_STATEMENTS}
use Rattle.policy_expansion.specs.declared.policy.Policy.{Policy as NamedPolicy}
use Rattle.policy_check.specs.Numbered.{numbered_policy}
use Rattle.policy_check.specs.Rules.{KeepsAllRules}

-- A policy over numbers, some automata, and for each path, the default's last, the number of its automaton.
pub record CheckedPolicy : Type 0 where
  pub policy : Policy
  pub automata : List AutomatonTables
  pub automaton_numbers : List ℕ

-- the automaton of the path at a place
abbrev pub automaton_of_statement : CheckedPolicy → ℕ → Option AutomatonTables
automaton_of_statement checked i = option_and_then (slice_get checked.automata) (slice_get checked.automaton_numbers i)

-- the constants of a `max` term are within its rate
abbrev pub HasRoomForConstants : Term → Type 0
HasRoomForConstants term = is_max term.bound ≡ true → sum_by constant_of_part term.parts ≤ term.rate

-- What is so of each policy that was checked.
pub record IsSoundPolicy (policy : Policy) : Type 0 where
  -- each packet belongs to one statement, or to the default
  pub disjoint : AreDisjoint policy
  pub total : IsTotal policy
  pub preds : AllByRecursion (λ s. IsPred s.pred) policy.statements
  -- ids differ, and each term names some of them, each once
  pub ids : AreDifferent (ids_in policy)
  pub known : AllByRecursion (λ term. AllByRecursion (Contains (ids_in policy)) (ids_of term)) policy.terms
  pub once : AllByRecursion (λ term. AreDifferent (ids_of term)) policy.terms
  -- rates are as they must be
  pub constants : AllByRecursion HasRoomForConstants policy.terms
  pub room : HasRoomForGuarantees policy
  -- sizes are within their limits; the default counts as a statement
  pub few : length (paths_of policy) ≤ MAX_STATEMENTS
  pub rates : AllByRecursion (λ term. term.rate ≤ MAX_RATE) policy.terms

-- the automaton of the path, which accepts its words
pub record IsAutomatonOfPath (symbols : List Symbol) (path : Path) (table : AutomatonTables) : Type 0 where
  pub built : IsBuilt path symbols (Ok table)
  pub words : AcceptsWordsOf symbols path table

-- for each path its automaton
abbrev pub HasAutomata : List Symbol → CheckedPolicy → Type 0
HasAutomata symbols checked =
    (i : ℕ) (path : Path) → slice_get (paths_of checked.policy) i ≡ Some path →
    (table : AutomatonTables) × (automaton_of_statement checked i ≡ Some table) × IsAutomatonOfPath symbols path table

-- the automaton accepts a word exactly where the word is on the path of the statement
abbrev pub AcceptsPathOf : List Symbol → Policy → ℕ → AutomatonTables → Type 0
AcceptsPathOf symbols policy i table =
    (ks : List ℕ) (w : List Symbol) → Spells symbols ks w → (accepts table (state_after_numbers table 0 ks) ≡ true) ↔ IsOnPath policy i w

-- What is answered for a policy that keeps all rules: the same over the numbers of the network, and for each path its automaton.
pub record IsCheckOf (net : Network) (symbols : List Symbol) (raw : NamedPolicy) (checked : CheckedPolicy) : Type 0 where
  pub rules : KeepsAllRules net symbols raw
  pub policy : checked.policy ≡ numbered_policy net raw
  pub automata : HasAutomata symbols checked
