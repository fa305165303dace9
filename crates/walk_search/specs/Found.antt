-- What is found for the guaranteed statements of a policy: least walks, that there are none, or what a spent search leaves.
use Rattle.std.specs.Prelude.{ℕ, ◌≡◌, ◌≤◌, ◌+◌, ◌<◌, ◌^◌, true, List, [], length, Option, None, Some}
use Rattle.std.specs.List.{AllByRecursion}
use Rattle.merlin_model.specs.declared.certificate.Tree.{Tree}
use Rattle.merlin_model.specs.declared.policy.Ends.{Ends}
use Rattle.merlin_model.specs.declared.policy.Objective.{Objective}
use Rattle.merlin_model.specs.declared.policy.Symbol.{Symbol}
use Rattle.merlin_model.specs.declared.policy.Value.{Value}
use Rattle.merlin_model.specs.Assignments.{IsAssignment, IsFeasible, IsLeast, IsSmaller, value_of}
use Rattle.merlin_model.specs.Networks.{Network, directed_links}
use Rattle.merlin_model.specs.Policies.{Policy}
use Rattle.merlin_model.specs.Programs.{variables}
use Rattle.merlin_model.specs.Trees.{Refutes, IsKeptNode, nodes_of, root_box, has_open_end}
use Rattle.cutoff_program.specs.Easy.{IsEasy}
use Rattle.cutoff_program.specs.Flows.{program_at}
use Rattle.cutoff_program.specs.Limits.{IsProblem}
use Rattle.cutoff_program.specs.Walks.{IsSimple}
use Rattle.cutoff_program.specs.declared.flow.Problem.{Problem}
use Rattle.rules_model.specs.Products.{SymbolAutomaton}
use Rattle.program_walks.specs.Bounds.{IsSeparateBound}
use Rattle.program_walks.specs.Solutions.{IsLaidOut}
use Rattle.policy_flows.specs.Layouts.{StatementParts, IsLayout, KeepsProductLimits}
use Rattle.std.specs.List.{AllZip}
use Rattle.walk_search.specs.declared.found.WalksFound.{WalksFound}
use Rattle.walk_search.specs.declared.found.WalksFound.TheVariants.{Least, Infeasible, Budget}

-- how many nodes a tree of the program at a cutoff has
abbrev pub count_nodes : Problem → Option Value → Tree → ℕ
count_nodes problem cutoff tree = length (nodes_of tree (root_box (program_at problem cutoff)))

-- a tree of at most so many nodes that shows that the program at the cutoff has no solution
pub record RefutesAt (problem : Problem) (cutoff : Option Value) (budget : ℕ) (tree : Tree) : Type 0 where
  pub refutes : Refutes (program_at problem cutoff) tree (root_box (program_at problem cutoff))
  pub in_budget : count_nodes problem cutoff tree ≤ budget

-- A tree whose nodes are spent: a split more would pass the budget, and an end is open. Its leaves refute, and no box that is split or left open is easy.
pub record IsSpentAt (problem : Problem) (cutoff : Option Value) (budget : ℕ) (tree : Tree) : Type 0 where
  pub in_budget : count_nodes problem cutoff tree ≤ budget
  pub spent : budget < count_nodes problem cutoff tree + 2
  pub open_end : has_open_end (nodes_of tree (root_box (program_at problem cutoff))) ≡ true
  pub kept : AllByRecursion (λ node. IsKeptNode (program_at problem cutoff) (IsEasy problem cutoff) node.0 node.1) (nodes_of tree (root_box (program_at problem cutoff)))
  -- so a budget for the tree of all boxes is never spent
  pub small : budget + 1 < 2 ^ (variables (program_at problem None) + 1)

abbrev pub value_if : Option (Value × List (List Symbol)) → Option Value
value_if None = None
value_if (Some best) = Some best.0

module _ (net : Network) (policy : Policy) (automata : ℕ → SymbolAutomaton) (ends : List Ends) (objective : Objective) where
  -- simple walks that are allowed and feasible, with their value
  pub record AreFoundWalks (value : Value) (walks : List (List Symbol)) : Type 0 where
    pub assignment : IsAssignment net policy ends walks
    pub simple : AllZip (λ e w. IsSimple (automata e.statement) w) ends walks
    pub feasible : IsFeasible net policy ends walks
    pub value_is : value ≡ value_of net policy ends objective walks

  abbrev pub AreFoundIf : Option (Value × List (List Symbol)) → Type 0
  AreFoundIf None = Unit {0}
  AreFoundIf (Some best) = AreFoundWalks best.0 best.1

  -- no feasible assignment has a smaller value
  abbrev pub NoneIsBelow : Value → Type 0
  NoneIsBelow value = (walks : List (List Symbol)) → IsAssignment net policy ends walks → IsFeasible net policy ends walks → ¬ IsSmaller (value_of net policy ends objective walks) value

  -- no assignment is feasible
  abbrev pub NoneIsFeasible : Type 0
  NoneIsFeasible = (walks : List (List Symbol)) → IsAssignment net policy ends walks → ¬ IsFeasible net policy ends walks

  -- walks than which none are better, with a tree that shows it
  pub record IsLeastFound (problem : Problem) (budget : ℕ) (value : Value) (walks : List (List Symbol)) (tree : Tree) : Type 0 where
    pub found : AreFoundWalks value walks
    pub least : IsLeast net policy ends objective walks
    pub refutes : RefutesAt problem (Some value) budget tree

  pub record IsNoneFound (problem : Problem) (budget : ℕ) (tree : Tree) : Type 0 where
    pub none : NoneIsFeasible
    pub refutes : RefutesAt problem None budget tree

  -- the best walks so far, a bound from each statement by itself, and the tree that was spent at the best value
  pub record IsSpentFound (problem : Problem) (budget : ℕ) (best : Option (Value × List (List Symbol))) (bound : Value) (tree : Tree) : Type 0 where
    pub found : AreFoundIf best
    pub spent : IsSpentAt problem (value_if best) budget tree
    pub bound_is : IsSeparateBound problem (Some bound)
    pub bounds : NoneIsBelow bound

  abbrev pub IsFoundIn : Problem → ℕ → WalksFound → Type 0
  IsFoundIn problem budget (Least value walks tree) = IsLeastFound problem budget value walks tree
  IsFoundIn problem budget (Infeasible tree) = IsNoneFound problem budget tree
  IsFoundIn problem budget (Budget best bound tree) = IsSpentFound problem budget best bound tree

-- so it is for whatever policy the problem is laid out of
abbrev pub IsFoundOf : Problem → List (List Symbol) → ℕ → WalksFound → Type 0
IsFoundOf problem symbols budget found =
    (net : Network) (policy : Policy) (automata : ℕ → SymbolAutomaton) (ends : List Ends) (objective : Objective) →
    IsLaidOut net policy automata ends objective problem symbols → IsFoundIn net policy automata ends objective problem budget found

-- What is found for statements with such parts: by the program of their layout over the network.
pub record IsFoundFor (net : Network) (policy : Policy) (parts : StatementParts) (ends : List Ends) (objective : Objective) (budget : ℕ) (found : WalksFound) : Type 0 where
  pub problem : Problem
  pub symbols : List (List Symbol)
  pub layout : IsLayout net parts ends objective problem symbols
  pub laid : IsLaidOut net policy parts.automaton ends objective problem symbols
  pub limits : KeepsProductLimits (directed_links net) problem.flows
  pub within : IsProblem problem
  pub is : IsFoundIn net policy parts.automaton ends objective problem budget found

-- no walks are least, with their value
abbrev pub AreNoWalks : Network → Policy → Objective → WalksFound → Type 0
AreNoWalks net policy objective (Least value walks tree) = (walks ≡ []) × (value ≡ value_of net policy [] objective [])
AreNoWalks net policy objective (Infeasible tree) = ⊥
AreNoWalks net policy objective (Budget best bound tree) = ⊥
