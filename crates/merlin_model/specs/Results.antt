-- The three results of a compile, and what each promises: the least assignment, none that is
-- feasible, or a budget that is spent.
use Rattle.std.specs.Prelude.{ℕ, ◌≡◌, ◌≤◌, ◌<◌, ◌+◌, Bool, true, List, [], Option, None, Some, IfSome, MatchOption, option_map, slice_get}
use Rattle.std.specs.List.{AllByRecursion, AllZip}
use Rattle.merlin_model.specs.declared.policy.Symbol.{Symbol}
use Rattle.merlin_model.specs.declared.policy.Path.{Path}
use Rattle.merlin_model.specs.declared.policy.Ends.{Ends}
use Rattle.merlin_model.specs.declared.policy.Objective.{Objective}
use Rattle.merlin_model.specs.declared.policy.Value.{Value}
use Rattle.merlin_model.specs.declared.config.Config.{Config}
use Rattle.merlin_model.specs.declared.certificate.Tree.{Tree}
use Rattle.merlin_model.specs.Networks.{Network}
use Rattle.merlin_model.specs.Policies.{Policy, AreDisjoint, IsTotal, paths_of}
use Rattle.merlin_model.specs.Rates.{HasRoomForGuarantees}
use Rattle.merlin_model.specs.Assignments.{AreAllEnds, IsAssignment, IsFeasible, IsLeast, IsSmaller, value_of}
use Rattle.merlin_model.specs.Programs.{Program}
use Rattle.merlin_model.specs.Trees.{Refutes, nodes_of, node_count, root_box, has_open_end, IsKeptNode}
use Rattle.merlin_model.specs.Headline.{DeliversPackets, MeetsGuarantees, KeepsCaps, HasOneLinePerClass}

-- What holds of a policy that is accepted, with the ends of its guarantees. The promises rest on
-- it.
pub record IsAcceptedPolicy (net : Network) (policy : Policy) (ends : List Ends) : Type 0 where
  pub disjoint : AreDisjoint policy
  pub total : IsTotal policy
  pub room : HasRoomForGuarantees policy
  pub ends_are : AreAllEnds net policy ends

-- What the promises take from definitions of the crates above: which words are simple for a path,
-- which program asks for an assignment, of a value below the cutoff where there is one, which boxes
-- a relaxation has to decide there, the bound of each guarantee by itself, and the lines of some
-- walks.
pub record Meanings : Type 1 where
  pub IsSimpleFor : Path → List Symbol → Type 0
  pub IsProgramAt : Network → Policy → List Ends → Objective → Option Value → Program → Type 0
  pub IsEasy : Network → Policy → List Ends → Objective → Option Value → List (Option Bool) → Type 0
  pub IsSeparateBound : Network → Policy → List Ends → Objective → Value → Type 0
  pub HasLinesOf : Network → Policy → List Ends → List (List Symbol) → Config → Type 0

-- the best that a search found: a value, and walks of this value
pub record BestFound : Type 0 where
  pub value : Value
  pub walks : List (List Symbol)

-- the tree has at most so many nodes
abbrev pub IsWithinBudget : Tree → ℕ → Type 0
IsWithinBudget tree budget = node_count tree ≤ budget

module _ (means : Meanings) (net : Network) (policy : Policy) (ends : List Ends) (objective : Objective) where
  -- each walk is simple for the path of its statement
  abbrev pub AreSimple : List (List Symbol) → Type 0
  AreSimple walks =
      AllZip (λ e w. MatchOption (slice_get (paths_of policy) e.statement) ⊥ (λ path. means.IsSimpleFor path w)) ends walks

  -- the tree shows that the program at the cutoff has no solution
  pub record RefutesAt (cutoff : Option Value) (tree : Tree) : Type 0 where
    pub program : Program
    pub asks : means.IsProgramAt net policy ends objective cutoff program
    pub refutes : Refutes program tree (root_box program)

  -- The whole promise: each packet follows a walk and functions that its one statement allows, or
  -- is dropped exactly where none is allowed or its share of a cap is zero; the reserved queues
  -- meet each guarantee within the capacities; the caps are kept; and the tree shows that no
  -- assignment of allowed walks has a smaller value.
  pub record KeepsPromise (walks : List (List Symbol)) (value : Value) (config : Config) (tree : Tree) : Type 0 where
    pub accepted : IsAcceptedPolicy net policy ends
    pub simple : AreSimple walks
    pub packets : DeliversPackets net policy ends walks config
    pub guarantees : MeetsGuarantees net policy ends walks config
    pub caps : KeepsCaps net policy ends walks config
    pub classes : HasOneLinePerClass config
    pub lines : means.HasLinesOf net policy ends walks config
    pub least : IsLeast net policy ends objective walks
    pub value_is : value ≡ value_of net policy ends objective walks
    pub refutes : RefutesAt (Some value) tree

  -- No assignment is feasible, and the tree shows it.
  pub record IsInfeasible (tree : Tree) : Type 0 where
    pub accepted : IsAcceptedPolicy net policy ends
    pub none : (walks : List (List Symbol)) → IsAssignment net policy ends walks →
        ¬ IsFeasible net policy ends walks
    pub refutes : RefutesAt None tree

  -- the walks are a simple and feasible assignment, and the value is theirs
  pub record IsBestFound (found : BestFound) : Type 0 where
    pub assignment : IsAssignment net policy ends found.walks
    pub simple : AreSimple found.walks
    pub feasible : IsFeasible net policy ends found.walks
    pub value_is : found.value ≡ value_of net policy ends objective found.walks

  -- each node of the tree is one that a search may leave at the cutoff
  pub record IsKeptAt (cutoff : Option Value) (tree : Tree) : Type 0 where
    pub program : Program
    pub asks : means.IsProgramAt net policy ends objective cutoff program
    pub kept :
        AllByRecursion
        (λ node. IsKeptNode program (means.IsEasy net policy ends objective cutoff) node.0 node.1)
        (nodes_of tree (root_box program))

  -- The budget is spent: one more split would pass it, and some end of the tree is open. At the
  -- best value that was found, if any was, each node is one that the search may leave. No feasible
  -- assignment has a value below the bound.
  pub record IsBudgetSpent (budget : ℕ) (best : Option BestFound) (bound : Value) (tree : Tree) : Type 0 where
    pub accepted : IsAcceptedPolicy net policy ends
    pub within : IsWithinBudget tree budget
    pub full : budget < node_count tree + 2
    pub unfinished : has_open_end (nodes_of tree []) ≡ true
    pub kept : IsKeptAt (option_map (λ found. found.value) best) tree
    pub found : IfSome best IsBestFound
    pub bound_is : means.IsSeparateBound net policy ends objective bound
    pub bounds : (walks : List (List Symbol)) → IsAssignment net policy ends walks →
        IsFeasible net policy ends walks →
        ¬ IsSmaller (value_of net policy ends objective walks) bound
