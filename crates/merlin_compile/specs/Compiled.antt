-- What two texts compile to, and what that promises.
use Rattle.std.specs.Prelude.{ℕ, ◌≡◌, List, Some, slice_get}
use Rattle.std.specs.List.{AllZip}
use Rattle.merlin_model.specs.declared.certificate.Tree.{Tree}
use Rattle.merlin_model.specs.declared.config.Config.{Config}
use Rattle.merlin_model.specs.declared.policy.Ends.{Ends}
use Rattle.merlin_model.specs.declared.policy.Objective.{Objective}
use Rattle.merlin_model.specs.declared.policy.Symbol.{Symbol}
use Rattle.merlin_model.specs.declared.policy.Value.{Value}
use Rattle.merlin_model.specs.Networks.{Network}
use Rattle.merlin_model.specs.Policies.{Policy as NumberedPolicy}
use Rattle.merlin_model.specs.Assignments.{IsAssignment, IsFeasible, IsLeast, load_on, value_of}
use Rattle.merlin_model.specs.Headline.{DeliversPackets, MeetsGuarantees, KeepsCaps, HasOneLinePerClass}
use Rattle.merlin_model.specs.Results.{IsAcceptedPolicy}
use Rattle.rate_formula.specs.Usage.{ids_in}
use Rattle.config_text.specs.Lines.{IsConfigOver}
use Rattle.config_text.specs.Loads.{loads_of}
use Rattle.result_heads.specs.Queued.{queued_on}
use Rattle.policy_check.specs.Checked.{CheckedPolicy}
use Rattle.openflow_rules.specs.Planning.{statement_automata}
use Rattle.configuration_model.specs.Compiled.{IsMade}
use Rattle.policy_configuration.specs.Parts.{HasLinesFor}
use Rattle.walk_search.specs.Found.{IsFoundFor}
use Rattle.walk_search.specs.Parts.{checked_parts}
use Rattle.walk_search.specs.declared.found.WalksFound.TheVariants as found
use Rattle.merlin_compile.specs.declared.outcome.Solved.{Solved}
use Rattle.merlin_compile.specs.declared.outcome.Partial.{Partial}
use Rattle.merlin_compile.specs.declared.outcome.Compiled.{Compiled}
use Rattle.merlin_compile.specs.declared.outcome.Compiled.TheVariants.{Least, Infeasible, Budget}
use Rattle.merlin_compile.specs.Input.{IsInput}

-- the ids of the statements that have these ends, in their order
abbrev pub AreIdsOf : NumberedPolicy → List Ends → List (List ℕ) → Type 0
AreIdsOf policy ends ids = AllZip (λ e id. slice_get (ids_in policy) e.statement ≡ Some id) ends ids

-- Walks for the guaranteed statements of a checked policy, and the configuration that is made of them.
pub record IsProvisioned (net : Network) (checked : CheckedPolicy) (ends : List Ends) (walks : List (List Symbol)) (config : Config) : Type 0 where
  -- Each packet that is allowed some way goes one: that of its guaranteed statement is the written walk, and for best effort none
  -- that it is allowed is shorter. It is dropped exactly where it is allowed none, at its first switch, or where its
  -- statement's share of a cap is 0, at its host.
  pub packets : DeliversPackets net checked.policy ends walks config
  -- The queues are those of the guarantees, they fit the links, and packets of guaranteed statements go through them.
  pub guarantees : MeetsGuarantees net checked.policy ends walks config
  -- The ceilings of a capped statement over its sources sum to the cap, its packets are in its classes, and each class has one
  -- line.
  pub caps : KeepsCaps net checked.policy ends walks config
  pub classes : HasOneLinePerClass config
  -- it is made of the cells, groups, sink trees, walks and shares of the policy, has exactly their lines, and can be printed
  pub made : IsMade net checked.policy ends walks config
  pub lines : HasLinesFor net checked.policy (statement_automata checked) ends walks config
  pub over : IsConfigOver net config

-- The result of a least assignment. It keeps the whole promise.
pub record IsSolvedFrom (policy topology : List ℕ) (objective : Objective) (budget : ℕ) (solved : Solved) : Type 0 where
  pub checked : CheckedPolicy
  pub ends : List Ends
  pub input : IsInput policy topology solved.net checked ends
  pub accepted : IsAcceptedPolicy solved.net checked.policy ends
  pub asked : solved.objective ≡ objective
  pub ids : AreIdsOf checked.policy ends solved.ids
  pub provisioned : IsProvisioned solved.net checked ends solved.walks solved.config
  -- what the queues put on the directed links is what the walks put there
  pub loads : loads_of solved.net (queued_on solved.config.queues) ≡ loads_of solved.net (load_on solved.net checked.policy ends solved.walks)
  -- no feasible assignment of allowed walks has a smaller value
  pub least : IsLeast solved.net checked.policy ends objective solved.walks
  pub value_is : solved.value ≡ value_of solved.net checked.policy ends objective solved.walks
  -- the walks are simple, and a tree within the budget refutes the policy's program at the value
  pub found : IsFoundFor solved.net checked.policy (checked_parts solved.net checked) ends objective budget (found.Least solved.value solved.walks solved.tree)

-- No assignment is feasible, which a tree within the budget shows.
pub record IsInfeasibleFrom (policy topology : List ℕ) (objective : Objective) (budget : ℕ) (asked : Objective) (tree : Tree) : Type 0 where
  pub net : Network
  pub checked : CheckedPolicy
  pub ends : List Ends
  pub input : IsInput policy topology net checked ends
  pub accepted : IsAcceptedPolicy net checked.policy ends
  pub asked_is : asked ≡ objective
  pub none : (walks : List (List Symbol)) → IsAssignment net checked.policy ends walks →
      ¬ IsFeasible net checked.policy ends walks
  pub found : IsFoundFor net checked.policy (checked_parts net checked) ends objective budget (found.Infeasible tree)

-- The budget was spent: feasible walks of the best value so far, a bound that no feasible assignment is below, and the tree with
-- an open end.
pub record IsPartialFrom (policy topology : List ℕ) (objective : Objective) (budget : ℕ) (partial : Partial) : Type 0 where
  pub checked : CheckedPolicy
  pub ends : List Ends
  pub input : IsInput policy topology partial.net checked ends
  pub accepted : IsAcceptedPolicy partial.net checked.policy ends
  pub asked : partial.objective ≡ objective
  pub ids : AreIdsOf checked.policy ends partial.ids
  pub found : IsFoundFor partial.net checked.policy (checked_parts partial.net checked) ends objective budget (found.Budget partial.best partial.bound partial.tree)

-- What a policy and a topology compile to, for an objective, by a search of at most so many nodes.
abbrev pub IsCompiledFrom : List ℕ → List ℕ → Objective → ℕ → Compiled → Type 0
IsCompiledFrom policy topology objective budget (Least solved) = IsSolvedFrom policy topology objective budget solved
IsCompiledFrom policy topology objective budget (Infeasible asked tree) = IsInfeasibleFrom policy topology objective budget asked tree
IsCompiledFrom policy topology objective budget (Budget partial) = IsPartialFrom policy topology objective budget partial
