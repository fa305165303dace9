-- What walks put on links, and the value of walks.
use Rattle.std.specs.Prelude.{ℕ, ◌≡◌, ◌≤◌, ◌+◌, ◌*◌, ◌^◌, List, ◌∷◌, map, sum_by}
use Rattle.std.specs.List.{AllByRecursion, AllZip}
use Rattle.merlin_model.specs.declared.network.DirectedLink.{DirectedLink}
use Rattle.merlin_model.specs.declared.policy.Symbol.{Symbol}
use Rattle.merlin_model.specs.declared.policy.Ends.{Ends}
use Rattle.merlin_model.specs.declared.policy.Objective.{Objective}
use Rattle.merlin_model.specs.declared.policy.Objective.TheVariants as objective
use Rattle.merlin_model.specs.declared.policy.Value.{Value}
use Rattle.merlin_model.specs.declared.policy.Value.TheVariants.{Whole}
use Rattle.merlin_model.specs.Networks.{Network}
use Rattle.merlin_model.specs.Words.{crossings}
use Rattle.merlin_model.specs.Policies.{Policy}
use Rattle.merlin_model.specs.Rates.{greatest_of}
use Rattle.merlin_model.specs.Assignments.{IsAssignment, value_of, greatest_ratio, ratio_value}
use Rattle.rules_model.specs.Products.{SymbolAutomaton}
use Rattle.cutoff_program.specs.declared.flow.Flow.{Flow}
use Rattle.cutoff_program.specs.declared.flow.Problem.{Problem}
use Rattle.cutoff_program.specs.Walks.{IsSimple}
use Rattle.program_walks.specs.Solutions.{IsLaidOut}

-- the rates of flows, each as often as its walk goes from u to v
abbrev pub load_by : List Flow → List (List Symbol) → ℕ → ℕ → ℕ
load_by (flow ∷ flows) (walk ∷ walks) u v = flow.rate * crossings walk u v + load_by flows walks u v
load_by _ _ u v = 0

abbrev pub load_on_link : Problem → List (List Symbol) → DirectedLink → ℕ
load_on_link problem walks link = load_by problem.flows walks link.from link.to

abbrev pub cost_on_link : Problem → List (List Symbol) → DirectedLink → ℕ
cost_on_link problem walks link = load_on_link problem walks link * link.weight

abbrev pub ratio_on_link : Problem → List (List Symbol) → DirectedLink → ℕ × ℕ
ratio_on_link problem walks link = (load_on_link problem walks link, link.capacity)

abbrev pub value_as : Objective → Problem → List (List Symbol) → Value
value_as objective.Shortest problem walks = Whole (sum_by (cost_on_link problem walks) problem.links)
value_as objective.Ratio problem walks = ratio_value (greatest_ratio (map (ratio_on_link problem walks) problem.links))
value_as objective.Reserved problem walks = Whole (greatest_of (map (load_on_link problem walks) problem.links))

abbrev pub value_by_walks : Problem → List (List Symbol) → Value
value_by_walks problem walks = value_as problem.objective problem walks

-- no load is great, and all of them together cost little
pub record AreSmallLoads (problem : Problem) (walks : List (List Symbol)) : Type 0 where
  pub loads : AllByRecursion (λ link. load_on_link problem walks link ≤ 2 ^ 45) problem.links
  pub costs : sum_by (cost_on_link problem walks) problem.links ≤ 2 ^ 45

-- walks of the policy that the problem is laid out of, allowed and without a repeated vertex
pub record AreSimpleWalks (problem : Problem) (symbols walks : List (List Symbol)) : Type 0 where
  pub net : Network
  pub policy : Policy
  pub automata : ℕ → SymbolAutomaton
  pub ends : List Ends
  pub objective : Objective
  pub laid : IsLaidOut net policy automata ends objective problem symbols
  pub assignment : IsAssignment net policy ends walks
  pub simple : AllZip (λ e w. IsSimple (automata e.statement) w) ends walks

-- the value of the walks, of whatever policy the problem is laid out
abbrev pub IsValueOfWalks : Problem → List (List Symbol) → List (List Symbol) → Value → Type 0
IsValueOfWalks problem symbols walks value =
    (net : Network) (policy : Policy) (automata : ℕ → SymbolAutomaton) (ends : List Ends) (objective : Objective) →
    IsLaidOut net policy automata ends objective problem symbols → value ≡ value_of net policy ends objective walks
