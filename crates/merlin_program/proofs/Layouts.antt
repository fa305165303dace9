-- The flows of statements within the limits are a problem, and it is that of a policy whose parts they have.
use Rattle.std.proofs.Common.{◌≡◌, ◌≤◌, ◌+◌, ◌*◌, ◌^◌, ℕ, suc, List, [], ◌∷◌, map, length, length-append, refl, sym, ◌∙◌, ap, ap₂, subst, arith}
use Rattle.std.proofs.lemmas.List.Sums.{sum_by-cons}
use Rattle.std.specs.List.{AllByRecursion}
use Rattle.merlin_model.specs.declared.network.Link.{Link}
use Rattle.merlin_model.specs.declared.policy.Ends.{Ends}
use Rattle.merlin_model.specs.declared.policy.Objective.{Objective}
use Rattle.merlin_model.specs.declared.policy.Symbol.{Symbol}
use Rattle.merlin_model.specs.Networks.{Network, directed_links, directed_links_of}
use Rattle.cutoff_program.specs.Flows.{variables_from, cost_of_variable}
use Rattle.cutoff_program.specs.declared.flow.Flow.{Flow}
use Rattle.cutoff_program.specs.declared.flow.Problem.{Problem}
use Rattle.cutoff_program.specs.Limits.{IsFlow, IsProblem}
use Rattle.cutoff_program.proofs.Lists.{all_both, all_map}
use Rattle.cutoff_program.proofs.Limits.{product-flow, few-flows}
use Rattle.topology.specs.Lawful.{IsTopologyNetwork}
use Rattle.path_automaton.specs.Automata.{AutomatonTables}
use Rattle.policy_flows.specs.Layouts.{StatementParts, statement_parts, HasParts, AreFlowsBetween, IsLayout, IsLight, KeepsProductLimits, edges_of_flows}
use Rattle.policy_flows.proofs.Added.{count-flows}

-- there are two directed links for each link
two-each : (links : List Link) → length (directed_links_of links) ≡ 2 * length links
two-each [] = refl
two-each (link ∷ links) = let ih = two-each links in omega (arith, ih)

map-count : {X Y : Type 0} (f : X → Y) (xs : List X) → length (map f xs) ≡ length xs
map-count f [] = refl
map-count f (x ∷ xs) = ap suc (map-count f xs)

-- each edge is a variable
count-variables : (n : ℕ) (flows : List Flow) → length (variables_from n flows) ≡ edges_of_flows flows
count-variables n [] = refl
count-variables n (flow ∷ flows) =
    let a = length-append (map (λ e. record { flow = n; rate = flow.rate; edge = e }) flow.edges) (variables_from (n + 1) flows) in
    let b = map-count (λ e. record { flow = n; rate = flow.rate; edge = e }) flow.edges in
    let c = count-variables (n + 1) flows in
    let d = sum_by-cons (λ (f : Flow). length f.edges) flow flows in
    a ∙ ap₂ (λ x y. x + y) b c ∙ sym d

-- what each variable costs is what its edge does
costs-from : (problem : Problem) (n : ℕ) (flows : List Flow) → AllByRecursion (λ flow. AllByRecursion (IsLight problem.links flow) flow.edges) flows → AllByRecursion (λ v. cost_of_variable problem v ≤ 10 ^ 9) (variables_from n flows)
costs-from problem n [] light = tt
costs-from problem n (flow ∷ flows) light =
    all_both (λ v. cost_of_variable problem v ≤ 10 ^ 9) (map (λ e. record { flow = n; rate = flow.rate; edge = e }) flow.edges) (variables_from (n + 1) flows)
    (all_map (λ v. cost_of_variable problem v ≤ 10 ^ 9) (λ e. record { flow = n; rate = flow.rate; edge = e }) flow.edges light.0)
    (costs-from problem (n + 1) flows light.1)

flows-are : (net : Network) (automata : List AutomatonTables) (rates : List ℕ) (ends : List Ends) (flows : List Flow) (symbols : List (List Symbol)) → AllByRecursion (HasParts net automata rates) ends → AreFlowsBetween net (statement_parts net automata rates) ends flows symbols → AllByRecursion (IsFlow (directed_links net)) flows
flows-are net automata rates [] [] [] has are = tt
flows-are net automata rates (e ∷ ends) (flow ∷ flows) (first ∷ symbols) has are = (
  subst (IsFlow (directed_links net)) (sym are.0.is) (product-flow net ((statement_parts net automata rates).automaton e.statement) e.src e.dst ((statement_parts net automata rates).rate e.statement) are.0.product has.0.small are.0.is_product),
  flows-are net automata rates ends flows symbols has.1 are.1,
)
flows-are net automata rates [] [] (first ∷ symbols) has are = absurd are
flows-are net automata rates [] (flow ∷ flows) symbols has are = absurd are
flows-are net automata rates (e ∷ ends) [] symbols has are = absurd are
flows-are net automata rates (e ∷ ends) (flow ∷ flows) [] has are = absurd are

pub count-symbols : (net : Network) (parts : StatementParts) (ends : List Ends) (flows : List Flow) (symbols : List (List Symbol)) → AreFlowsBetween net parts ends flows symbols → length symbols ≡ length flows
count-symbols net parts [] [] [] are = refl
count-symbols net parts (e ∷ ends) (flow ∷ flows) (first ∷ symbols) are = ap suc (count-symbols net parts ends flows symbols are.1)
count-symbols net parts [] [] (first ∷ symbols) are = absurd are
count-symbols net parts [] (flow ∷ flows) symbols are = absurd are
count-symbols net parts (e ∷ ends) [] symbols are = absurd are
count-symbols net parts (e ∷ ends) (flow ∷ flows) [] are = absurd are

pub layout-problem : (net : Network) (automata : List AutomatonTables) (rates : List ℕ) (ends : List Ends) (objective : Objective) (problem : Problem) (symbols : List (List Symbol)) → IsTopologyNetwork net → length ends ≤ 64 → AllByRecursion (HasParts net automata rates) ends →
    IsLayout net (statement_parts net automata rates) ends objective problem symbols → KeepsProductLimits (directed_links net) problem.flows → IsProblem problem
layout-problem net automata rates ends objective problem symbols ok few has layout limits = few-flows net problem ok.lawful (record {
  links_are = layout.links_are;
  flows = flows-are net automata rates ends problem.flows symbols has layout.flows;
  few = let c = count-flows net (statement_parts net automata rates) ends problem.flows symbols layout.flows in omega (arith, c, few);
  vertices = limits.vertices;
  edges = let c = count-variables 0 problem.flows in let e = limits.edges in omega (arith, c, e);
  links_few = let c = two-each net.links in let l = ok.limits.links in omega (arith, c, l);
  capacities = ok.forms.capacities;
  costs = costs-from problem 0 problem.flows (subst (λ ls. AllByRecursion (λ flow. AllByRecursion (IsLight ls flow) flow.edges) problem.flows) (sym layout.links_are) limits.costs);
})
