-- Flows over the links of a network keep the limits, and so does the problem of a policy.
use Rattle.std.proofs.Common.{◌≡◌, ℕ, suc, ◌+◌, ◌-◌, ◌*◌, ◌^◌, ◌≤◌, ◌<◌, max, ◌⊎◌, inl, inr, List, [], ◌∷◌, map, length, Option, None, Some, IfSome, slice_get, sum_by, refl, sym, ◌∙◌, ap, subst, arith}
use Rattle.std.proofs.lemmas.List.Sums.{sum_by-cons}
use Rattle.std.specs.List.{AllByRecursion, AllZip}
use Rattle.merlin_model.specs.declared.network.DirectedLink.{DirectedLink}
use Rattle.merlin_model.specs.declared.policy.Ends.{Ends}
use Rattle.merlin_model.specs.declared.policy.Objective.{Objective}
use Rattle.merlin_model.specs.Networks.{Network, IsNetwork, JoinsLocations, directed_links}
use Rattle.merlin_model.specs.Policies.{Policy}
use Rattle.merlin_model.specs.Rates.{min_of}
use Rattle.merlin_model.proofs.Members.{in_to}
use Rattle.rules_model.specs.Products.{SymbolAutomaton, Vertex, start_of, IsEdge, IsLast, IsJoined}
use Rattle.cutoff_program.specs.Flows.{FlowEdge, Flow, Problem, last_of, variables_of, cost_of_variable}
use Rattle.cutoff_program.specs.Limits.{IsEdgeOf, IsFlow, IsLinkWithin, IsProblem}
use Rattle.cutoff_program.specs.Products.{Product, IsTrimmedProduct, IsProductOfHosts, place_between, loc_at, edge_of, flow_of}
use Rattle.cutoff_program.specs.Walks.{IsFlowOf, IsProblemOf, KeepsPolicyLimits}
use Rattle.cutoff_program.proofs.Lists.{all_map, some_some, within_length}
use Rattle.cutoff_program.proofs.Places.{place-of}
use Rattle.cutoff_program.proofs.Bridge.{last-of}
use Rattle.rules_model.proofs.Pieces.{all-from}

-- the link that an edge crosses exists
crosses-in : (net : Network) (u v : ℕ) → IfSome (place_between net u v) (λ l. l < length (directed_links net))
crosses-in net u v = by (place_between net u v) refl
  where
    by : (o : Option ℕ) → place_between net u v ≡ o → IfSome o (λ l. l < length (directed_links net))
    by None e = tt
    by (Some l) e = let p = place-of net u v l e in within_length (directed_links net) l p.0 p.1

edge-is : (net : Network) (a : SymbolAutomaton) (s d rate : ℕ) (product : Product) → (t : IsTrimmedProduct net a s d product) → (e : ℕ × ℕ) → IsJoined net a d (start_of a s ∷ t.inner) e → IsEdgeOf (directed_links net) (last_of (flow_of net rate product)) (edge_of net product.vertices e)
edge-is net a s d rate product t e j = by j.2
  where
    last : last_of (flow_of net rate product) ≡ length (start_of a s ∷ t.inner)
    last = last-of net a s d rate product t

    from : e.0 < length (start_of a s ∷ t.inner)
    from = within_length (start_of a s ∷ t.inner) e.0 j.0 j.1

    by : ((u : Vertex) × (slice_get (start_of a s ∷ t.inner) e.1 ≡ Some u) × IsEdge net a j.0 u) ⊎ ((e.1 ≡ length (start_of a s ∷ t.inner)) × IsLast net a d j.0) → IsEdgeOf (directed_links net) (last_of (flow_of net rate product)) (edge_of net product.vertices e)
    by (inl u) = record {
      apart = λ same. u.2.turns (some_some (sym j.1 ∙ ap (slice_get (start_of a s ∷ t.inner)) same ∙ u.1));
      starts = below _ _ _ from last;
      ends = below _ _ _ (within_length (start_of a s ∷ t.inner) e.1 u.0 u.1) last;
      crosses = crosses-in net (loc_at product.vertices e.0) (loc_at product.vertices e.1);
    }
      where
        below : (x y z : ℕ) → x < y → z ≡ y → x ≤ z
        below x y z h f = omega arith
    by (inr z) = record {
      apart = λ same. apart _ _ _ from z.0 same;
      starts = below _ _ _ from last;
      ends = equal _ _ _ z.0 last;
      crosses = crosses-in net (loc_at product.vertices e.0) (loc_at product.vertices e.1);
    }
      where
        below : (x y z : ℕ) → x < y → z ≡ y → x ≤ z
        below x y z h f = omega arith

        equal : (x y z : ℕ) → x ≡ y → z ≡ y → x ≤ z
        equal x y z h f = omega arith

        apart : (x y z : ℕ) → x < y → z ≡ y → x ≡ z → ⊥
        apart x y z h f g = let bad : ⊥ = omega arith in bad

pub product-flow : (net : Network) (a : SymbolAutomaton) (s d rate : ℕ) (product : Product) → rate ≤ 10 ^ 9 → IsProductOfHosts net a s d product → IsFlow (directed_links net) (flow_of net rate product)
product-flow net a s d rate product small is = record { rate = small; edges = by is }
  where
    IsIn : FlowEdge → Type 0
    IsIn = IsEdgeOf (directed_links net) (last_of (flow_of net rate product))

    by : IsProductOfHosts net a s d product → AllByRecursion IsIn (map (edge_of net product.vertices) product.edges)
    by (inl cut) = subst (λ es. AllByRecursion IsIn (map (edge_of net product.vertices) es)) (sym cut.edges) tt
    by (inr t) = all_map IsIn (edge_of net product.vertices) product.edges
        (all-from (λ e. IsIn (edge_of net product.vertices e)) product.edges
        (λ e i. edge-is net a s d rate product t e ((t.joined e).0 (in_to product.edges e i))))

flow-is : (net : Network) (policy : Policy) (automata : ℕ → SymbolAutomaton) (ends : Ends) (flow : Flow) → min_of policy ends.statement ≤ 10 ^ 9 → IsFlowOf net policy automata ends flow → IsFlow (directed_links net) flow
flow-is net policy automata ends flow small of = subst (IsFlow (directed_links net)) (sym of.is) (product-flow net (automata ends.statement) ends.src ends.dst (min_of policy ends.statement) of.product small of.is_product)

flows-are : (net : Network) (policy : Policy) (automata : ℕ → SymbolAutomaton) (ends : List Ends) (flows : List Flow) → AllByRecursion (λ e. min_of policy e.statement ≤ 10 ^ 9) ends → AllZip (IsFlowOf net policy automata) ends flows → AllByRecursion (IsFlow (directed_links net)) flows
flows-are net policy automata [] [] small of = tt
flows-are net policy automata (e ∷ ends) (flow ∷ flows) small of = (flow-is net policy automata e flow small.0 of.0, flows-are net policy automata ends flows small.1 of.1)
flows-are net policy automata [] (flow ∷ flows) small of = absurd of
flows-are net policy automata (e ∷ ends) [] small of = tt

count-flows : (net : Network) (policy : Policy) (automata : ℕ → SymbolAutomaton) (ends : List Ends) (flows : List Flow) → AllZip (IsFlowOf net policy automata) ends flows → length flows ≡ length ends
count-flows net policy automata [] [] of = refl
count-flows net policy automata (e ∷ ends) (flow ∷ flows) of = ap suc (count-flows net policy automata ends flows of.1)
count-flows net policy automata [] (flow ∷ flows) of = absurd of
count-flows net policy automata (e ∷ ends) [] of = absurd of

count-vertices : (flows : List Flow) → sum_by (λ flow. last_of flow + 1) flows ≤ sum_by (λ flow. flow.vertices) flows + 2 * length flows
count-vertices [] = omega arith
count-vertices (flow ∷ flows) =
    let ih = count-vertices flows in
    let a = sum_by-cons (λ flow. last_of flow + 1) flow flows in
    let b = sum_by-cons (λ flow. flow.vertices) flow flows in
    let c = one flow.vertices in
    add _ _ _ _ _ _ _ ih a b c
  where
    one : (n : ℕ) → max n 2 - 1 + 1 ≤ n + 2
    one n = omega arith

    add : (s v n t w x y : ℕ) → s ≤ v + 2 * n → t ≡ x + s → w ≡ y + v → x ≤ y + 2 → t ≤ w + 2 * suc n
    add s v n t w x y h e f g = omega arith

links-are : (ws : List DirectedLink) → AllByRecursion (λ directed. 0 < directed.capacity) ws → AllByRecursion (λ directed. directed.capacity ≤ 10 ^ 9) ws → AllByRecursion IsLinkWithin ws
links-are [] p s = tt
links-are (directed ∷ ws) p s = (record { positive = p.0; small = s.0 }, links-are ws p.1 s.1)

positive : (net : Network) (ws : List DirectedLink) → AllByRecursion (JoinsLocations net) ws → AllByRecursion (λ directed. 0 < directed.capacity) ws
positive net [] all = tt
positive net (directed ∷ ws) all = (all.0.3, positive net ws all.1)

-- a few flows over the links of a network
pub record AreFewFlows (net : Network) (problem : Problem) : Type 0 where
  pub links_are : problem.links ≡ directed_links net
  pub flows : AllByRecursion (IsFlow (directed_links net)) problem.flows
  pub few : length problem.flows ≤ 64
  pub vertices : sum_by (λ flow. flow.vertices) problem.flows ≤ 8192
  pub edges : length (variables_of problem) ≤ 32768
  pub links_few : length (directed_links net) ≤ 2048
  pub capacities : AllByRecursion (λ directed. directed.capacity ≤ 10 ^ 9) (directed_links net)
  pub costs : AllByRecursion (λ v. cost_of_variable problem v ≤ 10 ^ 9) (variables_of problem)

pub few-flows : (net : Network) (problem : Problem) → IsNetwork net → AreFewFlows net problem → IsProblem problem
few-flows net problem ok are = record {
  flows = subst (λ ws. AllByRecursion (IsFlow ws) problem.flows) (sym are.links_are) are.flows;
  links = subst (AllByRecursion IsLinkWithin) (sym are.links_are) (links-are (directed_links net) (positive net (directed_links net) ok.ends) are.capacities);
  few_variables = are.edges;
  costs = are.costs;
  few_rows =
      let a = count-vertices problem.flows in
      let c = ap length are.links_are in
      let d = are.few in
      let e = are.vertices in
      let f = are.links_few in
      small _ _ _ _ _ a c d e f;
}
  where
    small : (s v n w x : ℕ) → s ≤ v + 2 * n → w ≡ x → n ≤ 64 → v ≤ 8192 → x ≤ 2048 → s + w < 16384
    small s v n w x a c d e f = omega arith

pub problem-is : (net : Network) (policy : Policy) (automata : ℕ → SymbolAutomaton) (ends : List Ends) (objective : Objective) (problem : Problem) → IsNetwork net → IsProblemOf net policy automata ends objective problem → KeepsPolicyLimits net policy ends problem → IsProblem problem
problem-is net policy automata ends objective problem ok of limits = few-flows net problem ok (record {
  links_are = of.links_are;
  flows = flows-are net policy automata ends problem.flows limits.rates of.flows;
  few = let b = count-flows net policy automata ends problem.flows of.flows in let d = limits.few in omega (arith, b, d);
  vertices = limits.vertices;
  edges = limits.edges;
  links_few = limits.links_few;
  capacities = limits.capacities;
  costs = limits.costs;
})
