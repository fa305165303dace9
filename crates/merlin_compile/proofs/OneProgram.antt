-- The program of the guaranteed statements does not depend on the tables of the policy's automata.
use Rattle.std.proofs.Common.{◌≡◌, ◌≤◌, ◌<◌, ◌+◌, ◌++◌, ℕ, zero, suc, List, [], ◌∷◌, length, map, take, sum_by, slice_get, Option, None, Some, IsSome, option_map, option_to_list, Ok, refl, sym, ◌∙◌, ap, ap₂, subst, arith}
use Rattle.std.proofs.lemmas.Option.{get_or_from_slice_get}
use Rattle.std.proofs.lemmas.List.Sums.{sum_by-cons}
use Rattle.std.specs.List.{AllByRecursion, slice_index_or}
use Rattle.merlin_model.specs.declared.limits.TheConstants.{MAX_COEFFICIENT}
use Rattle.merlin_model.specs.declared.network.DirectedLink.{DirectedLink}
use Rattle.merlin_model.specs.declared.network.HostAddress.{HostAddress}
use Rattle.merlin_model.specs.declared.policy.Ends.{Ends}
use Rattle.merlin_model.specs.declared.policy.Objective.{Objective}
use Rattle.merlin_model.specs.declared.policy.Symbol.{Symbol}
use Rattle.merlin_model.specs.Networks.{Network, IsHost, address_of, directed_links}
use Rattle.merlin_model.specs.declared.policy.Path.{Path}
use Rattle.merlin_model.specs.Policies.{Policy, Statement, paths_of}
use Rattle.merlin_model.specs.Assignments.{AreTheEnds, AreAllEnds}
use Rattle.merlin_model.proofs.Members.{in_from, all_in}
use Rattle.path_automaton.specs.Automata.{AutomatonTables, AreTablesOfPath}
use Rattle.path_automaton.specs.Built.{IsBuilt}
use Rattle.path_automaton.proofs.Building.{all-get}
use Rattle.product_graph.specs.Products.{automaton_of}
use Rattle.topology.specs.Symbols.{network_symbols}
use Rattle.rate_formula.specs.Usage.{ids_in}
use Rattle.localise.specs.Localised.{localised}
use Rattle.cutoff_program.specs.declared.flow.Flow.{Flow}
use Rattle.cutoff_program.specs.declared.flow.Problem.{Problem}
use Rattle.cutoff_program.specs.Products.{flow_of}
use Rattle.policy_expansion.specs.declared.policy.Policy.{Policy as NamedPolicy}
use Rattle.policy_check.specs.Checked.{CheckedPolicy}
use Rattle.policy_check.specs.Numbered.{numbered_policy}
use Rattle.policy_check.proofs.Guaranteed.{statement-of}
use Rattle.policy_flows.specs.Faults.{RefusesStatements}
use Rattle.policy_flows.specs.Layouts.{StatementParts, no_tables, IsFlowBetween, AreFlowsBetween, IsLayout, IsLight, KeepsProductLimits, vertices_of_flows, edges_of_flows}
use Rattle.policy_flows.specs.declared.fault.ProgramFault.{ProgramFault}
use Rattle.policy_flows.specs.declared.fault.ProgramFault.TheVariants as program_fault
use Rattle.policy_flows.specs.declared.limits.TheConstants.{MAX_PRODUCT_VERTICES, MAX_PRODUCT_EDGES}
use Rattle.openflow_rules.specs.Planning.{statement_automata}
use Rattle.policy_configuration.proofs.OneLimit.{DoAlike, Numbering, alike-tables}
use Rattle.policy_configuration.proofs.Sound.{stands}
use Rattle.walk_search.specs.Parts.{checked_parts}
use Rattle.merlin_compile.specs.Input.{WasChecked, HasProgram}
use Rattle.merlin_compile.proofs.OneProduct.{product-alike, one-product}

-- two parts of a statement that do alike between its hosts
record ArePartsAlike (net : Network) (p q : StatementParts) (e : Ends) : Type 0 where
  source : IsHost net e.src
  dest : IsHost net e.dst
  bound : ℕ
  alike : DoAlike net (p.automaton e.statement) (q.automaton e.statement) bound
  rate : p.rate e.statement ≡ q.rate e.statement

module _ (net : Network) (p q : StatementParts) where
  flow-one : (e : Ends) → ArePartsAlike net p q e → (f g : Flow) (xs ys : List Symbol) → IsFlowBetween net (p.automaton e.statement) (p.rate e.statement) e.src e.dst f xs →
      IsFlowBetween net (q.automaton e.statement) (q.rate e.statement) e.src e.dst g ys → f ≡ g
  flow-one e h f g xs ys one two =
      let moved = product-alike net (p.automaton e.statement) (q.automaton e.statement) h.bound h.alike e.src e.dst h.source h.dest one.product one.is_product in
      let same : one.product ≡ two.product = one-product net (q.automaton e.statement) e.src e.dst one.product two.product moved two.is_product in
      one.is ∙ ap₂ (λ r product. flow_of net r product) h.rate same ∙ sym two.is

  flows-one : (ends : List Ends) → AllByRecursion (ArePartsAlike net p q) ends → (fs gs : List Flow) (xs ys : List (List Symbol)) → AreFlowsBetween net p ends fs xs → AreFlowsBetween net q ends gs ys → fs ≡ gs
  flows-one [] all [] [] xs ys one two = refl
  flows-one [] all [] (g ∷ gs) xs ys one two = absurd two
  flows-one [] all (f ∷ fs) gs xs ys one two = absurd one
  flows-one (e ∷ ends) all [] gs xs ys one two = absurd one
  flows-one (e ∷ ends) all (f ∷ fs) gs [] ys one two = absurd one
  flows-one (e ∷ ends) all (f ∷ fs) [] (x ∷ xs) ys one two = absurd two
  flows-one (e ∷ ends) all (f ∷ fs) (g ∷ gs) (x ∷ xs) [] one two = absurd two
  flows-one (e ∷ ends) all (f ∷ fs) (g ∷ gs) (x ∷ xs) (y ∷ ys) one two = ap₂ (λ h hs. h ∷ hs) (flow-one e all.0 f g x y one.0 two.0) (flows-one ends all.1 fs gs xs ys one.1 two.1)

  add-on : (a b c d e f : ℕ) → a ≡ b + c → d ≡ e + f → e ≡ b → f ≤ c → d ≤ a
  add-on a b c d e f h k same less = omega (arith, h, k, same, less)

  -- the flows of the first ends have no more vertices than all
  fewer : (count : ℕ) (ends : List Ends) → AllByRecursion (ArePartsAlike net p q) ends → (fs gs : List Flow) (xs ys : List (List Symbol)) → AreFlowsBetween net p ends fs xs →
      AreFlowsBetween net q (take count ends) gs ys → vertices_of_flows gs ≤ vertices_of_flows fs
  fewer zero ends all fs [] xs ys one two = omega arith
  fewer zero ends all fs (g ∷ gs) xs ys one two = absurd two
  fewer (suc count) [] all fs [] xs ys one two = omega arith
  fewer (suc count) [] all fs (g ∷ gs) xs ys one two = absurd two
  fewer (suc count) (e ∷ ends) all [] gs xs ys one two = absurd one
  fewer (suc count) (e ∷ ends) all (f ∷ fs) gs [] ys one two = absurd one
  fewer (suc count) (e ∷ ends) all (f ∷ fs) [] (x ∷ xs) ys one two = absurd two
  fewer (suc count) (e ∷ ends) all (f ∷ fs) (g ∷ gs) (x ∷ xs) [] one two = absurd two
  fewer (suc count) (e ∷ ends) all (f ∷ fs) (g ∷ gs) (x ∷ xs) (y ∷ ys) one two =
      add-on (vertices_of_flows (f ∷ fs)) f.vertices (vertices_of_flows fs) (vertices_of_flows (g ∷ gs)) g.vertices (vertices_of_flows gs)
      (sum_by-cons (λ flow. flow.vertices) f fs) (sum_by-cons (λ flow. flow.vertices) g gs)
      (sym (ap (λ flow. flow.vertices) (flow-one e all.0 f g x y one.0 two.0))) (fewer count ends all.1 fs gs xs ys one.1 two.1)

  over : (n m most : ℕ) → n ≤ m → m ≤ most → most < n → ⊥
  over n m most h k l = omega (arith, h, k, l)

  -- what keeps the limits passes none
  not-passed : (ends : List Ends) → AllByRecursion (ArePartsAlike net p q) ends → (fs : List Flow) (xs : List (List Symbol)) → AreFlowsBetween net p ends fs xs → KeepsProductLimits (directed_links net) fs →
      (fault : ProgramFault) → RefusesStatements net q ends fault → fault ≡ program_fault.OutOfMemory
  not-passed ends all fs xs are keeps (program_fault.Vertices count) h =
      let many = h.1 in
      absurd (over (vertices_of_flows many.flows) (vertices_of_flows fs) MAX_PRODUCT_VERTICES (fewer many.count ends all fs many.flows xs many.symbols are many.are) keeps.vertices many.many)
  not-passed ends all fs xs are keeps (program_fault.Edges count) h =
      let many = h.1 in
      let same : fs ≡ many.flows = flows-one ends all fs many.flows xs many.symbols are many.are in
      let as_many : edges_of_flows many.flows ≤ edges_of_flows fs = subst (λ (l : List Flow). edges_of_flows l ≤ edges_of_flows fs) same (omega arith) in
      absurd (over (edges_of_flows many.flows) (edges_of_flows fs) MAX_PRODUCT_EDGES as_many keeps.edges many.many)
  not-passed ends all fs xs are keeps (program_fault.Heavy statement link) h =
      let same : fs ≡ h.flows = flows-one ends all fs h.flows xs h.symbols are h.are in
      let costs = subst (AllByRecursion (λ flow. AllByRecursion (IsLight (directed_links net) flow) flow.edges)) same keeps.costs in
      let first = h.first in
      let flow = first.flow in
      let light = all-get (λ flow. AllByRecursion (IsLight (directed_links net) flow) flow.edges) h.flows first.place flow costs first.has in
      let heavy = first.least.heavy in
      let few = all_in (IsLight (directed_links net) flow) flow.edges heavy.edge light (in_from flow.edges heavy.edge heavy.has) in
      absurd (exceeds _ few heavy.heavy)
    where
      exceeds : (n : ℕ) → n ≤ MAX_COEFFICIENT → MAX_COEFFICIENT < n → ⊥
      exceeds n le lt = omega (arith, le, lt)
  not-passed ends all fs xs are keeps program_fault.OutOfMemory h = refl

  one-layout : (ends : List Ends) (objective : Objective) (problem others : Problem) (xs ys : List (List Symbol)) → AllByRecursion (ArePartsAlike net p q) ends →
      IsLayout net p ends objective problem xs → IsLayout net q ends objective others ys → problem ≡ others
  one-layout ends objective problem others xs ys all one two =
      let flows : problem.flows ≡ others.flows = flows-one ends all problem.flows others.flows xs ys one.flows two.flows in
      let links : problem.links ≡ others.links = one.links_are ∙ sym two.links_are in
      let same : problem.objective ≡ others.objective = one.objective_is ∙ sym two.objective_is in
      λ i. record { flows = flows i; links = links i; objective = same i }

-- the parts of two checks of one policy do alike

none-some : {X : Type 0} {x : X} → None ≡ Some x → ⊥
none-some e = cc

path-at : (ss : List Statement) (rest : List Path) (i : ℕ) (s : Statement) → slice_get ss i ≡ Some s → slice_get (map (λ (s : Statement). s.path) ss ++ rest) i ≡ Some s.path
path-at [] rest i s e = absurd (none-some e)
path-at (t ∷ ss) rest zero s e = ap (λ (o : Option Statement). option_map (λ s. s.path) o) e
path-at (t ∷ ss) rest (suc i) s e = path-at ss rest i s e

host-at : (net : Network) (loc : ℕ) (a : HostAddress) → address_of net loc ≡ Some a → IsHost net loc
host-at net loc a e = subst (λ (o : Option HostAddress). IsSome o) (sym e) refl

module _ (known : Numbering) (net : Network) (raw : NamedPolicy) (checked other : CheckedPolicy) (was : WasChecked net raw checked) (has : WasChecked net raw other) where
  abbrev policy : Policy
  policy = numbered_policy net raw

  abbrev symbols : List Symbol
  symbols = network_symbols net

  -- the automaton of the path at a place
  at-place : (c : CheckedPolicy) → WasChecked net raw c → (i : ℕ) (path : Path) → slice_get (paths_of policy) i ≡ Some path →
      (t : AutomatonTables) × (slice_index_or (statement_automata c) i no_tables ≡ t) × IsBuilt path symbols (Ok t)
  at-place c is i path there =
      let own = is.is_check.automata i path (subst (λ p. slice_get (paths_of p) i ≡ Some path) (sym is.is_check.policy) there) in
      (own.0, get_or_from_slice_get (statement_automata c) i own.0 no_tables (stands symbols c is.is_check.automata is.numbers i own.0 own.1), own.2.built)

  part-alike : (e : Ends) → AreTheEnds net policy e → ArePartsAlike net (checked_parts net checked) (checked_parts net other) e
  part-alike e h =
      let s = statement-of policy e.statement h.guaranteed in
      let path = s.0.path in
      let there = path-at policy.statements (option_to_list policy.default_path) e.statement s.0 s.1 in
      let one = at-place checked was e.statement path there in
      let two = at-place other has e.statement path there in
      let forms : two.2.0 ≡ one.2.0 = known.one path symbols two.2.0 one.2.0 two.2.1.states one.2.1.states in
      let tables = alike-tables known net path one.0 two.0 one.2.0 one.2.1 (subst (AreTablesOfPath path symbols two.0) forms two.2.1) in
      record {
        source = host-at net e.src _ h.traffic.proper.source;
        dest = host-at net e.dst _ h.traffic.proper.destination;
        bound = length one.2.0;
        alike = subst (λ t. DoAlike net (automaton_of symbols t) (automaton_of symbols (slice_index_or (statement_automata other) e.statement no_tables)) (length one.2.0)) (sym one.1)
            (subst (λ u. DoAlike net (automaton_of symbols one.0) (automaton_of symbols u) (length one.2.0)) (sym two.1) tables);
        rate = ap (λ p. slice_index_or (localised p.terms (ids_in p)).min e.statement 0) (was.is_check.policy ∙ sym has.is_check.policy);
      }

  parts-alike : (ends : List Ends) → AllByRecursion (AreTheEnds net policy) ends → AllByRecursion (ArePartsAlike net (checked_parts net checked) (checked_parts net other)) ends
  parts-alike [] all = tt
  parts-alike (e ∷ ends) all = (part-alike e all.0, parts-alike ends all.1)

  each-of : (ends : List Ends) → AreAllEnds net checked.policy ends → AllByRecursion (AreTheEnds net policy) ends
  each-of ends all = subst (λ p. AllByRecursion (AreTheEnds net p) ends) was.is_check.policy all.each

  pub one-problem : (ends : List Ends) (objective : Objective) (problem others : Problem) (xs ys : List (List Symbol)) → AreAllEnds net checked.policy ends →
      IsLayout net (checked_parts net checked) ends objective problem xs → IsLayout net (checked_parts net other) ends objective others ys → problem ≡ others
  one-problem ends objective problem others xs ys all one two =
      one-layout net (checked_parts net checked) (checked_parts net other) ends objective problem others xs ys (parts-alike ends (each-of ends all)) one two

  pub program-stands : (ends : List Ends) (fault : ProgramFault) → AreAllEnds net checked.policy ends → HasProgram net checked ends →
      RefusesStatements net (checked_parts net other) ends fault → fault ≡ program_fault.OutOfMemory
  program-stands ends fault all has_program h =
      not-passed net (checked_parts net checked) (checked_parts net other) ends (parts-alike ends (each-of ends all)) has_program.flows has_program.symbols has_program.are has_program.limits fault h
