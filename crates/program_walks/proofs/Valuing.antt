-- The value of walks by the rates of flows, and that simple walks load links little.
use Rattle.std.proofs.Common.{◌≡◌, ℕ, suc, ◌+◌, ◌*◌, ◌^◌, ◌≤◌, inl, inr, true, List, [], ◌∷◌, map, zip, length, drop, sum_by, refl, sym, ◌∙◌, ap, ap₂, subst, arith}
use Rattle.std.proofs.lemmas.List.Sums.{sum_by-cons}
use Rattle.std.specs.List.{AllByRecursion, AllZip}
use Rattle.merlin_model.specs.declared.network.DirectedLink.{DirectedLink}
use Rattle.merlin_model.specs.declared.policy.Symbol.{Symbol}
use Rattle.merlin_model.specs.declared.policy.Ends.{Ends}
use Rattle.merlin_model.specs.declared.policy.Objective.{Objective}
use Rattle.merlin_model.specs.declared.policy.Objective.TheVariants as objective
use Rattle.merlin_model.specs.declared.policy.Value.TheVariants.{Whole}
use Rattle.merlin_model.specs.Networks.{Network, IsNetwork, directed_links, AreDifferent}
use Rattle.merlin_model.specs.Words.{at, IsWalk, WalksFrom, GoesOn, crossings}
use Rattle.merlin_model.specs.Paths.{InLanguage}
use Rattle.merlin_model.specs.Policies.{Policy, IsOnPath}
use Rattle.merlin_model.specs.Rates.{min_of, greatest_of}
use Rattle.merlin_model.specs.Assignments.{IsAssignment, load, load_on, cost_on, value_of, greatest_ratio, ratio_value}
use Rattle.merlin_model.proofs.WordLaws.{walk-goes_on}
use Rattle.rules_model.specs.Products.{SymbolAutomaton, start_of, ending_state}
use Rattle.cutoff_program.specs.Flows.{variables_of, last_of, rate_over, cost_of_variable, loads_from}
use Rattle.cutoff_program.specs.declared.flow.Flow.{Flow}
use Rattle.cutoff_program.specs.declared.flow.Problem.{Problem}
use Rattle.cutoff_program.specs.declared.flow.Variable.{Variable}
use Rattle.cutoff_program.specs.Limits.{IsProblem}
use Rattle.cutoff_program.specs.Trails.{IsPath, ArePathsFrom, edges_of, point_with, sum_along, comes_to}
use Rattle.cutoff_program.specs.Products.{IsProductOfHosts}
use Rattle.cutoff_program.specs.Walks.{IsFlowOf, IsSimple, CrossesAlike, vertices_along}
use Rattle.cutoff_program.proofs.Lists.{some_some, all_so, map_all}
use Rattle.cutoff_program.proofs.Ways.{word-way}
use Rattle.cutoff_program.proofs.Flights.{IsFlowAt, AreFlowsAt, flows-at, IsLaid}
use Rattle.cutoff_program.proofs.Forth.{sum-is}
use Rattle.cutoff_program.proofs.Sums.{taken-most}
use Rattle.cutoff_program.proofs.Loads.{CrossAlike, length-of, loads-of}
use Rattle.cutoff_program.proofs.Variables.{costs-small, over-small}
use Rattle.program_walks.specs.Marks.{FollowsTrail}
use Rattle.program_walks.specs.Solutions.{IsFlowWith, AreFlowsWith, IsLaidOut}
use Rattle.program_walks.specs.Loads.{load_by, load_on_link, cost_on_link, ratio_on_link, value_as, value_by_walks, AreSmallLoads, AreSimpleWalks}
use Rattle.program_walks.proofs.Leasts.{small-sum}
use Rattle.program_walks.proofs.Bridging.{follow-path}
use Rattle.program_walks.proofs.Existing.{followed}
use Rattle.program_walks.proofs.Together.{walk-trail}

-- The loads by rates are those of the assignment.

module _ (net : Network) (policy : Policy) (automata : ℕ → SymbolAutomaton) where
  pub load-same : (ends : List Ends) (flows : List Flow) (symbols walks : List (List Symbol)) (u v : ℕ) → AreFlowsWith net policy automata ends flows symbols → length walks ≡ length flows → load_by flows walks u v ≡ load net policy ends walks u v
  load-same [] [] [] walks u v are e = refl
  load-same (x ∷ ends) (flow ∷ flows) (first ∷ symbols) (w ∷ walks) u v are e =
      let rate : flow.rate ≡ min_of policy x.statement = ap (λ f. f.rate) are.0.of.is in
      ap₂ (λ r s. r * crossings w u v + s) rate (load-same ends flows symbols walks u v are.1 (omega (arith, e)))
      ∙ sym (sum_by-cons (λ (r : Ends × List Symbol). min_of policy r.0.statement * crossings r.1 u v) (x, w) (zip ends walks))
  load-same (x ∷ ends) (flow ∷ flows) (first ∷ symbols) [] u v are e = absurd (omega (arith, e))
  load-same [] [] (first ∷ symbols) walks u v are e = absurd are
  load-same [] (flow ∷ flows) symbols walks u v are e = absurd are
  load-same (x ∷ ends) [] symbols walks u v are e = absurd are
  load-same (x ∷ ends) (flow ∷ flows) [] walks u v are e = absurd are

  map-as : {X : Type 0} (f g : DirectedLink → X) (ls : List DirectedLink) → ((l : DirectedLink) → f l ≡ g l) → map f ls ≡ map g ls
  map-as f g [] h = refl
  map-as f g (l ∷ ls) h = ap₂ (λ x xs. x ∷ xs) (h l) (map-as f g ls h)

  sum-as : (f g : DirectedLink → ℕ) (ls : List DirectedLink) → ((l : DirectedLink) → f l ≡ g l) → sum_by f ls ≡ sum_by g ls
  sum-as f g [] h = refl
  sum-as f g (l ∷ ls) h = sum_by-cons f l ls ∙ ap₂ (λ x y. x + y) (h l) (sum-as f g ls h) ∙ sym (sum_by-cons g l ls)

  pub value-by-walks : (ends : List Ends) (o : Objective) (problem : Problem) (symbols walks : List (List Symbol)) → IsLaidOut net policy automata ends o problem symbols → length walks ≡ length problem.flows → value_by_walks problem walks ≡ value_of net policy ends o walks
  value-by-walks ends o problem symbols walks laid size = by problem.objective ∙ ap (λ p. value_of net policy ends p walks) laid.objective_is
    where
      same : (l : DirectedLink) → load_on_link problem walks l ≡ load_on net policy ends walks l
      same l = load-same ends problem.flows symbols walks l.from l.to laid.flows size

      by : (p : Objective) → value_as p problem walks ≡ value_of net policy ends p walks
      by objective.Shortest =
          ap Whole (sum-as (cost_on_link problem walks) (cost_on net policy ends walks) problem.links (λ l. ap (λ m. m * l.weight) (same l)) ∙ ap (sum_by (cost_on net policy ends walks)) laid.links_are)
      by objective.Ratio =
          ap (λ rs. ratio_value (greatest_ratio rs)) (map-as (ratio_on_link problem walks) (λ l. (load_on net policy ends walks l, l.capacity)) problem.links (λ l. ap (λ m. (m, l.capacity)) (same l)) ∙ ap (map (λ l. (load_on net policy ends walks l, l.capacity))) laid.links_are)
      by objective.Reserved =
          ap (λ ns. Whole (greatest_of ns)) (map-as (load_on_link problem walks) (load_on net policy ends walks) problem.links same ∙ ap (map (load_on net policy ends walks)) laid.links_are)

-- A simple walk takes a path.

module _ (net : Network) (policy : Policy) (automata : ℕ → SymbolAutomaton) (network : IsNetwork net) where
  pub record HasPathFor (variables : List Variable) (n : ℕ) (flow : Flow) (ends : Ends) (walk : List Symbol) : Type 0 where
    pub path : List ℕ
    pub is_path : IsPath variables n path 0 (last_of flow)
    pub spelled : CrossesAlike net policy variables ends walk path

  pub walk-path : (variables : List Variable) (n : ℕ) (flow : Flow) (ends : Ends) (symbols : List Symbol) (walk : List Symbol) → IsFlowWith net policy automata ends flow symbols → IsFlowAt variables n flow →
      IsWalk net ends.src ends.dst walk → IsOnPath policy ends.statement walk → IsSimple (automata ends.statement) walk → HasPathFor variables n flow ends walk
  walk-path variables n flow ends symbols walk with_symbols at_flow is_walk on simple =
      let f = followed net (automata ends.statement) variables symbols n 0 (drop 1 walk) in
      let t = walk-trail net policy automata network variables n flow ends symbols walk f.trail f.to with_symbols at_flow is_walk on f.follows in
      record { path = f.trail; is_path = record { steps = t.steps; simple = from walk (walk-goes_on net ends.src ends.dst walk is_walk) accepted f.trail f.to f.follows simple }; spelled = t.spelled }
    where
      of : IsFlowOf net policy automata ends flow
      of = with_symbols.of

      a : SymbolAutomaton
      a = automata ends.statement

      rate : ℕ
      rate = min_of policy ends.statement

      accepted : a.accepts (ending_state a 0 walk) ≡ true
      accepted = (of.automaton.recognises walk is_walk.symbols).1 (subst (λ p. InLanguage p walk) (some_some (sym on.has ∙ of.automaton.has)) on.described)

      find : (rest : List Symbol) → GoesOn net ends.dst (at ends.src) rest → a.accepts (ending_state a (a.step 0 (at ends.src)) rest) ≡ true → (trail : List ℕ) (to : ℕ) → FollowsTrail variables symbols n 0 rest trail to →
          AreDifferent (vertices_along a 0 (at ends.src ∷ rest)) → AreDifferent (0 ∷ comes_to variables trail)
      find rest goes accepts trail to follows apart = by of.is_product
        where
          by : IsProductOfHosts net a ends.src ends.dst of.product → AreDifferent (0 ∷ comes_to variables trail)
          by (inl cut) = let w = word-way net a ends.dst (start_of a ends.src) rest goes accepts in absurd (cut.none w.way w.leads)
          by (inr trimmed) =
              let w = word-way net a ends.dst (start_of a ends.src) rest goes accepts in
              let laid : IsLaid net a ends.src ends.dst rate n variables of.product = record { network = network; start = of.hosts.src; trimmed = trimmed; flow = subst (IsFlowAt variables n) of.is at_flow } in
              (follow-path net a ends.src ends.dst rate n variables of.product laid of.hosts.dst symbols with_symbols.symbols_are rest 0 (start_of a ends.src) trail to refl
              (record { before = []; reached = refl; after = w.way; leads = w.leads }) goes accepts follows apart).different

      from : (w : List Symbol) → WalksFrom net ends.src ends.dst w → a.accepts (ending_state a 0 w) ≡ true → (trail : List ℕ) (to : ℕ) → FollowsTrail variables symbols n 0 (drop 1 w) trail to → AreDifferent (vertices_along a 0 w) → AreDifferent (0 ∷ comes_to variables trail)
      from [] h e trail to f apart = absurd h
      from (x ∷ rest) h e trail to f apart =
          find rest (subst (λ y. GoesOn net ends.dst y rest) h.0 h.4) (ap (λ y. a.accepts (ending_state a (a.step 0 y) rest)) (sym h.0) ∙ e) trail to f
          (subst (λ y. AreDifferent (vertices_along a 0 (y ∷ rest))) h.0 apart)

  pub record HavePaths (variables : List Variable) (n : ℕ) (flows : List Flow) (ends : List Ends) (walks : List (List Symbol)) : Type 0 where
    pub paths : List (List ℕ)
    pub are : ArePathsFrom variables n flows paths
    pub spelled : CrossAlike net policy variables ends walks paths
    pub size : length walks ≡ length flows

  pub walks-paths : (variables : List Variable) (n : ℕ) (flows : List Flow) (ends : List Ends) (symbols walks : List (List Symbol)) → AreFlowsWith net policy automata ends flows symbols → AreFlowsAt variables n flows →
      IsAssignment net policy ends walks → AllZip (λ e w. IsSimple (automata e.statement) w) ends walks → HavePaths variables n flows ends walks
  walks-paths variables n [] [] [] [] of at_flows is simple = record { paths = []; are = tt; spelled = tt; size = refl }
  walks-paths variables n (flow ∷ flows) (e ∷ ends) (first ∷ symbols) (w ∷ walks) of at_flows is simple =
      let one = walk-path variables n flow e first w of.0 at_flows.0 is.0.0 is.0.1 simple.0 in
      let rest = walks-paths variables (n + 1) flows ends symbols walks of.1 at_flows.1 is.1 simple.1 in
      record { paths = one.path ∷ rest.paths; are = (one.is_path, rest.are); spelled = (one.spelled, rest.spelled); size = ap suc rest.size }
  walks-paths variables n [] [] [] (w ∷ walks) of at_flows is simple = absurd is
  walks-paths variables n [] [] (first ∷ symbols) walks of at_flows is simple = absurd of
  walks-paths variables n [] (e ∷ ends) symbols walks of at_flows is simple = absurd of
  walks-paths variables n (flow ∷ flows) [] symbols walks of at_flows is simple = absurd of
  walks-paths variables n (flow ∷ flows) (e ∷ ends) [] walks of at_flows is simple = absurd of
  walks-paths variables n (flow ∷ flows) (e ∷ ends) (first ∷ symbols) [] of at_flows is simple = absurd is

-- Simple walks load links little.

pub few-walks : (problem : Problem) (symbols walks : List (List Symbol)) → AreSimpleWalks problem symbols walks → length walks ≡ length problem.flows
few-walks problem symbols walks s = (walks-paths s.net s.policy s.automata s.laid.network (variables_of problem) 0 problem.flows s.ends symbols walks s.laid.flows (flows-at 0 problem.flows) s.assignment s.simple).size

pub small-loads : (problem : Problem) (symbols walks : List (List Symbol)) → IsProblem problem → AreSimpleWalks problem symbols walks → AreSmallLoads problem walks
small-loads problem symbols walks is s = record {
  loads = all_so (λ l. load_on s.net s.policy s.ends walks l ≤ 2 ^ 45) (λ l. load_on_link problem walks l ≤ 2 ^ 45) problem.links (λ l b. let i = same l in omega (arith, b, i)) (subst (AllByRecursion (λ l. load_on s.net s.policy s.ends walks l ≤ 2 ^ 45)) (sym s.laid.links_are) each);
  costs =
      let f = few (cost_of_variable problem) (costs-small problem is) in
      let e = length-of s.net s.policy s.ends problem walks h.paths s.laid.links_are h.spelled in
      let g = sum-as s.net s.policy s.automata (cost_on_link problem walks) (cost_on s.net s.policy s.ends walks) problem.links (λ l. ap (λ m. m * l.weight) (same l)) ∙ ap (sum_by (cost_on s.net s.policy s.ends walks)) s.laid.links_are in
      omega (arith, f, e, g);
}
  where
    h : HavePaths s.net s.policy s.automata s.laid.network (variables_of problem) 0 problem.flows s.ends walks
    h = walks-paths s.net s.policy s.automata s.laid.network (variables_of problem) 0 problem.flows s.ends symbols walks s.laid.flows (flows-at 0 problem.flows) s.assignment s.simple

    same : (l : DirectedLink) → load_on_link problem walks l ≡ load_on s.net s.policy s.ends walks l
    same l = load-same s.net s.policy s.automata s.ends problem.flows symbols walks l.from l.to s.laid.flows h.size

    few : (f : Variable → ℕ) → AllByRecursion (λ v. f v ≤ 10 ^ 9) (variables_of problem) → sum_along (variables_of problem) f (edges_of h.paths) ≤ 2 ^ 45
    few f all =
        let e = sum-is problem is h.paths h.are f in
        let m = taken-most 0 f (variables_of problem) (point_with (length (variables_of problem)) (edges_of h.paths)) in
        let t = small-sum f (variables_of problem) all in
        let n = is.few_variables in
        omega (arith, e, m, t, n)

    all-loads : (f : ℕ → ℕ) → ((k : ℕ) → f k ≤ 2 ^ 45) → (n : ℕ) (ls : List DirectedLink) → AllByRecursion (λ (r : ℕ × ℕ). r.0 ≤ 2 ^ 45) (loads_from f n ls)
    all-loads f h' n [] = tt
    all-loads f h' n (l ∷ ls) = (h' n, all-loads f h' (n + 1) ls)

    each : AllByRecursion (λ l. load_on s.net s.policy s.ends walks l ≤ 2 ^ 45) (directed_links s.net)
    each = map_all (λ (r : ℕ × ℕ). r.0 ≤ 2 ^ 45) (λ l. (load_on s.net s.policy s.ends walks l, l.capacity)) (directed_links s.net)
        (subst (AllByRecursion (λ (r : ℕ × ℕ). r.0 ≤ 2 ^ 45)) (loads-of s.net s.policy s.ends problem walks h.paths s.laid.links_are h.spelled)
        (all-loads (λ k. sum_along (variables_of problem) (rate_over k) (edges_of h.paths)) (λ k. few (rate_over k) (over-small problem k is)) 0 problem.links))
