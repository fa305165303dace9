-- Points and assignments of walks, both ways.
use Rattle.std.proofs.Common.{Some, slice_get, ◌≡◌, ◌≢◌, ℕ, suc, ◌+◌, ◌-◌, ◌*◌, max, inl, inr, Bool, true, List, [], ◌∷◌, ◌++◌, map, length, length-append, Option, refl, sym, ◌∙◌, ap, subst, arith}
use Rattle.std.specs.List.{AllByRecursion, AllZip}
use Rattle.merlin_model.specs.declared.policy.Symbol.{Symbol}
use Rattle.merlin_model.specs.declared.policy.Ends.{Ends}
use Rattle.merlin_model.specs.declared.policy.Objective.{Objective}
use Rattle.merlin_model.specs.declared.policy.Value.{Value}
use Rattle.merlin_model.specs.Networks.{Network, IsNetwork, IsHost, AreDifferent}
use Rattle.merlin_model.specs.Words.{at, IsWalk, WalksFrom, GoesOn}
use Rattle.merlin_model.specs.Paths.{InLanguage}
use Rattle.merlin_model.specs.Policies.{Policy, IsOnPath}
use Rattle.merlin_model.specs.Rates.{min_of}
use Rattle.merlin_model.specs.Assignments.{IsAssignment, IsFeasible, value_of}
use Rattle.merlin_model.specs.Programs.{IsSolution}
use Rattle.merlin_model.proofs.WordLaws.{walk-goes_on, goes_on-walk}
use Rattle.merlin_model.proofs.Members.{In}
use Rattle.rules_model.specs.Products.{SymbolAutomaton, Vertex, loc_of, start_of, ending_state, word_to}
use Rattle.rules_model.proofs.Trees.{host_symbol}
use Rattle.rules_model.proofs.Ways.{way-goes_on, way-accepts}
use Rattle.cutoff_program.specs.Flows.{Flow, Problem, Variable, variables_of, last_of, program_at, cutoff_of, takes, is_below}
use Rattle.cutoff_program.specs.Limits.{IsProblem}
use Rattle.cutoff_program.specs.Trails.{IsTrailOf, IsPath, ArePathsFrom, AreTrailsFrom, edges_of, point_with, value_along}
use Rattle.cutoff_program.specs.Products.{Product, IsEmptyProduct, IsTrimmedProduct, IsProductOfHosts, edge_of, flow_of}
use Rattle.cutoff_program.specs.Walks.{IsFlowOf, IsProblemOf, IsSimple, HasPoint, HasWalks, HasTrailFor, HasWalkFor}
use Rattle.cutoff_program.proofs.Lists.{all_so, some_some}
use Rattle.cutoff_program.proofs.Places.{get-in}
use Rattle.cutoff_program.proofs.Ways.{word-way, way-vertices, way-inside}
use Rattle.cutoff_program.proofs.Flights.{IsFlowAt, AreFlowsAt, flows-at, IsLaid, flight, flight-different, flight-word, start-trail, at-flows}
use Rattle.cutoff_program.proofs.Forth.{has_paths, is_point}
use Rattle.cutoff_program.proofs.Back.{has_chosen, are_within}
use Rattle.cutoff_program.proofs.Loads.{CrossAlike, value-same, feasible-fits, fits-feasible}

-- The end of a product that isn't empty is its last vertex.

pub last-of : (net : Network) (a : SymbolAutomaton) (s d rate : ℕ) (product : Product) → (t : IsTrimmedProduct net a s d product) → last_of (flow_of net rate product) ≡ length (start_of a s ∷ t.inner)
last-of net a s d rate product t =
    ap (λ vs. max (length vs) 2 - 1) t.vertices
    ∙ (let e = length-append t.inner (record { symbol = at d; state = t.state } ∷ []) in count (length t.inner) _ e)
  where
    count : (n m : ℕ) → m ≡ n + 1 → max (suc m) 2 - 1 ≡ suc n
    count n m e = omega arith

-- From walks to trails.

module _ (net : Network) (policy : Policy) (automata : ℕ → SymbolAutomaton) (network : IsNetwork net) where
  pub trail-for : (variables : List Variable) (n : ℕ) (flow : Flow) (ends : Ends) (walk : List Symbol) → IsFlowOf net policy automata ends flow → IsFlowAt variables n flow →
      IsWalk net ends.src ends.dst walk → IsOnPath policy ends.statement walk → HasTrailFor net policy variables n flow ends walk
  trail-for variables n flow ends walk of at_flow is_walk on = from walk (walk-goes_on net ends.src ends.dst walk is_walk) accepted
    where
      a : SymbolAutomaton
      a = automata ends.statement

      rate : ℕ
      rate = min_of policy ends.statement

      accepted : a.accepts (ending_state a 0 walk) ≡ true
      accepted = (of.automaton.recognises walk is_walk.symbols).1 (subst (λ p. InLanguage p walk) (some_some (sym on.has ∙ of.automaton.has)) on.described)

      find : (rest : List Symbol) → GoesOn net ends.dst (at ends.src) rest → a.accepts (ending_state a (a.step 0 (at ends.src)) rest) ≡ true → HasTrailFor net policy variables n flow ends (at ends.src ∷ rest)
      find rest goes accepts = by of.is_product
        where
          by : IsProductOfHosts net a ends.src ends.dst of.product → HasTrailFor net policy variables n flow ends (at ends.src ∷ rest)
          by (inl cut) = let w = word-way net a ends.dst (start_of a ends.src) rest goes accepts in absurd (cut.none w.way w.leads)
          by (inr trimmed) =
              let w = word-way net a ends.dst (start_of a ends.src) rest goes accepts in
              let laid : IsLaid net a ends.src ends.dst rate n variables of.product = record { network = network; start = of.hosts.src; trimmed = trimmed; flow = subst (IsFlowAt variables n) of.is at_flow } in
              let t = start-trail net a ends.src ends.dst rate n variables of.product laid w.way w.leads in
              record {
                trail = t.ks;
                steps = subst (λ k. IsTrailOf variables n t.ks 0 k) (sym (ap last_of of.is ∙ last-of net a ends.src ends.dst rate of.product trimmed)) t.steps;
                spelled = λ l directed e. t.crossed l directed e ∙ ap (λ m. rate * m) (w.crossed directed.from directed.to);
              }

      from : (w : List Symbol) → WalksFrom net ends.src ends.dst w → a.accepts (ending_state a 0 w) ≡ true → HasTrailFor net policy variables n flow ends w
      from [] h e = absurd h
      from (x ∷ rest) h e =
          subst (λ y. HasTrailFor net policy variables n flow ends (y ∷ rest)) (sym h.0)
          (find rest (subst (λ y. GoesOn net ends.dst y rest) h.0 h.4) (ap (λ y. a.accepts (ending_state a (a.step 0 y) rest)) (sym h.0) ∙ e))

  -- From paths to walks.

  different-last : (xs : List Vertex) (y : Vertex) → AreDifferent xs → AllByRecursion (λ x. x ≢ y) xs → AreDifferent (xs ++ y ∷ [])
  different-last [] y p all = (tt, tt)
  different-last (x ∷ xs) y p all = (both xs p.0 all.0, different-last xs y p.1 all.1)
    where
      both : (zs : List Vertex) → AllByRecursion (λ z. x ≢ z) zs → x ≢ y → AllByRecursion (λ z. x ≢ z) (zs ++ y ∷ [])
      both [] q r = (r, tt)
      both (z ∷ zs) q r = (q.0, both zs q.1 r)

  pub walk-for : (variables : List Variable) (n : ℕ) (flow : Flow) (ends : Ends) (path : List ℕ) → (of : IsFlowOf net policy automata ends flow) → IsFlowAt variables n flow → IsPath variables n path 0 (last_of flow) →
      HasWalkFor net policy automata variables ends of.product.vertices path
  walk-for variables n flow ends path of at_flow is_path = by of.is_product
    where
      a : SymbolAutomaton
      a = automata ends.statement

      rate : ℕ
      rate = min_of policy ends.statement

      -- an empty product has no edge, and its start is not its end
      none : IsEmptyProduct net a ends.src ends.dst of.product → (ks : List ℕ) → IsTrailOf variables n ks 0 (last_of flow) → ⊥
      none cut [] t = let e : last_of flow ≡ 1 = ap last_of of.is ∙ ap (λ vs. max (length vs) 2 - 1) cut.vertices in let bad : ⊥ = omega arith in bad
      none cut (k ∷ ks) t =
          let o = at_flow.only t.0 (get-in variables k t.0 t.1) t.2 in
          let e : flow.edges ≡ [] = ap (λ f. f.edges) of.is ∙ ap (map (edge_of net of.product.vertices)) cut.edges in
          subst (In t.0.edge) e o.0

      found : (trimmed : IsTrimmedProduct net a ends.src ends.dst of.product) → HasWalkFor net policy automata variables ends of.product.vertices path
      found trimmed =
          let laid : IsLaid net a ends.src ends.dst rate n variables of.product = record { network = network; start = of.hosts.src; trimmed = trimmed; flow = subst (IsFlowAt variables n) of.is at_flow } in
          let steps = subst (λ k. IsTrailOf variables n path 0 k) (ap last_of of.is ∙ last-of net a ends.src ends.dst rate of.product trimmed) is_path.steps in
          let f = flight net a ends.src ends.dst rate n variables of.product laid path steps in
          let is_walk : IsWalk net ends.src ends.dst (at ends.src ∷ word_to ends.dst f.way) =
          goes_on-walk net ends.src ends.dst (at ends.src ∷ word_to ends.dst f.way)
          (refl, host_symbol net ends.src of.hosts.src, of.hosts.src, of.hosts.dst, way-goes_on net a ends.dst (start_of a ends.src) f.way of.hosts.dst f.leads) in
          let along = way-vertices net a ends.dst (start_of a ends.src) f.way f.leads in
          let outside = all_so (λ (u : Vertex). ¬ IsHost net (loc_of u)) (λ u. u ≢ record { symbol = at ends.dst; state = along.0 }) f.way (λ u h e. h (subst (IsHost net) (sym (ap loc_of e)) of.hosts.dst)) (way-inside net a ends.dst (start_of a ends.src) f.way f.leads) in
          record {
            walk = at ends.src ∷ word_to ends.dst f.way;
            is = flight-word net a ends.src ends.dst rate n variables of.product laid path f;
            is_walk = is_walk;
            on_path = record {
              path = of.automaton.path;
              has = of.automaton.has;
              described = (of.automaton.recognises (at ends.src ∷ word_to ends.dst f.way) is_walk.symbols).0 (way-accepts net a ends.dst (start_of a ends.src) f.way f.leads);
            };
            simple = subst (λ vs. AreDifferent (start_of a ends.src ∷ vs)) (sym along.1)
                (different-last (start_of a ends.src ∷ f.way) (record { symbol = at ends.dst; state = along.0 })
                (flight-different net a ends.src ends.dst rate n variables of.product laid path f is_path.simple) ((λ e. of.hosts.differ (ap loc_of e)), outside));
            spelled = λ l directed e. f.crossed l directed e;
          }

      by : IsProductOfHosts net a ends.src ends.dst of.product → HasWalkFor net policy automata variables ends of.product.vertices path
      by (inl cut) = absurd (none cut path is_path.steps)
      by (inr trimmed) = found trimmed

  -- All statements.

  record HasTrails (variables : List Variable) (n : ℕ) (flows : List Flow) (ends : List Ends) (walks : List (List Symbol)) : Type 0 where
    pub trails : List (List ℕ)
    pub steps : AreTrailsFrom variables n flows trails
    pub spelled : CrossAlike net policy variables ends walks trails

  trails-for : (variables : List Variable) (n : ℕ) (flows : List Flow) (ends : List Ends) (walks : List (List Symbol)) → AllZip (IsFlowOf net policy automata) ends flows → AreFlowsAt variables n flows → IsAssignment net policy ends walks →
      HasTrails variables n flows ends walks
  trails-for variables n [] [] [] of are is = record { trails = []; steps = tt; spelled = tt }
  trails-for variables n (flow ∷ flows) (e ∷ ends) (w ∷ walks) of are is =
      let one = trail-for variables n flow e w of.0 are.0 is.0.0 is.0.1 in
      let rest = trails-for variables (n + 1) flows ends walks of.1 are.1 is.1 in
      record { trails = one.trail ∷ rest.trails; steps = (one.steps, rest.steps); spelled = (one.spelled, rest.spelled) }
  trails-for variables n [] [] (w ∷ walks) of are is = absurd is
  trails-for variables n (flow ∷ flows) [] walks of are is = absurd of
  trails-for variables n [] (e ∷ ends) walks of are is = absurd of
  trails-for variables n (flow ∷ flows) (e ∷ ends) [] of are is = absurd is

  record HasAssignment (variables : List Variable) (ends : List Ends) (paths : List (List ℕ)) : Type 0 where
    pub walks : List (List Symbol)
    pub assignment : IsAssignment net policy ends walks
    pub simple : AllZip (λ e w. IsSimple (automata e.statement) w) ends walks
    pub spelled : CrossAlike net policy variables ends walks paths

  walks-for : (variables : List Variable) (n : ℕ) (flows : List Flow) (ends : List Ends) (paths : List (List ℕ)) → AllZip (IsFlowOf net policy automata) ends flows → AreFlowsAt variables n flows → ArePathsFrom variables n flows paths →
      HasAssignment variables ends paths
  walks-for variables n [] [] [] of are is = record { walks = []; assignment = tt; simple = tt; spelled = tt }
  walks-for variables n (flow ∷ flows) (e ∷ ends) (path ∷ paths) of are is =
      let one = walk-for variables n flow e path of.0 are.0 is.0 in
      let rest = walks-for variables (n + 1) flows ends paths of.1 are.1 is.1 in
      record { walks = one.walk ∷ rest.walks; assignment = ((one.is_walk, one.on_path), rest.assignment); simple = (one.simple, rest.simple); spelled = (one.spelled, rest.spelled) }
  walks-for variables n [] [] (path ∷ paths) of are is = absurd is
  walks-for variables n (flow ∷ flows) [] paths of are is = absurd of
  walks-for variables n [] (e ∷ ends) paths of are is = absurd of
  walks-for variables n (flow ∷ flows) (e ∷ ends) [] of are is = absurd is

  pub forth : (ends : List Ends) (objective : Objective) (problem : Problem) (walks : List (List Symbol)) → IsProblemOf net policy automata ends objective problem → IsProblem problem →
      IsAssignment net policy ends walks → IsFeasible net policy ends walks → HasPoint net policy automata ends objective problem walks
  forth ends objective problem walks of is assignment feasible =
      let t = trails-for (variables_of problem) 0 problem.flows ends walks of.flows (flows-at 0 problem.flows) assignment in
      let p = has_paths problem t.trails is t.steps in
      let x = is_point problem is p.paths p.are_paths (p.fits (feasible-fits net policy ends problem walks t.trails of.links_are t.spelled feasible)) in
      let same : value_along problem (edges_of t.trails) ≡ value_of net policy ends objective walks =
      value-same net policy ends problem walks t.trails of.links_are t.spelled ∙ ap (λ o. value_of net policy ends o walks) of.objective_is in
      record {
        point = point_with (length (variables_of problem)) (edges_of p.paths);
        solution = x.solution;
        better = λ z k below. x.better z (ap (λ o. takes o z) of.objective_is ∙ k) (p.no_more z (ap (λ o. takes o z) of.objective_is ∙ k) (ap (λ v. is_below v z) same ∙ below));
        neat = x.neat;
      }

  pub back : (ends : List Ends) (objective : Objective) (problem : Problem) (cutoff : Option Value) (point : List Bool) → IsProblemOf net policy automata ends objective problem → IsProblem problem →
      IsSolution (program_at problem cutoff) point → HasWalks net policy automata ends objective problem point
  back ends objective problem cutoff point of is solution =
      let c = has_chosen problem cutoff point is solution in
      let w = are_within problem cutoff point c.0 is solution c.1 c.2 in
      let h = walks-for (variables_of problem) 0 problem.flows ends c.0 of.flows (flows-at 0 problem.flows) c.1 in
      let same : value_along problem (edges_of c.0) ≡ value_of net policy ends objective h.walks =
      value-same net policy ends problem h.walks c.0 of.links_are h.spelled ∙ ap (λ o. value_of net policy ends o h.walks) of.objective_is in
      record {
        walks = h.walks;
        assignment = h.assignment;
        simple = h.simple;
        feasible = fits-feasible net policy ends problem h.walks c.0 of.links_are h.spelled w.fits;
        no_more = ap (is_below (cutoff_of problem point)) (sym same) ∙ w.no_more;
        neat = λ n. sym same ∙ w.neat n;
      }

  pub trail-at : (problem : Problem) (n : ℕ) (e : Ends) (flow : Flow) (walk : List Symbol) → slice_get problem.flows n ≡ Some flow → IsFlowOf net policy automata e flow →
      IsWalk net e.src e.dst walk → IsOnPath policy e.statement walk → HasTrailFor net policy (variables_of problem) n flow e walk
  trail-at problem n e flow walk stands of is_walk on =
      trail-for (variables_of problem) n flow e walk of (subst (λ m. IsFlowAt (variables_of problem) m flow) (plain n) (at-flows (variables_of problem) 0 problem.flows n flow (flows-at 0 problem.flows) stands)) is_walk on
    where
      plain : (m : ℕ) → 0 + m ≡ m
      plain m = omega arith

  pub walk-at : (problem : Problem) (n : ℕ) (e : Ends) (flow : Flow) (path : List ℕ) → slice_get problem.flows n ≡ Some flow → (of : IsFlowOf net policy automata e flow) → IsPath (variables_of problem) n path 0 (last_of flow) →
      HasWalkFor net policy automata (variables_of problem) e of.product.vertices path
  walk-at problem n e flow path stands of is_path =
      walk-for (variables_of problem) n flow e path of (subst (λ m. IsFlowAt (variables_of problem) m flow) (plain n) (at-flows (variables_of problem) 0 problem.flows n flow (flows-at 0 problem.flows) stands)) is_path
    where
      plain : (m : ℕ) → 0 + m ≡ m
      plain m = omega arith
