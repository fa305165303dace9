-- The point of walks that are allowed.
use Rattle.std.proofs.Common.{◌≡◌, ℕ, ◌+◌, ◌≤◌, ◌<◌, inl, inr, Bool, true, false, List, [], ◌∷◌, length, drop, replicate, None, Some, refl, sym, ◌∙◌, ap, subst, arith}
use Rattle.std.specs.List.{AllByRecursion}
use Rattle.merlin_model.specs.declared.policy.Symbol.{Symbol}
use Rattle.merlin_model.specs.declared.policy.Ends.{Ends}
use Rattle.merlin_model.specs.declared.policy.Objective.{Objective}
use Rattle.merlin_model.specs.declared.policy.Value.{Value}
use Rattle.merlin_model.specs.Networks.{Network, IsNetwork}
use Rattle.merlin_model.specs.Words.{at, IsWalk, WalksFrom, GoesOn}
use Rattle.merlin_model.specs.Paths.{InLanguage}
use Rattle.merlin_model.specs.Policies.{Policy, IsOnPath}
use Rattle.merlin_model.specs.Rates.{min_of}
use Rattle.merlin_model.specs.Assignments.{IsAssignment, IsFeasible, value_of}
use Rattle.merlin_model.specs.Programs.{IsSolution, is_chosen}
use Rattle.merlin_model.proofs.WordLaws.{walk-goes_on}
use Rattle.rules_model.specs.Products.{SymbolAutomaton, start_of, ending_state}
use Rattle.cutoff_program.specs.Flows.{variables_of, last_of, rate_over, cost_of_variable, program_at, takes, is_below, taken_from}
use Rattle.cutoff_program.specs.declared.flow.Flow.{Flow}
use Rattle.cutoff_program.specs.declared.flow.Problem.{Problem}
use Rattle.cutoff_program.specs.declared.flow.Variable.{Variable}
use Rattle.cutoff_program.specs.Limits.{IsProblem}
use Rattle.cutoff_program.specs.Trails.{IsTrailOf, IsNeat, ArePathsFrom, AreTrailsFrom, edges_of, point_with, sum_along, loads_along, value_along, FitsCapacities}
use Rattle.cutoff_program.specs.Products.{IsProductOfHosts}
use Rattle.cutoff_program.specs.Walks.{IsFlowOf, CrossesAlike}
use Rattle.cutoff_program.proofs.Lists.{all_left, all_right, all_both, some_some}
use Rattle.cutoff_program.proofs.Values.{AreNoMore, lower-value}
use Rattle.cutoff_program.proofs.Cutoffs.{positive-loads}
use Rattle.cutoff_program.proofs.Ways.{word-way}
use Rattle.cutoff_program.proofs.Flights.{IsFlowAt, AreFlowsAt, flows-at, IsLaid}
use Rattle.cutoff_program.proofs.Bridge.{last-of}
use Rattle.cutoff_program.proofs.Forth.{is_point, neat, loads-no_more, fits-no_more}
use Rattle.cutoff_program.proofs.Back.{chosen-sums}
use Rattle.cutoff_program.proofs.Loads.{CrossAlike, value-same, feasible-fits}
use Rattle.program_walks.specs.Marks.{FollowsTrail, with_more, TrailsOf, TakeTrails}
use Rattle.program_walks.specs.Solutions.{IsPathIf, ArePathsIf, TakesPaths, IsFlowWith, AreFlowsWith, IsLaidOut, IsPointFor}
use Rattle.program_walks.proofs.Leasts.{path-below}
use Rattle.program_walks.proofs.Marked.{more-chosen, more-most, more-point, nothing-taken, replicate-length}
use Rattle.program_walks.proofs.Bridging.{follow-trail}

module _ (net : Network) (policy : Policy) (automata : ℕ → SymbolAutomaton) (network : IsNetwork net) where
  pub record HasTrailBy (variables : List Variable) (n : ℕ) (flow : Flow) (ends : Ends) (walk : List Symbol) (trail : List ℕ) : Type 0 where
    pub steps : IsTrailOf variables n trail 0 (last_of flow)
    pub spelled : CrossesAlike net policy variables ends walk trail
    pub few : length trail ≤ length walk

  -- what an allowed walk takes is a trail of its flow
  pub walk-trail : (variables : List Variable) (n : ℕ) (flow : Flow) (ends : Ends) (symbols : List Symbol) (walk : List Symbol) (trail : List ℕ) (to : ℕ) → IsFlowWith net policy automata ends flow symbols → IsFlowAt variables n flow →
      IsWalk net ends.src ends.dst walk → IsOnPath policy ends.statement walk → FollowsTrail variables symbols n 0 (drop 1 walk) trail to → HasTrailBy variables n flow ends walk trail
  walk-trail variables n flow ends symbols walk trail to with_symbols at_flow is_walk on follows = from walk (walk-goes_on net ends.src ends.dst walk is_walk) accepted follows
    where
      of : IsFlowOf net policy automata ends flow
      of = with_symbols.of

      a : SymbolAutomaton
      a = automata ends.statement

      rate : ℕ
      rate = min_of policy ends.statement

      accepted : a.accepts (ending_state a 0 walk) ≡ true
      accepted = (of.automaton.recognises walk is_walk.symbols).1 (subst (λ p. InLanguage p walk) (some_some (sym on.has ∙ of.automaton.has)) on.described)

      find : (rest : List Symbol) → GoesOn net ends.dst (at ends.src) rest → a.accepts (ending_state a (a.step 0 (at ends.src)) rest) ≡ true → FollowsTrail variables symbols n 0 rest trail to → HasTrailBy variables n flow ends (at ends.src ∷ rest) trail
      find rest goes accepts follows = by of.is_product
        where
          by : IsProductOfHosts net a ends.src ends.dst of.product → HasTrailBy variables n flow ends (at ends.src ∷ rest) trail
          by (inl cut) = let w = word-way net a ends.dst (start_of a ends.src) rest goes accepts in absurd (cut.none w.way w.leads)
          by (inr trimmed) =
              let w = word-way net a ends.dst (start_of a ends.src) rest goes accepts in
              let laid : IsLaid net a ends.src ends.dst rate n variables of.product = record { network = network; start = of.hosts.src; trimmed = trimmed; flow = subst (IsFlowAt variables n) of.is at_flow } in
              let t = follow-trail net a ends.src ends.dst rate n variables of.product laid of.hosts.dst symbols with_symbols.symbols_are rest 0 (start_of a ends.src) trail to refl
              (record { before = []; reached = refl; after = w.way; leads = w.leads }) goes accepts follows in
              record {
                steps = subst (λ k. IsTrailOf variables n trail 0 k) (sym (ap last_of of.is ∙ last-of net a ends.src ends.dst rate of.product trimmed)) t.steps;
                spelled = λ l directed e. t.crossed l directed e;
                few = let h = t.few in omega (arith, h);
              }

      from : (w : List Symbol) → WalksFrom net ends.src ends.dst w → a.accepts (ending_state a 0 w) ≡ true → FollowsTrail variables symbols n 0 (drop 1 w) trail to → HasTrailBy variables n flow ends w trail
      from [] h e f = absurd h
      from (x ∷ rest) h e f =
          subst (λ y. HasTrailBy variables n flow ends (y ∷ rest) trail) (sym h.0)
          (find rest (subst (λ y. GoesOn net ends.dst y rest) h.0 h.4) (ap (λ y. a.accepts (ending_state a (a.step 0 y) rest)) (sym h.0) ∙ e) f)

  pub record AreTrailsBy (variables : List Variable) (n : ℕ) (flows : List Flow) (ends : List Ends) (walks : List (List Symbol)) (trails : List (List ℕ)) : Type 0 where
    pub steps : AreTrailsFrom variables n flows trails
    pub spelled : CrossAlike net policy variables ends walks trails

  pub walks-trails : (variables : List Variable) (n : ℕ) (flows : List Flow) (ends : List Ends) (symbols walks : List (List Symbol)) (trails : List (List ℕ)) → AreFlowsWith net policy automata ends flows symbols → AreFlowsAt variables n flows →
      IsAssignment net policy ends walks → TrailsOf variables n symbols walks trails → AreTrailsBy variables n flows ends walks trails
  walks-trails variables n [] [] [] [] [] of are is by = record { steps = tt; spelled = tt }
  walks-trails variables n (flow ∷ flows) (e ∷ ends) (first ∷ symbols) (w ∷ walks) (trail ∷ trails) of are is by =
      let one = walk-trail variables n flow e first w trail by.0.0 of.0 are.0 is.0.0 is.0.1 by.0.1 in
      let rest = walks-trails variables (n + 1) flows ends symbols walks trails of.1 are.1 is.1 by.1 in
      record { steps = (one.steps, rest.steps); spelled = (one.spelled, rest.spelled) }
  walks-trails variables n [] [] [] [] (trail ∷ trails) of are is by = absurd by
  walks-trails variables n [] [] [] (w ∷ walks) trails of are is by = absurd is
  walks-trails variables n [] [] (first ∷ symbols) walks trails of are is by = absurd of
  walks-trails variables n [] (e ∷ ends) symbols walks trails of are is by = absurd of
  walks-trails variables n (flow ∷ flows) [] symbols walks trails of are is by = absurd of
  walks-trails variables n (flow ∷ flows) (e ∷ ends) [] walks trails of are is by = absurd of
  walks-trails variables n (flow ∷ flows) (e ∷ ends) (first ∷ symbols) [] trails of are is by = absurd is
  walks-trails variables n (flow ∷ flows) (e ∷ ends) (first ∷ symbols) (w ∷ walks) [] of are is by = absurd by

-- Where trails are chosen, paths are found.

trails-below : (variables : List Variable) (n : ℕ) (flows : List Flow) (trails : List (List ℕ)) → AreTrailsFrom variables n flows trails → AllByRecursion (λ k. k < length variables) (edges_of trails)
trails-below variables n [] [] are = tt
trails-below variables n (flow ∷ flows) (trail ∷ trails) are = all_both (λ k. k < length variables) trail (edges_of trails) (path-below variables n trail 0 (last_of flow) are.0) (trails-below variables (n + 1) flows trails are.1)
trails-below variables n [] (trail ∷ trails) are = absurd are
trails-below variables n (flow ∷ flows) [] are = absurd are

pub record ArePathsOver (problem : Problem) (taken : List Bool) (n : ℕ) (flows : List Flow) (paths : List (List ℕ)) : Type 0 where
  pub are_paths : ArePathsFrom (variables_of problem) n flows paths
  pub chosen : AllByRecursion (λ k. is_chosen taken k ≡ true) (edges_of paths)

pub paths-over : (problem : Problem) (taken : List Bool) (n : ℕ) (flows : List Flow) (trails paths : List (List ℕ)) → AreTrailsFrom (variables_of problem) n flows trails → AllByRecursion (λ k. is_chosen taken k ≡ true) (edges_of trails) → ArePathsIf problem taken n flows paths → ArePathsOver problem taken n flows paths
paths-over problem taken n [] trails [] steps chosen are = record { are_paths = tt; chosen = tt }
paths-over problem taken n (flow ∷ flows) (trail ∷ trails) (path ∷ paths) steps chosen are =
    by (paths-over problem taken (n + 1) flows trails paths steps.1 (all_right (λ k. is_chosen taken k ≡ true) trail (edges_of trails) chosen) are.1) are.0
  where
    by : ArePathsOver problem taken (n + 1) flows paths → IsPathIf problem taken n flow path → ArePathsOver problem taken n (flow ∷ flows) (path ∷ paths)
    by r (inl p) = record { are_paths = (p.is_path, r.are_paths); chosen = all_both (λ k. is_chosen taken k ≡ true) path (edges_of paths) p.chosen r.chosen }
    by r (inr none) = absurd (none.1 trail (record { steps = steps.0; allowed = all_left (λ k. is_chosen taken k ≡ true) trail (edges_of trails) chosen }))
paths-over problem taken n [] trails (path ∷ paths) steps chosen are = absurd are
paths-over problem taken n (flow ∷ flows) trails [] steps chosen are = absurd are
paths-over problem taken n (flow ∷ flows) [] (path ∷ paths) steps chosen are = absurd steps

-- Paths over what trails have taken are no longer, and put no more on any link.

module _ (problem : Problem) (taken : List Bool) (trails paths : List (List ℕ)) (is : IsProblem problem) (steps : AreTrailsFrom (variables_of problem) 0 problem.flows trails) (mark : taken ≡ with_more (replicate (length (variables_of problem)) false) (edges_of trails)) (are : ArePathsIf problem taken 0 problem.flows paths) where
  below : AllByRecursion (λ k. k < length (variables_of problem)) (edges_of trails)
  below = trails-below (variables_of problem) 0 problem.flows trails steps

  all-taken : AllByRecursion (λ k. is_chosen taken k ≡ true) (edges_of trails)
  all-taken = subst (λ p. AllByRecursion (λ k. is_chosen p k ≡ true) (edges_of trails)) (sym mark)
      (more-chosen (replicate (length (variables_of problem)) false) (edges_of trails) (subst (λ m. AllByRecursion (λ k. k < m) (edges_of trails)) (sym (replicate-length (length (variables_of problem)))) below))

  pub over : ArePathsOver problem taken 0 problem.flows paths
  over = paths-over problem taken 0 problem.flows trails paths steps all-taken are

  pub no-longer : (f : Variable → ℕ) → sum_along (variables_of problem) f (edges_of paths) ≤ sum_along (variables_of problem) f (edges_of trails)
  no-longer f =
      let c = chosen-sums problem taken paths f over.are_paths over.chosen in
      let m = more-most (variables_of problem) f (edges_of trails) (replicate (length (variables_of problem)) false) below in
      let z = nothing-taken f 0 (variables_of problem) (length (variables_of problem)) in
      let e = ap (taken_from 0 f (variables_of problem)) mark in
      chain _ _ _ _ _ c m z e
    where
      chain : (s t u z w : ℕ) → s ≤ t → u ≤ w + z → z ≡ 0 → t ≡ u → s ≤ w
      chain s t u z w a b c d = omega arith

  less : AreNoMore (loads_along problem (edges_of paths)) (loads_along problem (edges_of trails))
  less = loads-no_more (λ l. sum_along (variables_of problem) (rate_over l) (edges_of paths)) (λ l. sum_along (variables_of problem) (rate_over l) (edges_of trails)) (λ l. no-longer (rate_over l)) 0 problem.links

  pub still-fits : FitsCapacities problem (edges_of trails) → FitsCapacities problem (edges_of paths)
  still-fits = fits-no_more (loads_along problem (edges_of paths)) (loads_along problem (edges_of trails)) less

  pub still-below : (z : Value) → takes problem.objective z ≡ true → is_below (value_along problem (edges_of trails)) z ≡ true → is_below (value_along problem (edges_of paths)) z ≡ true
  still-below z t under = lower-value problem.objective z (sum_along (variables_of problem) (cost_of_variable problem) (edges_of paths)) (sum_along (variables_of problem) (cost_of_variable problem) (edges_of trails))
      (loads_along problem (edges_of paths)) (loads_along problem (edges_of trails)) t (no-longer (cost_of_variable problem)) less
      (positive-loads (λ l. sum_along (variables_of problem) (rate_over l) (edges_of trails)) 0 problem.links is.links) under

-- Together.

pub point-for : (problem : Problem) (symbols walks : List (List Symbol)) (taken point : List Bool) → IsProblem problem → TakeTrails (variables_of problem) symbols walks taken → TakesPaths problem taken problem.flows point →
    (net : Network) (policy : Policy) (automata : ℕ → SymbolAutomaton) (ends : List Ends) (objective : Objective) → IsLaidOut net policy automata ends objective problem symbols → IsAssignment net policy ends walks → IsPointFor net policy ends objective problem walks point
point-for problem symbols walks taken point is take paths net policy automata ends objective laid assignment =
    let t = walks-trails net policy automata laid.network (variables_of problem) 0 problem.flows ends symbols walks take.trails laid.flows (flows-at 0 problem.flows) assignment take.are in
    let p = over problem taken take.trails paths.paths is t.steps take.chosen paths.are in
    let same : point ≡ point_with (length (variables_of problem)) (edges_of paths.paths) = paths.chosen ∙ more-point (length (variables_of problem)) (edges_of paths.paths) in
    let value : value_along problem (edges_of take.trails) ≡ value_of net policy ends objective walks =
    value-same net policy ends problem walks take.trails laid.links_are t.spelled ∙ ap (λ o. value_of net policy ends o walks) laid.objective_is in
    let pointed = λ (feasible : IsFeasible net policy ends walks).
    is_point problem is paths.paths p.are_paths (still-fits problem taken take.trails paths.paths is t.steps take.chosen paths.are (feasible-fits net policy ends problem walks take.trails laid.links_are t.spelled feasible)) in
    record {
      neat = subst (IsNeat problem) (sym same) (neat problem is paths.paths p.are_paths);
      solution = λ feasible. subst (IsSolution (program_at problem None)) (sym same) (pointed feasible).solution;
      better = λ z k feasible under.
          let kind = ap (λ o. takes o z) laid.objective_is ∙ k in
          subst (IsSolution (program_at problem (Some z))) (sym same)
          ((pointed feasible).better z kind (still-below problem taken take.trails paths.paths is t.steps take.chosen paths.are z kind (ap (λ v. is_below v z) value ∙ under)));
    }
