-- Going on by places: the way is one, and comes to no vertex twice.
use Rattle.std.proofs.Common.{◌≡◌, ◌≢◌, ℕ, zero, suc, ◌+◌, ◌≤◌, ◌<◌, inl, inr, Bool, true, List, [], ◌∷◌, ◌++◌, length, reverse, length-append, append_assoc, append-nil, Option, None, Some, slice_get, refl, sym, ◌∙◌, ap, subst, arith}
use Rattle.std.proofs.lemmas.List.Sums.{sum_by_push}
use Rattle.std.proofs.lemmas.Grind.{reverse_onto}
use Rattle.std.specs.Option.{option_map_or}
use Rattle.std.specs.List.{AllByRecursion, AllZip, slice_index_or}
use Rattle.merlin_model.specs.Networks.{AreDifferent}
use Rattle.merlin_model.specs.Programs.{is_chosen}
use Rattle.merlin_model.proofs.Members.{In, in_from}
use Rattle.graph_search.specs.declared.graph.Edge.{Edge}
use Rattle.graph_search.specs.Graphs.{GoesBack, IsEdgePath, cost_of_path, cost_of_edge}
use Rattle.cutoff_program.specs.Flows.{variables_of, cost_of_variable}
use Rattle.cutoff_program.specs.declared.flow.Problem.{Problem}
use Rattle.cutoff_program.specs.declared.flow.Variable.{Variable}
use Rattle.cutoff_program.specs.Trails.{IsTrailOf, sum_along, comes_to}
use Rattle.cutoff_program.proofs.Lists.{some_some, none_some, within_length}
use Rattle.cutoff_program.proofs.Following.{sum-cons}
use Rattle.cutoff_program.proofs.Shortening.{comes_to-cons}
use Rattle.program_walks.specs.declared.backwards.Turned.{Turned}
use Rattle.program_walks.specs.Turned.{turned_edge, IsTurned, AreTurned}
use Rattle.program_walks.specs.Followed.{GoesBy, IsOnward}

-- The way on is one.

pub by-lengths : (variables : List Variable) (numbers : List ℕ) (next : List (Option ℕ)) (v : ℕ) (ks js : List ℕ) → GoesBy variables numbers next v ks → GoesBy variables numbers next v js → length ks ≡ length js
by-lengths variables numbers next v [] [] g h = refl
by-lengths variables numbers next v [] (j ∷ js) g h = absurd (none_some (some_some (sym g ∙ h.1)))
by-lengths variables numbers next v (k ∷ ks) [] g h = absurd (none_some (some_some (sym h ∙ g.1)))
by-lengths variables numbers next v (k ∷ ks) (j ∷ js) g h =
    let place : g.0 ≡ h.0 = some_some (some_some (sym g.1 ∙ h.1)) in
    let number : k ≡ j = some_some (sym g.2 ∙ ap (slice_get numbers) place ∙ h.2) in
    let edge : g.3.0 ≡ h.3.0 = some_some (sym g.3.1 ∙ ap (slice_get variables) number ∙ h.3.1) in
    ap suc (by-lengths variables numbers next h.3.0.edge.to ks js (subst (λ w. GoesBy variables numbers next w.edge.to ks) edge g.3.2) h.3.2)

-- from a vertex that it comes to it goes on, by fewer
by-later : (variables : List Variable) (numbers : List ℕ) (next : List (Option ℕ)) (v u : ℕ) (ks : List ℕ) → GoesBy variables numbers next v ks → In u (comes_to variables ks) → (js : List ℕ) × GoesBy variables numbers next u js × (length js < length ks)
by-later variables numbers next v u [] g i = absurd i
by-later variables numbers next v u (k ∷ ks) g i = by (subst (In u) (comes_to-cons variables k ks g.3.0 g.3.1) i) (by-later variables numbers next g.3.0.edge.to u ks g.3.2)
  where
    by : In u (g.3.0.edge.to ∷ comes_to variables ks) → (In u (comes_to variables ks) → (js : List ℕ) × GoesBy variables numbers next u js × (length js < length ks)) → (js : List ℕ) × GoesBy variables numbers next u js × (length js < length (k ∷ ks))
    by (inl e) ih = (ks, subst (λ x. GoesBy variables numbers next x ks) (sym e) g.3.2, omega arith)
    by (inr j) ih = let r = ih j in (r.0, r.1, (let h = r.2 in omega arith))

apart-all : (v : ℕ) (us : List ℕ) → (In v us → ⊥) → AllByRecursion (λ u. v ≢ u) us
apart-all v [] h = tt
apart-all v (u ∷ us) h = ((λ e. h (inl e)), apart-all v us (λ i. h (inr i)))

pub by-different : (variables : List Variable) (numbers : List ℕ) (next : List (Option ℕ)) (v : ℕ) (ks : List ℕ) → GoesBy variables numbers next v ks → AreDifferent (v ∷ comes_to variables ks)
by-different variables numbers next v [] g = (tt, tt)
by-different variables numbers next v (k ∷ ks) g = (
  apart-all v (comes_to variables (k ∷ ks)) (λ i. let r = by-later variables numbers next v v (k ∷ ks) g i in let e = by-lengths variables numbers next v (k ∷ ks) r.0 g r.1 in let h = r.2 in let bad : ⊥ = omega arith in bad),
  subst AreDifferent (sym (comes_to-cons variables k ks g.3.0 g.3.1)) (by-different variables numbers next g.3.0.edge.to ks g.3.2),
)

-- What stands at a place of two lists.

zip-at : {X Y : Type 0} (R : X → Y → Type 0) (xs : List X) (ys : List Y) (j : ℕ) (y : Y) → AllZip R xs ys → slice_get ys j ≡ Some y → (x : X) × (slice_get xs j ≡ Some x) × R x y
zip-at R [] [] j y z e = absurd (none_some e)
zip-at R (x ∷ xs) (b ∷ ys) zero y z e = (x, refl, subst (R x) (some_some e) z.0)
zip-at R (x ∷ xs) (b ∷ ys) (suc j) y z e = zip-at R xs ys j y z.1 e
zip-at R [] (b ∷ ys) j y z e = absurd z
zip-at R (x ∷ xs) [] j y z e = absurd z

zip-in : {X Y : Type 0} (R : X → Y → Type 0) (xs : List X) (ys : List Y) (x : X) → AllZip R xs ys → In x xs → (j : ℕ) × ((y : Y) × (slice_get ys j ≡ Some y) × R x y)
zip-in R [] ys x z i = absurd i
zip-in R (a ∷ xs) (b ∷ ys) x z (inl e) = (0, (b, refl, subst (λ q. R q b) (sym e) z.0))
zip-in R (a ∷ xs) (b ∷ ys) x z (inr i) = let r = zip-in R xs ys x z.1 i in (suc r.0, r.1)
zip-in R (a ∷ xs) [] x z i = absurd z

known-get : (next : List (Option ℕ)) (v : ℕ) (k : ℕ) → slice_index_or next v None ≡ Some k → slice_get next v ≡ Some (Some k)
known-get [] v k e = absurd (none_some e)
known-get (x ∷ next) zero k e = ap Some e
known-get (x ∷ next) (suc v) k e = known-get next v k e

unknown-get : (next : List (Option ℕ)) (v : ℕ) → v < length next → slice_index_or next v None ≡ None → slice_get next v ≡ Some None
unknown-get [] v h e = absurd (omega arith)
unknown-get (x ∷ next) zero h e = ap Some e
unknown-get (x ∷ next) (suc v) h e = unknown-get next v (omega arith) e

edge-cost : (edges : List Edge) (j : ℕ) (e : Edge) → slice_get edges j ≡ Some e → e.cost ≡ cost_of_edge edges j
edge-cost edges j e at = sym (ap (λ o. option_map_or (λ x. x.cost) o 0) at)

-- an edge more at the end
path-snoc : (edges : List Edge) (u : ℕ) (path : List ℕ) (v : ℕ) (j : ℕ) (e : Edge) → IsEdgePath edges u path v → slice_get edges j ≡ Some e → e.from ≡ v → IsEdgePath edges u (path ++ j ∷ []) e.to
path-snoc edges u [] v j e p at from = (e, at, from ∙ sym p, refl)
path-snoc edges u (k ∷ path) v j e p at from = (p.0, p.1, p.2, path-snoc edges p.0.to path v j e p.3 at from)

-- From going back to a trail.

module _ (problem : Problem) (point : List Bool) (n last bound : ℕ) (found : Turned) (t : AreTurned problem point n last bound found) where
  pub record HasTrailBy (next : List (Option ℕ)) (v source : ℕ) (back : List ℕ) : Type 0 where
    pub ks : List ℕ
    pub goes : GoesBy (variables_of problem) found.numbers next v ks
    pub steps : IsTrailOf (variables_of problem) n ks v source
    pub chosen : AllByRecursion (λ k. is_chosen point k ≡ true) ks
    pub costs : sum_along (variables_of problem) (cost_of_variable problem) ks ≡ cost_of_path found.edges (reverse back)

  pub back-trail : (next : List (Option ℕ)) (v source : ℕ) (back : List ℕ) → source < length next → GoesBack found.edges next source back v → HasTrailBy next v source back
  back-trail next v source [] h g = record {
    ks = [];
    goes = unknown-get next v (subst (λ x. x < length next) (sym g.0) h) g.1;
    steps = g.0;
    chosen = tt;
    costs = refl;
  }
  back-trail next v source (j ∷ back) h g =
      let z = zip-at (IsTurned problem point n) found.numbers found.edges j g.0 t.each g.2 in
      let w : Variable = z.2.0 in
      let to : g.0.from ≡ w.edge.to = ap (λ e. e.from) z.2.4 in
      let from : g.0.to ≡ w.edge.from = ap (λ e. e.to) z.2.4 in
      let rest = back-trail next g.0.from source back h g.4 in
      record {
        ks = z.0 ∷ rest.ks;
        goes = (j, known-get next v j g.1, z.1, (w, z.2.1, subst (λ x. GoesBy (variables_of problem) found.numbers next x rest.ks) to rest.goes));
        steps = (w, z.2.1, z.2.2, sym from ∙ g.3, subst (λ x. IsTrailOf (variables_of problem) n rest.ks x source) to rest.steps);
        chosen = (z.2.3, rest.chosen);
        costs =
            sum-cons (variables_of problem) (cost_of_variable problem) z.0 rest.ks w z.2.1
            ∙ swap _ _ _ _ rest.costs (ap (λ e. e.cost) z.2.4)
            ∙ ap (λ x. cost_of_path found.edges (reverse back) + x) (edge-cost found.edges j g.0 g.2)
            ∙ sym (ap (cost_of_path found.edges) (reverse_onto back j []) ∙ sum_by_push (cost_of_edge found.edges) (reverse back) j);
      }
    where
      swap : (c s p d : ℕ) → s ≡ p → d ≡ c → c + s ≡ p + d
      swap c s p d e f = omega arith

  -- From a trail to a path backwards.

  pub record HasPathBack (v source : ℕ) (ks : List ℕ) : Type 0 where
    pub path : List ℕ
    pub is_path : IsEdgePath found.edges source path v
    pub costs : cost_of_path found.edges path ≡ sum_along (variables_of problem) (cost_of_variable problem) ks

  pub trail-back : (v source : ℕ) (ks : List ℕ) → bound ≡ length (variables_of problem) → IsTrailOf (variables_of problem) n ks v source → AllByRecursion (λ k. is_chosen point k ≡ true) ks → HasPathBack v source ks
  trail-back v source [] whole steps chosen = record { path = []; is_path = sym steps; costs = refl }
  trail-back v source (k ∷ ks) whole steps chosen =
      let w : Variable = steps.0 in
      let below = within_length (variables_of problem) k w steps.1 in
      let z = zip-in (IsTurned problem point n) found.numbers found.edges k t.each (in_from found.numbers k (t.all k w (omega (arith, whole, below)) steps.1 steps.2 chosen.0)) in
      let e : Edge = z.1.0 in
      let same : z.1.2.0 ≡ w = some_some (sym z.1.2.1 ∙ steps.1) in
      let edge : e ≡ turned_edge problem w = z.1.2.4 ∙ ap (turned_edge problem) same in
      let rest = trail-back w.edge.to source ks whole steps.4 chosen.1 in
      let step = path-snoc found.edges source rest.path w.edge.to z.0 e rest.is_path z.1.1 (ap (λ x. x.from) edge) in
      record {
        path = rest.path ++ z.0 ∷ [];
        is_path = subst (IsEdgePath found.edges source (rest.path ++ z.0 ∷ [])) (ap (λ x. x.to) edge ∙ steps.3) step;
        costs =
            sum_by_push (cost_of_edge found.edges) rest.path z.0
            ∙ swap _ _ _ _ rest.costs (sym (edge-cost found.edges z.0 e z.1.1) ∙ ap (λ x. x.cost) edge)
            ∙ sym (sum-cons (variables_of problem) (cost_of_variable problem) k ks w steps.1);
      }
    where
      swap : (c d s p : ℕ) → c ≡ s → d ≡ p → c + d ≡ p + s
      swap c d s p e f = omega arith

-- What is left of the way after some steps.

pub record GoesOnBy (variables : List Variable) (numbers : List ℕ) (next : List (Option ℕ)) (vertex : ℕ) (path : List ℕ) (step : ℕ) (ks : List ℕ) : Type 0 where
  pub rest : List ℕ
  pub joined : ks ≡ path ++ rest
  pub goes : GoesBy variables numbers next vertex rest
  pub count : length path ≡ step

pub goes-step : (variables : List Variable) (numbers : List ℕ) (next : List (Option ℕ)) (vertex : ℕ) (path more : List ℕ) (step : ℕ) (ks : List ℕ) (r : ℕ × ℕ) → GoesOnBy variables numbers next vertex path step ks →
    IsOnward variables numbers next vertex (Some r) → more ≡ path ++ r.0 ∷ [] → GoesOnBy variables numbers next r.1 more (step + 1) ks
goes-step variables numbers next vertex path more step ks r g on is = by g.rest g.goes g.joined
  where
    by : (rest : List ℕ) → GoesBy variables numbers next vertex rest → ks ≡ path ++ rest → GoesOnBy variables numbers next r.1 more (step + 1) ks
    by [] goes joined = absurd (none_some (some_some (sym goes ∙ on.1)))
    by (j ∷ js) goes joined =
        let same : goes.0 ≡ on.0 = some_some (some_some (sym goes.1 ∙ on.1)) in
        let which : j ≡ r.0 = some_some (sym goes.2 ∙ ap (slice_get numbers) same ∙ on.2) in
        let w : goes.3.0 ≡ on.3.0 = some_some (sym goes.3.1 ∙ ap (slice_get variables) which ∙ on.3.1) in
        record {
          rest = js;
          joined = joined ∙ ap (λ x. path ++ x ∷ js) which ∙ sym (append_assoc path (r.0 ∷ []) js) ∙ ap (λ p. p ++ js) (sym is);
          goes = subst (λ u. GoesBy variables numbers next u js) (ap (λ x. x.edge.to) w ∙ sym on.3.2) goes.3.2;
          count = ap length is ∙ length-append path (r.0 ∷ []) ∙ (let c = g.count in omega arith);
        }

pub goes-ends : (variables : List Variable) (numbers : List ℕ) (next : List (Option ℕ)) (vertex : ℕ) (path : List ℕ) (step : ℕ) (ks : List ℕ) → GoesOnBy variables numbers next vertex path step ks → IsOnward variables numbers next vertex None → path ≡ ks
goes-ends variables numbers next vertex path step ks g none = by g.rest g.goes g.joined
  where
    by : (rest : List ℕ) → GoesBy variables numbers next vertex rest → ks ≡ path ++ rest → path ≡ ks
    by [] goes joined = sym (joined ∙ append-nil path)
    by (j ∷ js) goes joined = absurd (none goes.0 j goes.3.0 goes.1 goes.2 goes.3.1)

pub goes-full : (variables : List Variable) (numbers : List ℕ) (next : List (Option ℕ)) (vertex : ℕ) (path : List ℕ) (step : ℕ) (ks : List ℕ) → GoesOnBy variables numbers next vertex path step ks → length ks ≤ step → path ≡ ks
goes-full variables numbers next vertex path step ks g few = by g.rest g.joined
  where
    by : (rest : List ℕ) → ks ≡ path ++ rest → path ≡ ks
    by [] joined = sym (joined ∙ append-nil path)
    by (j ∷ js) joined =
        let e = ap length joined ∙ length-append path (j ∷ js) in
        let c = g.count in
        let bad : ⊥ = omega arith in
        absurd bad
