-- Adding the next variable to the edges that lead backwards.
use Rattle.std.proofs.Common.{◌≡◌, ◌≢◌, ℕ, zero, suc, ◌+◌, ◌*◌, ◌^◌, ◌≤◌, ◌<◌, ◌==◌, inl, Bool, true, false, List, [], ◌∷◌, ◌++◌, length, Some, slice_get, get_or, Contains, refl, sym, ◌∙◌, ap, subst, arith}
use Rattle.std.proofs.lemmas.List.Elements.{Contains-append_left, Contains-append_right}
use Rattle.std.proofs.lemmas.List.Sums.{sum_by_push}
use Rattle.std.specs.List.{AllZip}
use Rattle.merlin_model.specs.Programs.{is_chosen}
use Rattle.merlin_model.proofs.Members.{in_to, all_in}
use Rattle.graph_search.specs.declared.graph.Edge.{Edge}
use Rattle.graph_search.specs.Graphs.{AreEdgesAmong, cost_of_all}
use Rattle.graph_search.proofs.Places.{all-snoc}
use Rattle.cutoff_program.specs.Flows.{variables_of, last_of, cost_of_variable}
use Rattle.cutoff_program.specs.declared.flow.Flow.{Flow}
use Rattle.cutoff_program.specs.declared.flow.Problem.{Problem}
use Rattle.cutoff_program.specs.declared.flow.Variable.{Variable}
use Rattle.cutoff_program.specs.Limits.{IsEdgeOf, IsFlow, IsProblem}
use Rattle.cutoff_program.proofs.Lists.{some_some}
use Rattle.cutoff_program.proofs.Following.{each-at}
use Rattle.cutoff_program.proofs.Variables.{costs-small}
use Rattle.cutoff_program.proofs.Places.{get-in}
use Rattle.cutoff_program.proofs.Flights.{IsFlowAt, flows-at, at-flows}
use Rattle.program_walks.specs.declared.backwards.Turned.{Turned}
use Rattle.program_walks.specs.Turned.{turned_edge, IsTurned, AreTurned}

pub zip-snoc : {X Y : Type 0} (R : X → Y → Type 0) (xs : List X) (ys : List Y) (x : X) (y : Y) → AllZip R xs ys → R x y → AllZip R (xs ++ x ∷ []) (ys ++ y ∷ [])
zip-snoc R [] [] x y z r = (r, tt)
zip-snoc R (a ∷ xs) (b ∷ ys) x y z r = (z.0, zip-snoc R xs ys x y z.1 r)
zip-snoc R [] (b ∷ ys) x y z r = absurd z
zip-snoc R (a ∷ xs) [] x y z r = absurd z

-- a flow of a problem has the variables of its number
pub flow-at : (problem : Problem) (n : ℕ) (flow : Flow) → slice_get problem.flows n ≡ Some flow → IsFlowAt (variables_of problem) n flow
flow-at problem n flow e = subst (λ m. IsFlowAt (variables_of problem) m flow) (plain n) (at-flows (variables_of problem) 0 problem.flows n flow (flows-at 0 problem.flows) e)
  where
    plain : (m : ℕ) → 0 + m ≡ m
    plain m = omega arith

-- its variables are edges between its vertices
pub edge-in : (problem : Problem) (n : ℕ) (flow : Flow) (k : ℕ) (v : Variable) → IsProblem problem → slice_get problem.flows n ≡ Some flow → slice_get (variables_of problem) k ≡ Some v → v.flow ≡ n → IsEdgeOf problem.links (last_of flow) v.edge
edge-in problem n flow k v is at e f =
    let o = (flow-at problem n flow at).only v (get-in (variables_of problem) k v e) f in
    all_in (IsEdgeOf problem.links (last_of flow)) flow.edges v.edge (each-at (IsFlow problem.links) problem.flows n flow is.flows at).edges o.0

pub turned-none : (problem : Problem) (point : List Bool) (n last bound : ℕ) (found : Turned) → AreTurned problem point n last bound found →
    ((v : Variable) → slice_get (variables_of problem) bound ≡ Some v → v.flow ≡ n → is_chosen point bound ≡ true → ⊥) → AreTurned problem point n last (bound + 1) found
turned-none problem point n last bound found t none = record {
  each = t.each;
  all = λ k v h e f c. by k v h e f c (k == bound) refl;
  inside = t.inside;
  costs = let h = t.costs in more _ _ h;
}
  where
    more : (s b : ℕ) → s ≤ b * 10 ^ 9 → s ≤ (b + 1) * 10 ^ 9
    more s b h = omega arith

    by : (k : ℕ) (v : Variable) → k < bound + 1 → slice_get (variables_of problem) k ≡ Some v → v.flow ≡ n → is_chosen point k ≡ true → (b : Bool) → (k == bound) ≡ b → Contains found.numbers k
    by k v h e f c true s =
        let same : k ≡ bound = grind arith in
        absurd (none v (ap (slice_get (variables_of problem)) (sym same) ∙ e) f (ap (is_chosen point) (sym same) ∙ c))
    by k v h e f c false s =
        let other : k ≢ bound = grind arith in
        t.all k v (omega (arith, other)) e f c

pub turned-one : (problem : Problem) (point : List Bool) (n last bound : ℕ) (found more : Turned) (v : Variable) → AreTurned problem point n last bound found → slice_get (variables_of problem) bound ≡ Some v → v.flow ≡ n →
    is_chosen point bound ≡ true → v.edge.from ≤ last → v.edge.to ≤ last → cost_of_variable problem v ≤ 10 ^ 9 →
    more.edges ≡ found.edges ++ turned_edge problem v ∷ [] → more.numbers ≡ found.numbers ++ bound ∷ [] → AreTurned problem point n last (bound + 1) more
turned-one problem point n last bound found more v t e f c from to small edges numbers = record {
  each = subst (λ ks. AllZip (IsTurned problem point n) ks more.edges) (sym numbers)
      (subst (AllZip (IsTurned problem point n) (found.numbers ++ bound ∷ [])) (sym edges)
      (zip-snoc (IsTurned problem point n) found.numbers found.edges bound (turned_edge problem v) t.each (v, e, f, c, refl)));
  all = λ k w h g i d. subst (λ ks. Contains ks k) (sym numbers) (by k w h g i d (k == bound) refl);
  inside = subst (AreEdgesAmong (last + 1)) (sym edges)
      (all-snoc (λ (x : Edge). (x.from < last + 1) × (x.to < last + 1)) found.edges (turned_edge problem v) t.inside (omega (arith, to), omega (arith, from)));
  costs = cost _ _ _ _ (ap cost_of_all edges ∙ sum_by_push (λ (x : Edge). x.cost) found.edges (turned_edge problem v)) t.costs small;
}
  where
    cost : (s t c b : ℕ) → s ≡ t + c → t ≤ b * 10 ^ 9 → c ≤ 10 ^ 9 → s ≤ (b + 1) * 10 ^ 9
    cost s t c b e h l = omega arith

    by : (k : ℕ) (w : Variable) → k < bound + 1 → slice_get (variables_of problem) k ≡ Some w → w.flow ≡ n → is_chosen point k ≡ true → (b : Bool) → (k == bound) ≡ b → Contains (found.numbers ++ bound ∷ []) k
    by k w h g i d true s =
        let same : k ≡ bound = grind arith in
        Contains-append_right found.numbers (bound ∷ []) k (in_to (bound ∷ []) k (inl same))
    by k w h g i d false s =
        let other : k ≢ bound = grind arith in
        Contains-append_left found.numbers (bound ∷ []) k (t.all k w (omega (arith, other)) g i d)

pub get-some : {X : Type 0} (xs : List X) (k : ℕ) (d : X) → k < length xs → slice_get xs k ≡ Some (get_or xs k d)
get-some [] k d h = absurd (omega arith)
get-some (x ∷ xs) zero d h = refl
get-some (x ∷ xs) (suc k) d h = get-some xs k d (omega arith)

-- within a list it does not matter what stands past its end
pub defaults : {X : Type 0} (xs : List X) (k : ℕ) (d e : X) → k < length xs → get_or xs k d ≡ get_or xs k e
defaults [] k d e h = absurd (omega arith)
defaults (x ∷ xs) zero d e h = refl
defaults (x ∷ xs) (suc k) d e h = defaults xs k d e (omega arith)

module _ (problem : Problem) (point : List Bool) (variables : List Variable) (n k : ℕ) (v : Variable) (is : IsProblem problem) (are : variables ≡ variables_of problem) (at : slice_get variables k ≡ Some v) (flow : Flow) (stands : slice_get problem.flows n ≡ Some flow) (found : Turned) (t : AreTurned problem point n (last_of flow) k found) where
  here : slice_get (variables_of problem) k ≡ Some v
  here = ap (λ vs. slice_get vs k) (sym are) ∙ at

  pub next-taken : (more : Turned) → v.flow ≡ n → is_chosen point k ≡ true → more.edges ≡ found.edges ++ turned_edge problem v ∷ [] → more.numbers ≡ found.numbers ++ k ∷ [] → AreTurned problem point n (last_of flow) (k + 1) more
  next-taken more f c edges numbers =
      let e = edge-in problem n flow k v is stands here f in
      turned-one problem point n (last_of flow) k found more v t here f c e.starts e.ends (each-at (λ w. cost_of_variable problem w ≤ 10 ^ 9) (variables_of problem) k v (costs-small problem is) here) edges numbers

  pub next-other : v.flow ≢ n → AreTurned problem point n (last_of flow) (k + 1) found
  next-other other = turned-none problem point n (last_of flow) k found t (λ w e f c. other (ap (λ x. x.flow) (some_some (sym here ∙ e)) ∙ f))

  pub next-free : is_chosen point k ≡ false → AreTurned problem point n (last_of flow) (k + 1) found
  next-free free = turned-none problem point n (last_of flow) k found t (λ w e f c. let bad : ⊥ = (let b : false ≡ true = sym free ∙ c in cc) in bad)
