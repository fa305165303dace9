-- The rows of flows and balance.
use Rattle.std.proofs.Common.{◌≡◌, ◌≢◌, ℕ, zero, suc, ◌+◌, ◌-◌, ◌≤◌, ◌<◌, ◌==◌, max, Bool, true, false, cond, ℤ, pos, negsuc, ◌+ℤ◌, List, [], ◌∷◌, ◌++◌, map, nat_lt, refl, sym, ◌∙◌, ap₂, subst, arith}
use Rattle.std.proofs.lemmas.Int.{ints}
use Rattle.std.specs.List.{AllByRecursion, range_with_len}
use Rattle.merlin_model.specs.declared.network.DirectedLink.{DirectedLink}
use Rattle.merlin_model.specs.Programs.{is_chosen, coefficient_if}
use Rattle.cutoff_program.specs.Flows.{FlowEdge, Flow, Problem, Variable, variable_of, variables_from, variables_of, last_of, net_out, flow_right, flow_row, flow_rows_from, chosen_from}
use Rattle.cutoff_program.specs.Limits.{IsEdgeOf, IsFlow, IsProblem}
use Rattle.cutoff_program.specs.Trails.{IsBalanced, one_at}
use Rattle.cutoff_program.proofs.Lists.{all_both, all_left, all_right, all_map, map_all, all_any, all_so}
use Rattle.cutoff_program.proofs.Entries.{left-entries}
use Rattle.cutoff_program.proofs.Solutions.{Meets}

-- each flow is balanced from its start to its end
abbrev pub AreBalancedFrom : List Variable → List Bool → ℕ → List Flow → Type 0
AreBalancedFrom variables point n [] = Unit {0}
AreBalancedFrom variables point n (flow ∷ flows) = IsBalanced variables n point 0 (last_of flow) × AreBalancedFrom variables point (n + 1) flows

-- From balance to rows.

last-positive : (flow : Flow) → 1 ≤ last_of flow
last-positive flow = at flow.vertices
  where
    at : (n : ℕ) → 1 ≤ max n 2 - 1
    at n = omega arith

right-from : (flow : Flow) (u : ℕ) (z : ℤ) → z +ℤ one_at (u == last_of flow) ≡ one_at (u == 0) → z ≡ flow_right flow u
right-from flow u z h = by (u == 0) refl (u == last_of flow) refl h
  where
    by : (a : Bool) → (u == 0) ≡ a → (b : Bool) → (u == last_of flow) ≡ b → z +ℤ one_at b ≡ one_at a → z ≡ cond a (pos 1) (cond b (negsuc 0) (pos 0))
    by true e true f h = let p = last-positive flow in let bad : ⊥ = grind arith in absurd bad
    by true e false f h = omega (arith, ints)
    by false e true f h = omega (arith, ints)
    by false e false f h = omega (arith, ints)

right-to : (flow : Flow) (u : ℕ) (z : ℤ) → z ≡ flow_right flow u → z +ℤ one_at (u == last_of flow) ≡ one_at (u == 0)
right-to flow u z h = by (u == 0) refl (u == last_of flow) refl h
  where
    by : (a : Bool) → (u == 0) ≡ a → (b : Bool) → (u == last_of flow) ≡ b → z ≡ cond a (pos 1) (cond b (negsuc 0) (pos 0)) → z +ℤ one_at b ≡ one_at a
    by true e true f h = let p = last-positive flow in let bad : ⊥ = grind arith in absurd bad
    by true e false f h = omega (arith, ints)
    by false e true f h = omega (arith, ints)
    by false e false f h = omega (arith, ints)

pub balanced-rows : (problem : Problem) (point : List Bool) (n : ℕ) (flows : List Flow) → AreBalancedFrom (variables_of problem) point n flows → AllByRecursion (Meets point) (flow_rows_from problem n flows)
balanced-rows problem point n [] all = tt
balanced-rows problem point n (flow ∷ flows) all =
    all_both (Meets point) (map (flow_row problem n flow) (range_with_len 0 (last_of flow + 1))) (flow_rows_from problem (n + 1) flows)
    (all_map (Meets point) (flow_row problem n flow) (range_with_len 0 (last_of flow + 1))
    (all_any (λ u. Meets point (flow_row problem n flow u)) (range_with_len 0 (last_of flow + 1))
    (λ u. left-entries 0 (net_out n u) (variables_of problem) point ∙ right-from flow u (chosen_from 0 (net_out n u) (variables_of problem) point) (all.0 u))))
    (balanced-rows problem point (n + 1) flows all.1)

-- From rows to balance.

range-at : (P : ℕ → Type 0) (a n u : ℕ) → AllByRecursion P (range_with_len a n) → a ≤ u → u < a + n → P u
range-at P a zero u all h g = let bad : ⊥ = omega arith in absurd bad
range-at P a (suc n) u all h g = by (a == u) refl (range-at P (a + 1) n u all.1)
  where
    by : (b : Bool) → (a == u) ≡ b → (a + 1 ≤ u → u < a + 1 + n → P u) → P u
    by true e ih = let same : a ≡ u = grind arith in subst P same all.0
    by false e ih = let other : a ≢ u = grind arith in ih (omega arith) (omega arith)

-- an edge that touches no vertex u net_out nothing there
leaves-none : (n u : ℕ) (v : Variable) → (v.flow ≡ n → (v.edge.from ≢ u) × (v.edge.to ≢ u)) → net_out n u v ≡ pos 0
leaves-none n u v h = by (v.flow == n) refl (v.edge.from == u) refl (v.edge.to == u) refl
  where
    by : (a : Bool) → (v.flow == n) ≡ a → (b : Bool) → (v.edge.from == u) ≡ b → (c : Bool) → (v.edge.to == u) ≡ c → cond a (cond b (pos 1) (cond c (negsuc 0) (pos 0))) (pos 0) ≡ pos 0
    by false e b f c g = refl
    by true e true f c g = let same : v.flow ≡ n = grind arith in let at : v.edge.from ≡ u = grind arith in absurd ((h same).0 at)
    by true e false f true g = let same : v.flow ≡ n = grind arith in let at : v.edge.to ≡ u = grind arith in absurd ((h same).1 at)
    by true e false f false g = refl

chosen-none : (k : ℕ) (f : Variable → ℤ) (vs : List Variable) (point : List Bool) → AllByRecursion (λ v. f v ≡ pos 0) vs → chosen_from k f vs point ≡ pos 0
chosen-none k f [] point all = refl
chosen-none k f (v ∷ vs) point all = ap₂ (λ x t. coefficient_if (is_chosen point k) x +ℤ t) all.0 (chosen-none (k + 1) f vs point all.1) ∙ by (is_chosen point k)
  where
    by : (b : Bool) → coefficient_if b (pos 0) +ℤ pos 0 ≡ pos 0
    by true = omega (arith, ints)
    by false = omega (arith, ints)

-- the edges of flow n end at its vertices
abbrev pub AreInside : ℕ → ℕ → Variable → Type 0
AreInside n last v = v.flow ≡ n → (v.edge.from ≤ last) × (v.edge.to ≤ last)

later-flow : (n m : ℕ) (flows : List Flow) → n < m → (last : ℕ) → AllByRecursion (AreInside n last) (variables_from m flows)
later-flow n m [] h last = tt
later-flow n m (flow ∷ flows) h last =
    all_both (AreInside n last) (map (variable_of m flow.rate) flow.edges) (variables_from (m + 1) flows)
    (all_map (AreInside n last) (variable_of m flow.rate) flow.edges (all_any (λ edge. AreInside n last (variable_of m flow.rate edge)) flow.edges (λ edge e. let bad : ⊥ = omega arith in absurd bad)))
    (later-flow n (m + 1) flows (omega arith) last)

-- of each flow
abbrev pub EachInsideFrom : List Variable → ℕ → List Flow → Type 0
EachInsideFrom variables n [] = Unit {0}
EachInsideFrom variables n (flow ∷ flows) = AllByRecursion (AreInside n (last_of flow)) variables × EachInsideFrom variables (n + 1) flows

inside-more : (variables : List Variable) (n m rate : ℕ) (edges : List FlowEdge) (flows : List Flow) → n < m → EachInsideFrom variables m flows → EachInsideFrom (map (variable_of n rate) edges ++ variables) m flows
inside-more variables n m rate edges [] h all = tt
inside-more variables n m rate edges (flow ∷ flows) h all = (
  all_both (AreInside m (last_of flow)) (map (variable_of n rate) edges) variables
      (all_map (AreInside m (last_of flow)) (variable_of n rate) edges (all_any (λ edge. AreInside m (last_of flow) (variable_of n rate edge)) edges (λ edge e. let bad : ⊥ = omega arith in absurd bad))) all.0,
  inside-more variables n (m + 1) rate edges flows (omega arith) all.1,
)

pub inside-from : (links : List DirectedLink) (n : ℕ) (flows : List Flow) → AllByRecursion (IsFlow links) flows → EachInsideFrom (variables_from n flows) n flows
inside-from links n [] all = tt
inside-from links n (flow ∷ flows) all = (
  all_both (AreInside n (last_of flow)) (map (variable_of n flow.rate) flow.edges) (variables_from (n + 1) flows)
      (all_map (AreInside n (last_of flow)) (variable_of n flow.rate) flow.edges
      (all_so (IsEdgeOf links (last_of flow)) (λ edge. AreInside n (last_of flow) (variable_of n flow.rate edge)) flow.edges (λ edge is e. (is.starts, is.ends)) all.0.edges))
      (later-flow n (n + 1) flows (omega arith) (last_of flow)),
  inside-more (variables_from (n + 1) flows) n (n + 1) flow.rate flow.edges flows (omega arith) (inside-from links (n + 1) flows all.1),
)

rows-balanced-from : (problem : Problem) (point : List Bool) (n : ℕ) (flows : List Flow) → EachInsideFrom (variables_of problem) n flows → AllByRecursion (Meets point) (flow_rows_from problem n flows) →
    AreBalancedFrom (variables_of problem) point n flows
rows-balanced-from problem point n [] inside all = tt
rows-balanced-from problem point n (flow ∷ flows) inside all = (
  (λ u. by u (nat_lt u (last_of flow + 1)) refl),
  rows-balanced-from problem point (n + 1) flows inside.1 (all_right (Meets point) (map (flow_row problem n flow) (range_with_len 0 (last_of flow + 1))) (flow_rows_from problem (n + 1) flows) all),
)
  where
    mine : AllByRecursion (λ u. Meets point (flow_row problem n flow u)) (range_with_len 0 (last_of flow + 1))
    mine = map_all (Meets point) (flow_row problem n flow) (range_with_len 0 (last_of flow + 1)) (all_left (Meets point) (map (flow_row problem n flow) (range_with_len 0 (last_of flow + 1))) (flow_rows_from problem (n + 1) flows) all)

    outside : (u : ℕ) → last_of flow < u → (a : Bool) → (u == 0) ≡ a → (b : Bool) → (u == last_of flow) ≡ b → (z : ℤ) → z ≡ pos 0 → z +ℤ one_at b ≡ one_at a
    outside u h true e b f z g = let bad : ⊥ = grind arith in absurd bad
    outside u h false e true f z g = let bad : ⊥ = grind arith in absurd bad
    outside u h false e false f z g = omega (arith, ints)

    by : (u : ℕ) → (b : Bool) → nat_lt u (last_of flow + 1) ≡ b → chosen_from 0 (net_out n u) (variables_of problem) point +ℤ one_at (u == last_of flow) ≡ one_at (u == 0)
    by u true e =
        let h : u < last_of flow + 1 = grind arith in
        right-to flow u (chosen_from 0 (net_out n u) (variables_of problem) point)
        (sym (left-entries 0 (net_out n u) (variables_of problem) point) ∙ range-at (λ u. Meets point (flow_row problem n flow u)) 0 (last_of flow + 1) u mine (omega arith) (omega arith))
    by u false e =
        let h : last_of flow < u = grind arith in
        outside u h (u == 0) refl (u == last_of flow) refl (chosen_from 0 (net_out n u) (variables_of problem) point)
        (chosen-none 0 (net_out n u) (variables_of problem) point
        (all_so (AreInside n (last_of flow)) (λ v. net_out n u v ≡ pos 0) (variables_of problem)
        (λ v is. leaves-none n u v (λ e. let i = is e in ((λ x. let p = i.0 in let bad : ⊥ = omega arith in bad), (λ x. let p = i.1 in let bad : ⊥ = omega arith in bad)))) inside.0))

pub rows-balanced : (problem : Problem) (point : List Bool) → IsProblem problem → AllByRecursion (Meets point) (flow_rows_from problem 0 problem.flows) → AreBalancedFrom (variables_of problem) point 0 problem.flows
rows-balanced problem point is all = rows-balanced-from problem point 0 problem.flows (inside-from problem.links 0 problem.flows is.flows) all
