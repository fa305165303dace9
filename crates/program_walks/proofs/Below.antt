-- No feasible assignment has a value below the bound.
use Rattle.std.proofs.Common.{◌≡◌, ℕ, zero, suc, ◌+◌, ◌*◌, ◌≤◌, ◌<◌, inl, inr, int_le, pos, max, true, false, List, [], ◌∷◌, map, sum, Option, None, Some, slice_get, sum_by, refl, sym, ◌∙◌, ap, subst, arith}
use Rattle.std.proofs.lemmas.Bool.{le-ltb}
use Rattle.std.proofs.lemmas.List.Sums.{sum_by-cons}
use Rattle.std.proofs.Math.Nat.{mul-le-mul_right}
use Rattle.std.specs.List.{AllByRecursion, AllZip}
use Rattle.std.specs.Option.{option_map_or}
use Rattle.merlin_model.specs.declared.network.DirectedLink.{DirectedLink}
use Rattle.merlin_model.specs.declared.policy.Symbol.{Symbol}
use Rattle.merlin_model.specs.declared.policy.Ends.{Ends}
use Rattle.merlin_model.specs.declared.policy.Objective.{Objective}
use Rattle.merlin_model.specs.declared.policy.Objective.TheVariants as objective
use Rattle.merlin_model.specs.declared.policy.Value.{Value}
use Rattle.merlin_model.specs.declared.policy.Value.TheVariants.{Whole, Ratio}
use Rattle.merlin_model.specs.Networks.{Network, IsNetwork}
use Rattle.merlin_model.specs.Policies.{Policy}
use Rattle.merlin_model.specs.Rates.{greatest_of}
use Rattle.merlin_model.specs.Assignments.{IsAssignment, IsFeasible, value_of, greatest_ratio, ratio_value}
use Rattle.merlin_model.proofs.Members.{In, all_in}
use Rattle.rules_model.specs.Products.{SymbolAutomaton}
use Rattle.cutoff_program.specs.Flows.{variables_of, last_of, rate_over, cost_of_variable, fits_on, fits_over, loads_from, value_by, is_below}
use Rattle.cutoff_program.specs.declared.flow.Flow.{Flow}
use Rattle.cutoff_program.specs.declared.flow.Problem.{Problem}
use Rattle.cutoff_program.specs.declared.flow.Variable.{Variable}
use Rattle.cutoff_program.specs.Limits.{IsProblem, IsLinkWithin}
use Rattle.cutoff_program.specs.Trails.{sum_along, plus_term, edges_of, loads_along, value_along, FitsCapacities, AreTrailsFrom}
use Rattle.cutoff_program.specs.Easy.{IsTrailThrough, MayAt, EachFlowHas}
use Rattle.cutoff_program.specs.Walks.{IsFlowOf, IsProblemOf}
use Rattle.cutoff_program.proofs.Lists.{all_both, all_left, all_right, all_map, all_any, all_so, none_some, some_some}
use Rattle.cutoff_program.proofs.Following.{each-at, sum-cons}
use Rattle.cutoff_program.proofs.Rooms.{room-none}
use Rattle.cutoff_program.proofs.Variables.{over-full}
use Rattle.cutoff_program.proofs.Cutoffs.{positive-loads}
use Rattle.cutoff_program.proofs.Points.{IsOf, trail-of}
use Rattle.cutoff_program.proofs.Forth.{sum-append}
use Rattle.cutoff_program.proofs.Loads.{CrossAlike, value-same, feasible-fits}
use Rattle.cutoff_program.proofs.Bridge.{trail-at}
use Rattle.program_walks.specs.Loads.{load_on_link, cost_on_link, ratio_on_link, value_as}
use Rattle.program_walks.specs.Bounds.{link_crossed, share_on_link, share_of_variable, share_by_number, greatest_share, IsLeastShare, IsLeastCost, IsBoundAs, IsBoundOver, HasFlowWithoutTrail, IsSeparateBound}
use Rattle.program_walks.proofs.Ratios.{IsAtMost, most-from, most-to, most-through, none-most, greatest-has, greatest-within, greatest-bounds}
use Rattle.program_walks.proofs.Widening.{fits-true, may-at, share-at}
use Rattle.program_walks.proofs.Narrowing.{shares-positive}
use Rattle.program_walks.proofs.Adding.{nothing-loaded, nothing-cost}

-- Sums and loads.

each-in : (P : ℕ → Type 0) (ks : List ℕ) → ((k : ℕ) → In k ks → P k) → AllByRecursion P ks
each-in P [] h = tt
each-in P (k ∷ ks) h = (h k (inl refl), each-in P ks (λ j i. h j (inr i)))

at-least : (variables : List Variable) (f : Variable → ℕ) (ks : List ℕ) (k : ℕ) (v : Variable) → In k ks → slice_get variables k ≡ Some v → f v ≤ sum_along variables f ks
at-least variables f [] k v i e = absurd i
at-least variables f (j ∷ ks) k v (inl s) e = let c = sum-cons variables f j ks v (ap (slice_get variables) (sym s) ∙ e) in first _ _ _ c
  where
    first : (a b s : ℕ) → s ≡ a + b → a ≤ s
    first a b s c = omega arith
at-least variables f (j ∷ ks) k v (inr i) e = let h = at-least variables f ks k v i e in let m = more (slice_get variables j) in omega (arith, h, m)
  where
    more : (o : Option Variable) → sum_along variables f ks ≤ plus_term f o (sum_along variables f ks)
    more None = omega arith
    more (Some w) = plain (f w) (sum_along variables f ks)
      where
        plain : (a b : ℕ) → b ≤ a + b
        plain a b = omega arith

loads-each : (P : ℕ × ℕ → Type 0) (load : ℕ → ℕ) (n : ℕ) (links : List DirectedLink) → AllByRecursion P (loads_from load n links) → (l : ℕ) (link : DirectedLink) → slice_get links l ≡ Some link → P (load (n + l), link.capacity)
loads-each P load n [] all l link e = absurd (none_some e)
loads-each P load n (w ∷ links) all zero link e =
    let at : n ≡ n + 0 = omega arith in
    subst (λ x. P (load (n + 0), x.capacity)) (some_some e) (subst (λ m. P (load m, w.capacity)) at all.0)
loads-each P load n (w ∷ links) all (suc l) link e =
    let at : n + 1 + l ≡ n + suc l = omega arith in
    subst (λ m. P (load m, link.capacity)) at (loads-each P load (n + 1) links all.1 l link e)

most-of : (rs : List (ℕ × ℕ)) → AllByRecursion (λ r. r.0 ≤ greatest_of (map (λ l. l.0) rs)) rs
most-of [] = tt
most-of (r ∷ rs) = (first r.0 (greatest_of (map (λ l. l.0) rs)), up rs (most-of rs))
  where
    first : (m n : ℕ) → m ≤ max m n
    first m n = omega arith

    second : (m n k : ℕ) → k ≤ n → k ≤ max m n
    second m n k h = omega arith

    up : (xs : List (ℕ × ℕ)) → AllByRecursion (λ x. x.0 ≤ greatest_of (map (λ l. l.0) rs)) xs → AllByRecursion (λ x. x.0 ≤ max r.0 (greatest_of (map (λ l. l.0) rs))) xs
    up [] all = tt
    up (x ∷ xs) all = (second r.0 (greatest_of (map (λ l. l.0) rs)) x.0 all.0, up xs all.1)

-- The edges of trails, one for each flow.

known : (variables : List Variable) (n : ℕ) (flows : List Flow) (trails : List (List ℕ)) → AreTrailsFrom variables n flows trails → AllByRecursion (λ k. (v : Variable) × (slice_get variables k ≡ Some v)) (edges_of trails)
known variables n [] [] are = tt
known variables n (flow ∷ flows) (trail ∷ trails) are =
    all_both (λ k. (v : Variable) × (slice_get variables k ≡ Some v)) trail (edges_of trails)
    (all_so (IsOf variables n) (λ k. (v : Variable) × (slice_get variables k ≡ Some v)) trail (λ k h. (h.0, h.1)) (trail-of variables n trail 0 (last_of flow) are.0))
    (known variables (n + 1) flows trails are.1)
known variables n [] (trail ∷ trails) are = absurd are
known variables n (flow ∷ flows) [] are = absurd are

module _ (problem : Problem) (is : IsProblem problem) where
  -- what least shares and least costs are at most
  shares-within : (b : ℕ × ℕ) (n : ℕ) (flows : List Flow) (trails : List (List ℕ)) (shares : List (ℕ × ℕ)) → AreTrailsFrom (variables_of problem) n flows trails → AllByRecursion (MayAt problem None) (edges_of trails) →
      AllByRecursion (λ k. IsAtMost (share_by_number problem k) b) (edges_of trails) → EachFlowHas (IsLeastShare problem) n flows shares → AllByRecursion (λ s. IsAtMost s b) shares
  shares-within b n [] [] [] are may most each = tt
  shares-within b n (flow ∷ flows) (trail ∷ trails) (share ∷ shares) are may most each = (
    most-through share (greatest_share problem trail) b
        (most-from share (greatest_share problem trail) (each.0.no_less trail (record { steps = are.0; allowed = all_left (MayAt problem None) trail (edges_of trails) may })))
        (greatest-within b (map (share_by_number problem) trail) (all_map (λ r. IsAtMost r b) (share_by_number problem) trail (all_left (λ k. IsAtMost (share_by_number problem k) b) trail (edges_of trails) most)))
        (greatest-has (λ r. 0 < r.1) (map (share_by_number problem) trail) (omega arith) (shares-positive problem is trail)),
    shares-within b (n + 1) flows trails shares are.1 (all_right (MayAt problem None) trail (edges_of trails) may) (all_right (λ k. IsAtMost (share_by_number problem k) b) trail (edges_of trails) most) each.1,
  )
  shares-within b n [] (trail ∷ trails) shares are may most each = absurd are
  shares-within b n (flow ∷ flows) [] shares are may most each = absurd are
  shares-within b n [] [] (share ∷ shares) are may most each = absurd each
  shares-within b n (flow ∷ flows) (trail ∷ trails) [] are may most each = absurd each

  costs-within : (n : ℕ) (flows : List Flow) (trails : List (List ℕ)) (costs : List ℕ) → AreTrailsFrom (variables_of problem) n flows trails → AllByRecursion (MayAt problem None) (edges_of trails) → EachFlowHas (IsLeastCost problem) n flows costs →
      sum costs ≤ sum_along (variables_of problem) (cost_of_variable problem) (edges_of trails)
  costs-within n [] [] [] are may each = omega arith
  costs-within n (flow ∷ flows) (trail ∷ trails) (cost ∷ costs) are may each =
      let first = each.0.no_less trail (record { steps = are.0; allowed = all_left (MayAt problem None) trail (edges_of trails) may }) in
      let rest = costs-within (n + 1) flows trails costs are.1 (all_right (MayAt problem None) trail (edges_of trails) may) each.1 in
      let s = sum_by-cons (λ (x : ℕ). x) cost costs in
      let t = sum-append (variables_of problem) (cost_of_variable problem) trail (edges_of trails) in
      both _ _ _ _ _ _ s first rest t
    where
      both : (all c cs x y whole : ℕ) → all ≡ c + cs → c ≤ x → cs ≤ y → whole ≡ x + y → all ≤ whole
      both all c cs x y whole h g i j = omega arith
  costs-within n [] (trail ∷ trails) costs are may each = absurd are
  costs-within n (flow ∷ flows) [] costs are may each = absurd are
  costs-within n [] [] (cost ∷ costs) are may each = absurd each
  costs-within n (flow ∷ flows) (trail ∷ trails) [] are may each = absurd each

  -- with the greatest load as objective shares have 1 below them
  one-below : objective.Reserved ≡ problem.objective → (k : ℕ) → (share_by_number problem k).1 ≡ 1
  one-below e k = by (slice_get (variables_of problem) k) refl
    where
      on : (rate : ℕ) (l : Option DirectedLink) → (share_on_link objective.Reserved rate l).1 ≡ 1
      on rate None = refl
      on rate (Some link) = refl

      by : (o : Option Variable) → slice_get (variables_of problem) k ≡ o → (share_by_number problem k).1 ≡ 1
      by None s = ap (λ x. (option_map_or (share_of_variable problem) x (0, 1)).1) s
      by (Some v) s = ap (λ (x : ℕ × ℕ). x.1) (share-at problem k v s) ∙ ap (λ o. (share_on_link o v.rate (link_crossed problem v.edge.crosses)).1) (sym e) ∙ on v.rate (link_crossed problem v.edge.crosses)

  ones-below : objective.Reserved ≡ problem.objective → (n : ℕ) (flows : List Flow) (shares : List (ℕ × ℕ)) → EachFlowHas (IsLeastShare problem) n flows shares → AllByRecursion (λ s. s.1 ≡ 1) shares
  ones-below e n [] [] each = tt
  ones-below e n (flow ∷ flows) (share ∷ shares) each = (
    subst (λ (s : ℕ × ℕ). s.1 ≡ 1) each.0.reached
        (greatest-has (λ r. r.1 ≡ 1) (map (share_by_number problem) each.0.trail) refl (all_map (λ r. r.1 ≡ 1) (share_by_number problem) each.0.trail (all_any (λ k. (share_by_number problem k).1 ≡ 1) each.0.trail (one-below e)))),
    ones-below e (n + 1) flows shares each.1,
  )
  ones-below e n [] (share ∷ shares) each = absurd each
  ones-below e n (flow ∷ flows) [] each = absurd each

  module _ (trails : List (List ℕ)) (steps : AreTrailsFrom (variables_of problem) 0 problem.flows trails) where
    abbrev edges : List ℕ
    edges = edges_of trails

    abbrev load : ℕ → ℕ
    load l = sum_along (variables_of problem) (rate_over l) edges

    -- a link carries the rate of each edge that crosses it
    carried : (k l : ℕ) (v : Variable) → In k edges → slice_get (variables_of problem) k ≡ Some v → v.edge.crosses ≡ Some l → v.rate ≤ load l
    carried k l v i e x = let a = at-least (variables_of problem) (rate_over l) edges k v i e in let f = over-full l v x in omega (arith, a, f)

    on-link : (P : ℕ × ℕ → Type 0) → AllByRecursion P (loads_along problem edges) → (l : ℕ) (link : DirectedLink) → slice_get problem.links l ≡ Some link → P (load l, link.capacity)
    on-link P all l link e = subst (λ m. P (load m, link.capacity)) (plain l) (loads-each P load 0 problem.links all l link e)
      where
        plain : (m : ℕ) → 0 + m ≡ m
        plain m = omega arith

    -- where they fit, they may be taken
    pub may-all : FitsCapacities problem edges → AllByRecursion (MayAt problem None) edges
    may-all fits = each-in (MayAt problem None) edges (λ k i. let h = all_in (λ k. (v : Variable) × (slice_get (variables_of problem) k ≡ Some v)) edges k (known (variables_of problem) 0 problem.flows trails steps) i in may-at problem k h.0 h.1 true (by k h.0 i h.1 h.0.edge.crosses refl))
      where
        at : (k l : ℕ) (v : Variable) → In k edges → slice_get (variables_of problem) k ≡ Some v → v.edge.crosses ≡ Some l → (o : Option DirectedLink) → slice_get problem.links l ≡ o → fits_over problem.objective None v.rate o ≡ true
        at k l v i e x None s = refl
        at k l v i e x (Some link) s =
            let c = carried k l v i e x in
            let f = on-link (λ r. r.0 ≤ r.1) fits l link s in
            ap (int_le (pos v.rate)) (room-none problem.objective link.capacity) ∙ fits-true v.rate link.capacity (omega (arith, c, f))

        by : (k : ℕ) (v : Variable) → In k edges → slice_get (variables_of problem) k ≡ Some v → (c : Option ℕ) → v.edge.crosses ≡ c → fits_on problem None v.rate v.edge.crosses ≡ true
        by k v i e None x = ap (fits_on problem None v.rate) x
        by k v i e (Some l) x = ap (fits_on problem None v.rate) x ∙ at k l v i e x (slice_get problem.links l) refl

    -- what each share is at most
    each-share : (o : Objective) (b : ℕ × ℕ) → o ≡ problem.objective → ((rate l : ℕ) (link : DirectedLink) → slice_get problem.links l ≡ Some link → rate ≤ load l → IsAtMost (share_on_link o rate (Some link)) b) →
        ((rate : ℕ) → IsAtMost (share_on_link o rate None) b) → AllByRecursion (λ k. IsAtMost (share_by_number problem k) b) edges
    each-share o b e most none = each-in (λ k. IsAtMost (share_by_number problem k) b) edges (λ k i.
        let h = all_in (λ k. (v : Variable) × (slice_get (variables_of problem) k ≡ Some v)) edges k (known (variables_of problem) 0 problem.flows trails steps) i in
        subst (λ s. IsAtMost s b) (sym (share-at problem k h.0 h.1))
        (subst (λ p. IsAtMost (share_on_link p h.0.rate (link_crossed problem h.0.edge.crosses)) b) e (by k h.0 i h.1 h.0.edge.crosses refl)))
      where
        at : (k l : ℕ) (v : Variable) → In k edges → slice_get (variables_of problem) k ≡ Some v → v.edge.crosses ≡ Some l → (p : Option DirectedLink) → slice_get problem.links l ≡ p → IsAtMost (share_on_link o v.rate p) b
        at k l v i s x None t = none v.rate
        at k l v i s x (Some link) t = most v.rate l link t (carried k l v i s x)

        by : (k : ℕ) (v : Variable) → In k edges → slice_get (variables_of problem) k ≡ Some v → (c : Option ℕ) → v.edge.crosses ≡ c → IsAtMost (share_on_link o v.rate (link_crossed problem v.edge.crosses)) b
        by k v i s None x = subst (λ c. IsAtMost (share_on_link o v.rate (link_crossed problem c)) b) (sym x) (none v.rate)
        by k v i s (Some l) x = subst (λ c. IsAtMost (share_on_link o v.rate (link_crossed problem c)) b) (sym x) (at k l v i s x (slice_get problem.links l) refl)

    ratio-most : objective.Ratio ≡ problem.objective → AllByRecursion (λ k. IsAtMost (share_by_number problem k) (greatest_ratio (loads_along problem edges))) edges
    ratio-most e = each-share objective.Ratio (greatest_ratio (loads_along problem edges)) e
        (λ rate l link s h.
        most-through (rate, link.capacity) (load l, link.capacity) (greatest_ratio (loads_along problem edges)) (mul-le-mul_right link.capacity h)
        (on-link (λ r. IsAtMost r (greatest_ratio (loads_along problem edges))) (greatest-bounds (loads_along problem edges) (positive-loads load 0 problem.links is.links)) l link s)
        (each-at IsLinkWithin problem.links l link is.links s).positive)
        (λ rate. none-most (greatest_ratio (loads_along problem edges)))

    reserved-most : objective.Reserved ≡ problem.objective → AllByRecursion (λ k. IsAtMost (share_by_number problem k) (greatest_of (map (λ r. r.0) (loads_along problem edges)), 1)) edges
    reserved-most e = each-share objective.Reserved (greatest_of (map (λ r. r.0) (loads_along problem edges)), 1) e
        (λ rate l link s h. let m = on-link (λ r. r.0 ≤ greatest_of (map (λ r. r.0) (loads_along problem edges))) (most-of (loads_along problem edges)) l link s in times rate (load l) _ h m)
        (λ rate. none-most (greatest_of (map (λ r. r.0) (loads_along problem edges)), 1))
      where
        times : (r l m : ℕ) → r ≤ l → l ≤ m → r * 1 ≤ m * 1
        times r l m h g = omega arith

    bound-by : FitsCapacities problem edges → (o : Objective) → o ≡ problem.objective → (bound : Value) → IsBoundAs o problem bound →
        is_below (value_by o (sum_along (variables_of problem) (cost_of_variable problem) edges) (loads_along problem edges)) bound ≡ false
    bound-by fits objective.Shortest e bound h =
        let c = costs-within 0 problem.flows trails h.1.0 steps (may-all fits) h.1.1 in
        let t = h.1.2 in
        ap (is_below (Whole (sum_along (variables_of problem) (cost_of_variable problem) edges))) h.2 ∙ le-ltb (sum_along (variables_of problem) (cost_of_variable problem) edges) h.0 (omega (arith, c, t))
    bound-by fits objective.Ratio e bound h =
        let within = shares-within (greatest_ratio (loads_along problem edges)) 0 problem.flows trails h.1.0 steps (may-all fits) (ratio-most e) h.1.1 in
        let most : IsAtMost h.0 (greatest_ratio (loads_along problem edges)) = subst (λ s. IsAtMost s (greatest_ratio (loads_along problem edges))) (sym h.1.2) (greatest-within (greatest_ratio (loads_along problem edges)) h.1.0 within) in
        ap (is_below (ratio_value (greatest_ratio (loads_along problem edges)))) h.2 ∙ most-to h.0 (greatest_ratio (loads_along problem edges)) most
    bound-by fits objective.Reserved e bound h =
        let within = shares-within (greatest_of (map (λ r. r.0) (loads_along problem edges)), 1) 0 problem.flows trails h.1.0 steps (may-all fits) (reserved-most e) h.1.1 in
        let most : IsAtMost h.0 (greatest_of (map (λ r. r.0) (loads_along problem edges)), 1) =
        subst (λ s. IsAtMost s (greatest_of (map (λ r. r.0) (loads_along problem edges)), 1)) (sym h.1.2) (greatest-within (greatest_of (map (λ r. r.0) (loads_along problem edges)), 1) h.1.0 within) in
        let one : h.0.1 ≡ 1 = ap (λ (s : ℕ × ℕ). s.1) h.1.2 ∙ greatest-has (λ s. s.1 ≡ 1) h.1.0 refl (ones-below e 0 problem.flows h.1.0 h.1.1) in
        ap (is_below (Whole (greatest_of (map (λ r. r.0) (loads_along problem edges))))) h.2
        ∙ le-ltb (greatest_of (map (λ r. r.0) (loads_along problem edges))) h.0.0 (plain _ _ _ most one)
      where
        plain : (x m d : ℕ) → x * 1 ≤ m * d → d ≡ 1 → x ≤ m
        plain x m d h e = let w : m * d ≡ m * 1 = ap (λ n. m * n) e in omega (arith, h, w)

-- Nothing is below the value of no walks.

nothing-by : (x : Value) (n : ℕ) → n ≡ 0 → is_below x (Whole n) ≡ false
nothing-by (Whole a) n e = le-ltb a n (omega (arith, e))
nothing-by (Ratio a b) n e = refl

nothing-ratio : (x : Value) (r : ℕ × ℕ) → r.0 ≡ 0 → is_below x (ratio_value r) ≡ false
nothing-ratio (Whole a) r e = refl
nothing-ratio (Ratio a b) r e = let w : r.0 * b ≡ 0 * b = ap (λ n. n * b) e in let z : 0 * b ≡ 0 = omega arith in le-ltb (a * r.1) (r.0 * b) (none _ _ w z)
  where
    none : (m n : ℕ) {k : ℕ} → n ≡ k → k ≡ 0 → n ≤ m
    none m n w z = omega arith

nothing-below : (problem : Problem) (x : Value) (o : Objective) → is_below x (value_as o problem []) ≡ false
nothing-below problem x objective.Shortest = nothing-by x (sum_by (cost_on_link problem []) problem.links) (nothing-cost problem)
nothing-below problem x objective.Ratio =
    nothing-ratio x (greatest_ratio (map (ratio_on_link problem []) problem.links))
    (greatest-has (λ r. r.0 ≡ 0) (map (ratio_on_link problem []) problem.links) refl (all_map (λ r. r.0 ≡ 0) (ratio_on_link problem []) problem.links (all_any (λ l. load_on_link problem [] l ≡ 0) problem.links (λ l. nothing-loaded problem.flows l.from l.to))))
nothing-below problem x objective.Reserved = nothing-by x (greatest_of (map (load_on_link problem []) problem.links)) (none problem.links)
  where
    none : (links : List DirectedLink) → greatest_of (map (load_on_link problem []) links) ≡ 0
    none [] = refl
    none (l ∷ links) = let e = nothing-loaded problem.flows l.from l.to in let h = none links in most _ _ e h
      where
        most : (m n : ℕ) → m ≡ 0 → n ≡ 0 → max m n ≡ 0
        most m n e h = omega arith

-- The law.

trail-of-flow : (problem : Problem) (n : ℕ) (flows : List Flow) (trails : List (List ℕ)) (k : ℕ) (flow : Flow) → AreTrailsFrom (variables_of problem) n flows trails → AllByRecursion (MayAt problem None) (edges_of trails) → slice_get flows k ≡ Some flow →
    (trail : List ℕ) × IsTrailThrough problem (MayAt problem None) (n + k) flow trail
trail-of-flow problem n [] trails k flow are may e = absurd (none_some e)
trail-of-flow problem n (f ∷ flows) (trail ∷ trails) zero flow are may e =
    let at : n ≡ n + 0 = omega arith in
    (trail, subst (λ m. IsTrailThrough problem (MayAt problem None) m flow trail) at (subst (λ x. IsTrailThrough problem (MayAt problem None) n x trail) (some_some e) (record { steps = are.0; allowed = all_left (MayAt problem None) trail (edges_of trails) may })))
trail-of-flow problem n (f ∷ flows) (trail ∷ trails) (suc k) flow are may e =
    let at : n + 1 + k ≡ n + suc k = omega arith in
    subst (λ m. (trail : List ℕ) × IsTrailThrough problem (MayAt problem None) m flow trail) at (trail-of-flow problem (n + 1) flows trails k flow are.1 (all_right (MayAt problem None) trail (edges_of trails) may) e)
trail-of-flow problem n (f ∷ flows) [] k flow are may e = absurd are

module _ (net : Network) (policy : Policy) (automata : ℕ → SymbolAutomaton) (network : IsNetwork net) (problem : Problem) where
  record HaveTrails (n : ℕ) (flows : List Flow) (ends : List Ends) (walks : List (List Symbol)) : Type 0 where
    pub trails : List (List ℕ)
    pub steps : AreTrailsFrom (variables_of problem) n flows trails
    pub spelled : CrossAlike net policy (variables_of problem) ends walks trails

  have-trails : (n : ℕ) (flows : List Flow) (ends : List Ends) (walks : List (List Symbol)) → ((k : ℕ) (flow : Flow) → slice_get flows k ≡ Some flow → slice_get problem.flows (n + k) ≡ Some flow) →
      AllZip (IsFlowOf net policy automata) ends flows → IsAssignment net policy ends walks → HaveTrails n flows ends walks
  have-trails n [] [] [] among of are = record { trails = []; steps = tt; spelled = tt }
  have-trails n (flow ∷ flows) (e ∷ ends) (w ∷ walks) among of are =
      let here : n + 0 ≡ n = omega arith in
      let one = trail-at net policy automata network problem n e flow w (ap (slice_get problem.flows) (sym here) ∙ among 0 flow refl) of.0 are.0.0 are.0.1 in
      let rest = have-trails (n + 1) flows ends walks (λ k f s. (let next : n + 1 + k ≡ n + suc k = omega arith in ap (slice_get problem.flows) next) ∙ among (suc k) f s) of.1 are.1 in
      record { trails = one.trail ∷ rest.trails; steps = (one.steps, rest.steps); spelled = (one.spelled, rest.spelled) }
  have-trails n [] [] (w ∷ walks) among of are = absurd are
  have-trails n (flow ∷ flows) [] walks among of are = absurd of
  have-trails n [] (e ∷ ends) walks among of are = absurd of
  have-trails n (flow ∷ flows) (e ∷ ends) [] among of are = absurd are

  module _ (ends : List Ends) (objective : Objective) (walks : List (List Symbol)) (of : IsProblemOf net policy automata ends objective problem) (is : IsProblem problem) (assignment : IsAssignment net policy ends walks) (feasible : IsFeasible net policy ends walks) where
    taken : HaveTrails 0 problem.flows ends walks
    taken = have-trails 0 problem.flows ends walks (λ k flow e. (let plain : 0 + k ≡ k = omega arith in ap (slice_get problem.flows) plain) ∙ e) of.flows assignment

    fits : FitsCapacities problem (edges_of taken.trails)
    fits = feasible-fits net policy ends problem walks taken.trails of.links_are taken.spelled feasible

    pub not-below : (bound : Value) → IsSeparateBound problem (Some bound) → is_below (value_of net policy ends objective walks) bound ≡ false
    not-below bound h = ap (λ v. is_below v bound) (sym same) ∙ by problem.flows h
      where
        same : value_along problem (edges_of taken.trails) ≡ value_of net policy ends objective walks
        same = value-same net policy ends problem walks taken.trails of.links_are taken.spelled ∙ ap (λ o. value_of net policy ends o walks) of.objective_is

        by : (flows : List Flow) → IsBoundOver flows problem bound → is_below (value_along problem (edges_of taken.trails)) bound ≡ false
        by [] e = ap (is_below (value_along problem (edges_of taken.trails))) e ∙ nothing-below problem (value_along problem (edges_of taken.trails)) problem.objective
        by (flow ∷ flows) b = bound-by problem is taken.trails taken.steps fits problem.objective refl bound b

    pub not-none : HasFlowWithoutTrail problem → ⊥
    not-none h =
        let t = trail-of-flow problem 0 problem.flows taken.trails h.n h.flow taken.steps (may-all problem is taken.trails taken.steps fits) h.stands in
        let plain : 0 + h.n ≡ h.n = omega arith in
        h.none t.0 (subst (λ m. IsTrailThrough problem (MayAt problem None) m h.flow t.0) plain t.1)
