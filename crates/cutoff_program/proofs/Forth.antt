-- Paths give solutions.
use Rattle.std.proofs.Common.{◌≡◌, ◌≢◌, ℕ, ◌+◌, ◌≤◌, ◌<◌, ◌==◌, ◌⊎◌, inl, inr, Bool, true, false, cond, ℤ, pos, negsuc, ◌+ℤ◌, ◌≤ℤ◌, List, [], ◌∷◌, ◌++◌, append_assoc, length, Option, None, Some, slice_get, refl, sym, ◌∙◌, ap, ap₂, subst, arith}
use Rattle.std.proofs.lemmas.Int.{ints}
use Rattle.std.specs.List.{AllByRecursion}
use Rattle.merlin_model.specs.declared.network.DirectedLink.{DirectedLink}
use Rattle.merlin_model.specs.Networks.{AreDifferent}
use Rattle.merlin_model.proofs.Members.{In, in_from, in_to, all_in, in_append, in_append-left, in_append-right}
use Rattle.cutoff_program.specs.Flows.{Flow, Problem, Variable, variables_of, last_of, net_out, rate_over, cost_of_variable, taken_from, length_of, load_at, loads_from, value_by, cutoff_of, is_below}
use Rattle.cutoff_program.specs.Limits.{IsProblem}
use Rattle.cutoff_program.specs.Trails.{IsTrailOf, sum_along, plus_term, one_at, ArePathsFrom, ArePaths, AreNeatFrom, IsNeat, edges_of, point_with, loads_along, value_along, AreTrailsFrom, FitsCapacities, IsPointOf, HasPaths}
use Rattle.cutoff_program.proofs.Lists.{all_both, all_so, some_some, within_length}
use Rattle.cutoff_program.proofs.Following.{leaves-at, each-at}
use Rattle.cutoff_program.proofs.Shortening.{shorten}
use Rattle.cutoff_program.proofs.Rooms.{room-none}
use Rattle.cutoff_program.proofs.Values.{AreNoMore, lower-value}
use Rattle.cutoff_program.proofs.Sums.{taken-most}
use Rattle.cutoff_program.proofs.Variables.{IsVariable, are_variables}
use Rattle.cutoff_program.proofs.Solutions.{IsWithin, IsMet, total_of, length-counted, met-solution}
use Rattle.cutoff_program.proofs.Cutoffs.{has_cutoffs, positive-loads}
use Rattle.cutoff_program.proofs.Points.{point-length, in-chosen, chosen-in, point-sum, point-sum_z, sum_z, with_term_z, sum_z-cons, IsOf, trail-of, trail-different, different-both}
use Rattle.cutoff_program.proofs.Balance.{AreBalancedFrom, balanced-rows}

-- The edges of paths: each is of a flow, and no two are equal.

abbrev pub IsFrom : List Variable → ℕ → ℕ → Type 0
IsFrom variables n k = (v : Variable) × (slice_get variables k ≡ Some v) × (n ≤ v.flow)

abbrev pub IsBefore : List Variable → ℕ → ℕ → Type 0
IsBefore variables n k = (v : Variable) × (slice_get variables k ≡ Some v) × (v.flow < n)

pub edges-from : (variables : List Variable) (n : ℕ) (flows : List Flow) (paths : List (List ℕ)) → ArePathsFrom variables n flows paths → AllByRecursion (IsFrom variables n) (edges_of paths)
edges-from variables n [] [] are = tt
edges-from variables n (flow ∷ flows) (path ∷ paths) are =
    all_both (IsFrom variables n) path (edges_of paths)
    (all_so (IsOf variables n) (IsFrom variables n) path (λ k is. (is.0, is.1, (let e = is.2 in omega arith))) (trail-of variables n path 0 (last_of flow) are.0.steps))
    (all_so (IsFrom variables (n + 1)) (IsFrom variables n) (edges_of paths) (λ k is. (is.0, is.1, (let e = is.2 in omega arith))) (edges-from variables (n + 1) flows paths are.1))
edges-from variables n [] (path ∷ paths) are = absurd are
edges-from variables n (flow ∷ flows) [] are = absurd are

pub edges-below : (variables : List Variable) (n : ℕ) (flows : List Flow) (paths : List (List ℕ)) → ArePathsFrom variables n flows paths → AllByRecursion (λ k. k < length variables) (edges_of paths)
edges-below variables n flows paths are = all_so (IsFrom variables n) (λ k. k < length variables) (edges_of paths) (λ k is. within_length variables k is.0 is.1) (edges-from variables n flows paths are)

pub edges-different : (variables : List Variable) (n : ℕ) (flows : List Flow) (paths : List (List ℕ)) → ArePathsFrom variables n flows paths → AreDifferent (edges_of paths)
edges-different variables n [] [] are = tt
edges-different variables n (flow ∷ flows) (path ∷ paths) are =
    different-both path (edges_of paths) (trail-different variables n path 0 (last_of flow) are.0.steps are.0.simple.1) (edges-different variables (n + 1) flows paths are.1)
    (all_so (IsOf variables n) (λ j. AllByRecursion (λ k. j ≢ k) (edges_of paths)) path
    (λ j is. all_so (IsFrom variables (n + 1)) (λ k. j ≢ k) (edges_of paths)
    (λ k later e. clash is.0 later.0 is.2 later.2 (some_some (sym is.1 ∙ ap (slice_get variables) e ∙ later.1))) (edges-from variables (n + 1) flows paths are.1))
    (trail-of variables n path 0 (last_of flow) are.0.steps))
  where
    clash : (v w : Variable) → v.flow ≡ n → n + 1 ≤ w.flow → v ≡ w → ⊥
    clash v w e h s = let f : v.flow ≡ w.flow = ap (λ x. x.flow) s in let bad : ⊥ = omega arith in bad
edges-different variables n [] (path ∷ paths) are = absurd are
edges-different variables n (flow ∷ flows) [] are = absurd are

-- What net_out a vertex along paths.

pub sum_z-append : (variables : List Variable) (f : Variable → ℤ) (xs ys : List ℕ) → sum_z variables f (xs ++ ys) ≡ sum_z variables f xs +ℤ sum_z variables f ys
sum_z-append variables f [] ys = omega (arith, ints)
sum_z-append variables f (x ∷ xs) ys = ap (with_term_z f (slice_get variables x)) (sum_z-append variables f xs ys) ∙ by (slice_get variables x) (sum_z variables f xs) (sum_z variables f ys)
  where
    by : (o : Option Variable) (a b : ℤ) → with_term_z f o (a +ℤ b) ≡ with_term_z f o a +ℤ b
    by None a b = refl
    by (Some v) a b = more (f v) a b
      where
        more : (x a b : ℤ) → x +ℤ (a +ℤ b) ≡ x +ℤ a +ℤ b
        more x a b = omega (arith, ints)

-- edges of other flows leave nothing
leaves-other : (n u : ℕ) (v : Variable) → v.flow ≢ n → net_out n u v ≡ pos 0
leaves-other n u v h = by (v.flow == n) refl
  where
    by : (a : Bool) → (v.flow == n) ≡ a → cond a (cond (v.edge.from == u) (pos 1) (cond (v.edge.to == u) (negsuc 0) (pos 0))) (pos 0) ≡ pos 0
    by true e = let same : v.flow ≡ n = grind arith in absurd (h same)
    by false e = refl

sum-other : (variables : List Variable) (n u : ℕ) (ks : List ℕ) → AllByRecursion (λ k. (v : Variable) × (slice_get variables k ≡ Some v) × (v.flow ≢ n)) ks → sum_z variables (net_out n u) ks ≡ pos 0
sum-other variables n u [] all = refl
sum-other variables n u (k ∷ ks) all =
    let ih = sum-other variables n u ks all.1 in
    let one = sum_z-cons variables (net_out n u) k ks all.0.0 all.0.1 in
    let nil = leaves-other n u all.0.0 all.0.2 in
    chain _ _ _ one nil ih
  where
    chain : (s l t : ℤ) → s ≡ l +ℤ t → l ≡ pos 0 → t ≡ pos 0 → s ≡ pos 0
    chain s l t a b c = omega (arith, ints)

telescope : (variables : List Variable) (n u : ℕ) (ks : List ℕ) (from to : ℕ) → AllByRecursion (λ v. v.edge.from ≢ v.edge.to) variables → IsTrailOf variables n ks from to →
    sum_z variables (net_out n u) ks +ℤ one_at (u == to) ≡ one_at (u == from)
telescope variables n u [] from to apart t = first (one_at (u == to)) ∙ ap (λ x. one_at (u == x)) (sym t)
  where
    first : (z : ℤ) → pos 0 +ℤ z ≡ z
    first z = omega (arith, ints)
telescope variables n u (k ∷ ks) from to apart t =
    let ih = telescope variables n u ks t.0.edge.to to apart t.4 in
    let one = sum_z-cons variables (net_out n u) k ks t.0 t.1 in
    let here = leaves-at n u t.0 t.2 (each-at (λ v. v.edge.from ≢ v.edge.to) variables k t.0 apart t.1) in
    let at = ap (λ x. one_at (u == x)) t.3 in
    chain _ _ _ _ _ _ _ one ih here at
  where
    chain : (s l t to mid at from : ℤ) → s ≡ l +ℤ t → t +ℤ to ≡ mid → l +ℤ mid ≡ at → at ≡ from → s +ℤ to ≡ from
    chain s l t to mid at from a b c d = omega (arith, ints)

-- each flow is balanced along some edges
abbrev pub AreSumsFrom : List Variable → List ℕ → ℕ → List Flow → Type 0
AreSumsFrom variables ks n [] = Unit {0}
AreSumsFrom variables ks n (flow ∷ flows) = ((u : ℕ) → sum_z variables (net_out n u) ks +ℤ one_at (u == last_of flow) ≡ one_at (u == 0)) × AreSumsFrom variables ks (n + 1) flows

sums-from : (variables : List Variable) (n : ℕ) (flows : List Flow) (paths : List (List ℕ)) (before : List ℕ) → AllByRecursion (λ v. v.edge.from ≢ v.edge.to) variables → ArePathsFrom variables n flows paths →
    AllByRecursion (IsBefore variables n) before → AreSumsFrom variables (before ++ edges_of paths) n flows
sums-from variables n [] [] before apart are earlier = tt
sums-from variables n (flow ∷ flows) (path ∷ paths) before apart are earlier = (
  (λ u.
      let first = sum_z-append variables (net_out n u) before (path ++ edges_of paths) in
      let second = sum_z-append variables (net_out n u) path (edges_of paths) in
      let nil = sum-other variables n u before (all_so (IsBefore variables n) (λ k. (v : Variable) × (slice_get variables k ≡ Some v) × (v.flow ≢ n)) before (λ k is. (is.0, is.1, (λ e. let h = is.2 in let bad : ⊥ = omega arith in bad))) earlier) in
      let none = sum-other variables n u (edges_of paths)
      (all_so (IsFrom variables (n + 1)) (λ k. (v : Variable) × (slice_get variables k ≡ Some v) × (v.flow ≢ n)) (edges_of paths) (λ k is. (is.0, is.1, (λ e. let h = is.2 in let bad : ⊥ = omega arith in bad)))
      (edges-from variables (n + 1) flows paths are.1)) in
      let mine = telescope variables n u path 0 (last_of flow) apart are.0.steps in
      chain _ _ _ _ _ _ _ first second nil none mine),
  subst (λ ks. AreSumsFrom variables ks (n + 1) flows) (append_assoc before path (edges_of paths))
      (sums-from variables (n + 1) flows paths (before ++ path) apart are.1
      (all_both (IsBefore variables (n + 1)) before path
      (all_so (IsBefore variables n) (IsBefore variables (n + 1)) before (λ k is. (is.0, is.1, (let h = is.2 in omega arith))) earlier)
      (all_so (IsOf variables n) (IsBefore variables (n + 1)) path (λ k is. (is.0, is.1, (let h = is.2 in omega arith))) (trail-of variables n path 0 (last_of flow) are.0.steps)))),
)
  where
    chain : (s a p q r to at : ℤ) → s ≡ a +ℤ p → p ≡ q +ℤ r → a ≡ pos 0 → r ≡ pos 0 → q +ℤ to ≡ at → s +ℤ to ≡ at
    chain s a p q r to at h g i j k = omega (arith, ints)
sums-from variables n [] (path ∷ paths) before apart are earlier = absurd are
sums-from variables n (flow ∷ flows) [] before apart are earlier = absurd are

sums-balanced : (variables : List Variable) (ks : List ℕ) (n : ℕ) (flows : List Flow) → AllByRecursion (λ k. k < length variables) ks → AreDifferent ks → AreSumsFrom variables ks n flows →
    AreBalancedFrom variables (point_with (length variables) ks) n flows
sums-balanced variables ks n [] below apart all = tt
sums-balanced variables ks n (flow ∷ flows) below apart all =
    ((λ u. ap (λ z. z +ℤ one_at (u == last_of flow)) (point-sum_z variables (net_out n u) ks below apart) ∙ all.0 u), sums-balanced variables ks (n + 1) flows below apart all.1)

pub loads-same : (load other : ℕ → ℕ) → ((l : ℕ) → load l ≡ other l) → (n : ℕ) (links : List DirectedLink) → loads_from load n links ≡ loads_from other n links
loads-same load other h n [] = refl
loads-same load other h n (directed ∷ links) = ap₂ (λ x rest. (x, directed.capacity) ∷ rest) (h n) (loads-same load other h (n + 1) links)

-- Neat.

neat-from : (variables : List Variable) (n : ℕ) (flows : List Flow) (paths : List (List ℕ)) (before : List ℕ) → ArePathsFrom variables n flows paths → AllByRecursion (IsBefore variables n) before →
    AreNeatFrom variables (point_with (length variables) (before ++ edges_of paths)) n flows
neat-from variables n [] [] before are earlier = tt
neat-from variables n (flow ∷ flows) (path ∷ paths) before are earlier = (
  record {
    path = path;
    is_path = are.0;
    chosen = λ k v s f. (
      (λ c. in_to path k (among k v s f (in_append before (path ++ edges_of paths) k (chosen-in (length variables) (before ++ (path ++ edges_of paths)) k c)))),
      (λ i. in-chosen (length variables) (before ++ (path ++ edges_of paths)) k (within_length variables k v s) (in_append-right before (path ++ edges_of paths) k (in_append-left path (edges_of paths) k (in_from path k i)))),
    );
  },
  subst (λ ks. AreNeatFrom variables (point_with (length variables) ks) (n + 1) flows) (append_assoc before path (edges_of paths))
      (neat-from variables (n + 1) flows paths (before ++ path) are.1
      (all_both (IsBefore variables (n + 1)) before path
      (all_so (IsBefore variables n) (IsBefore variables (n + 1)) before (λ k is. (is.0, is.1, (let h = is.2 in omega arith))) earlier)
      (all_so (IsOf variables n) (IsBefore variables (n + 1)) path (λ k is. (is.0, is.1, (let h = is.2 in omega arith))) (trail-of variables n path 0 (last_of flow) are.0.steps)))),
)
  where
    clash : (v w : Variable) → v.flow ≡ n → w.flow < n → v ≡ w → ⊥
    clash v w e h s = let f : v.flow ≡ w.flow = ap (λ x. x.flow) s in let bad : ⊥ = omega arith in bad

    later : (v w : Variable) → v.flow ≡ n → n + 1 ≤ w.flow → v ≡ w → ⊥
    later v w e h s = let f : v.flow ≡ w.flow = ap (λ x. x.flow) s in let bad : ⊥ = omega arith in bad

    inner : (k : ℕ) (v : Variable) → slice_get variables k ≡ Some v → v.flow ≡ n → In k path ⊎ In k (edges_of paths) → In k path
    inner k v s f (inl i) = i
    inner k v s f (inr i) = let is = all_in (IsFrom variables (n + 1)) (edges_of paths) k (edges-from variables (n + 1) flows paths are.1) i in absurd (later v is.0 f is.2 (some_some (sym s ∙ is.1)))

    among : (k : ℕ) (v : Variable) → slice_get variables k ≡ Some v → v.flow ≡ n → In k before ⊎ In k (path ++ edges_of paths) → In k path
    among k v s f (inl i) = let is = all_in (IsBefore variables n) before k earlier i in absurd (clash v is.0 f is.2 (some_some (sym s ∙ is.1)))
    among k v s f (inr i) = inner k v s f (in_append path (edges_of paths) k i)
neat-from variables n [] (path ∷ paths) before are earlier = absurd are
neat-from variables n (flow ∷ flows) [] before are earlier = absurd are

-- Together.

module _ (problem : Problem) (is : IsProblem problem) (paths : List (List ℕ)) (are : ArePaths problem paths) where
  abbrev pub point_is : List Bool
  point_is = point_with (length (variables_of problem)) (edges_of paths)

  pub sum-is : (f : Variable → ℕ) → taken_from 0 f (variables_of problem) point_is ≡ sum_along (variables_of problem) f (edges_of paths)
  sum-is f = point-sum (variables_of problem) f (edges_of paths) (edges-below (variables_of problem) 0 problem.flows paths are) (edges-different (variables_of problem) 0 problem.flows paths are)

  loads-is : loads_from (load_at problem point_is) 0 problem.links ≡ loads_along problem (edges_of paths)
  loads-is = loads-same (load_at problem point_is) (λ l. sum_along (variables_of problem) (rate_over l) (edges_of paths)) (λ l. sum-is (rate_over l)) 0 problem.links

  pub value-is : cutoff_of problem point_is ≡ value_along problem (edges_of paths)
  value-is = ap₂ (value_by problem.objective) (sum-is (cost_of_variable problem)) loads-is

  as_z : (m n : ℕ) → m ≤ n → pos m ≤ℤ pos n
  as_z m n h = omega (arith, ints)

  apart : AllByRecursion (λ v. v.edge.from ≢ v.edge.to) (variables_of problem)
  apart = all_so (IsVariable problem.links) (λ v. v.edge.from ≢ v.edge.to) (variables_of problem) (λ v i. i.apart) (are_variables problem is)

  pub met : FitsCapacities problem (edges_of paths) → IsMet problem None point_is
  met fits = record {
    size = point-length (length (variables_of problem)) (edges_of paths);
    flows = balanced-rows problem point_is 0 problem.flows
        (sums-balanced (variables_of problem) (edges_of paths) 0 problem.flows (edges-below (variables_of problem) 0 problem.flows paths are) (edges-different (variables_of problem) 0 problem.flows paths are)
        (sums-from (variables_of problem) 0 problem.flows paths [] apart are tt));
    links = subst (AllByRecursion (IsWithin problem.objective None)) (sym loads-is)
        (all_so (λ l. l.0 ≤ l.1) (IsWithin problem.objective None) (loads_along problem (edges_of paths)) (λ l h. subst (λ r. pos l.0 ≤ℤ r) (sym (room-none problem.objective l.1)) (as_z l.0 l.1 h)) fits);
    length = as_z _ _ (subst (λ n. n ≤ total_of problem) (length-counted problem.objective problem point_is) (taken-most 0 (length_of problem.objective problem) (variables_of problem) point_is));
  }

  pub neat : IsNeat problem point_is
  neat = neat-from (variables_of problem) 0 problem.flows paths [] are tt

  pub is_point : FitsCapacities problem (edges_of paths) → IsPointOf problem paths point_is
  is_point fits = record {
    solution = met-solution problem None point_is (met fits);
    better = λ z t below. (has_cutoffs problem is).reaches z point_is t (met-solution problem None point_is (met fits)) (ap (λ v. is_below v z) value-is ∙ below);
    neat = neat;
    value = value-is;
  }

-- Trails are shortened first.

pub sum-append : (variables : List Variable) (f : Variable → ℕ) (xs ys : List ℕ) → sum_along variables f (xs ++ ys) ≡ sum_along variables f xs + sum_along variables f ys
sum-append variables f [] ys = omega arith
sum-append variables f (x ∷ xs) ys = ap (plus_term f (slice_get variables x)) (sum-append variables f xs ys) ∙ by (slice_get variables x) (sum_along variables f xs) (sum_along variables f ys)
  where
    by : (o : Option Variable) (a b : ℕ) → plus_term f o (a + b) ≡ plus_term f o a + b
    by None a b = refl
    by (Some v) a b = omega arith

record AreShortened (variables : List Variable) (n : ℕ) (flows : List Flow) (trails : List (List ℕ)) : Type 0 where
  pub paths : List (List ℕ)
  pub are_paths : ArePathsFrom variables n flows paths
  pub no_more : (f : Variable → ℕ) → sum_along variables f (edges_of paths) ≤ sum_along variables f (edges_of trails)

shorten-all : (variables : List Variable) (n : ℕ) (flows : List Flow) (trails : List (List ℕ)) → AreTrailsFrom variables n flows trails → AreShortened variables n flows trails
shorten-all variables n [] [] are = record { paths = []; are_paths = tt; no_more = λ f. omega arith }
shorten-all variables n (flow ∷ flows) (trail ∷ trails) are =
    let one = shorten variables n trail 0 (last_of flow) are.0 in
    let rest = shorten-all variables (n + 1) flows trails are.1 in
    record {
      paths = one.path ∷ rest.paths;
      are_paths = (one.is_path, rest.are_paths);
      no_more = λ f. both _ _ _ _ _ _ (sum-append variables f one.path (edges_of rest.paths)) (sum-append variables f trail (edges_of trails)) (one.no_more f) (rest.no_more f);
    }
  where
    both : (s a b t c d : ℕ) → s ≡ a + b → t ≡ c + d → a ≤ c → b ≤ d → s ≤ t
    both s a b t c d h g i j = omega arith
shorten-all variables n [] (trail ∷ trails) are = absurd are
shorten-all variables n (flow ∷ flows) [] are = absurd are

pub loads-no_more : (load other : ℕ → ℕ) → ((l : ℕ) → load l ≤ other l) → (n : ℕ) (links : List DirectedLink) → AreNoMore (loads_from load n links) (loads_from other n links)
loads-no_more load other h n [] = tt
loads-no_more load other h n (directed ∷ links) = ((h n, refl), loads-no_more load other h (n + 1) links)

pub fits-no_more : (ls ms : List (ℕ × ℕ)) → AreNoMore ls ms → AllByRecursion (λ l. l.0 ≤ l.1) ms → AllByRecursion (λ l. l.0 ≤ l.1) ls
fits-no_more [] [] n all = tt
fits-no_more (l ∷ ls) (m ∷ ms) n all = (let a = n.0.0 in let b = n.0.1 in let c = all.0 in omega arith, fits-no_more ls ms n.1 all.1)
fits-no_more [] (m ∷ ms) n all = tt
fits-no_more (l ∷ ls) [] n all = absurd n

pub has_paths : (problem : Problem) (trails : List (List ℕ)) → IsProblem problem → AreTrailsFrom (variables_of problem) 0 problem.flows trails → HasPaths problem trails
has_paths problem trails is are =
    let s = shorten-all (variables_of problem) 0 problem.flows trails are in
    let less = loads-no_more (λ l. sum_along (variables_of problem) (rate_over l) (edges_of s.paths)) (λ l. sum_along (variables_of problem) (rate_over l) (edges_of trails)) (λ l. s.no_more (rate_over l)) 0 problem.links in
    record {
      paths = s.paths;
      are_paths = s.are_paths;
      fits = fits-no_more (loads_along problem (edges_of s.paths)) (loads_along problem (edges_of trails)) less;
      no_more = λ z t below. lower-value problem.objective z (sum_along (variables_of problem) (cost_of_variable problem) (edges_of s.paths)) (sum_along (variables_of problem) (cost_of_variable problem) (edges_of trails))
          (loads_along problem (edges_of s.paths)) (loads_along problem (edges_of trails)) t (s.no_more (cost_of_variable problem)) less
          (positive-loads (λ l. sum_along (variables_of problem) (rate_over l) (edges_of trails)) 0 problem.links is.links) below;
    }
