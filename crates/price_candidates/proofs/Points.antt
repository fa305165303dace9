-- The point that chooses the edges of one path for each flow.
use Rattle.std.proofs.Common.{◌≡◌, ◌≢◌, ℕ, zero, suc, ◌+◌, ◌≤◌, ◌==◌, nat_eq, ◌⊎◌, inl, inr, ◌↔◌, Bool, true, false, cond, ℤ, pos, negsuc, ◌+ℤ◌, List, [], ◌∷◌, ◌++◌, Option, None, Some, slice_get, slice_set, get_or-set_other, refl, sym, ◌∙◌, ap, subst, arith}
use Rattle.std.proofs.lemmas.Int.{ints}
use Rattle.std.specs.List.{AllByRecursion}
use Rattle.merlin_model.specs.Networks.{Pairwise}
use Rattle.merlin_model.specs.Programs.{is_chosen, coefficient_if}
use Rattle.merlin_model.proofs.Members.{In, in_from, in_to, all_in, in_append, in_append-left, in_append-right}
use Rattle.cutoff_program.specs.declared.flow.Problem.{Problem}
use Rattle.cutoff_program.specs.declared.flow.Flow.{Flow}
use Rattle.cutoff_program.specs.declared.flow.Variable.{Variable}
use Rattle.cutoff_program.specs.Flows.{variables_of, last_of, net_out, flow_right, count_if, taken_from, chosen_from}
use Rattle.cutoff_program.specs.Trails.{plus_term, one_at, IsTrailOf, sum_along, comes_to, IsPath, AreNeatFrom}
use Rattle.cutoff_program.specs.Easy.{EachFlowHas}
use Rattle.cutoff_program.specs.Limits.{IsProblem}
use Rattle.price_candidates.specs.Tried.{edges_of}
use Rattle.price_candidates.proofs.Places.{some_some, none_some, false-true, flow-of}
use Rattle.price_candidates.proofs.Columns.{some-last}
use Rattle.price_candidates.proofs.Following.{away, none_there, leaves-at, comes_to-cons}

-- sums of whole numbers along variables
abbrev pub along : List Variable → (Variable → ℤ) → List ℕ → ℤ
along vs f [] = pos 0
along vs f (k ∷ ks) = elim (slice_get vs k) [ None ↦ along vs f ks | Some v ↦ f v +ℤ along vs f ks ]

pub along-cons : (vs : List Variable) (f : Variable → ℤ) (k : ℕ) (ks : List ℕ) (v : Variable) → slice_get vs k ≡ Some v → along vs f (k ∷ ks) ≡ f v +ℤ along vs f ks
along-cons vs f k ks v e = ap (λ o. let g : Option Variable → ℤ = λ x. elim x [ None ↦ along vs f ks | Some w ↦ f w +ℤ along vs f ks ] in g o) e

pub along-append : (vs : List Variable) (f : Variable → ℤ) (ks js : List ℕ) → along vs f (ks ++ js) ≡ along vs f ks +ℤ along vs f js
along-append vs f [] js = omega (arith, ints)
along-append vs f (k ∷ ks) js = by (slice_get vs k) (along-append vs f ks js)
  where
    by : (o : Option Variable) → along vs f (ks ++ js) ≡ along vs f ks +ℤ along vs f js →
        (let g : Option Variable → ℤ → ℤ = λ x t. elim x [ None ↦ t | Some w ↦ f w +ℤ t ] in g o (along vs f (ks ++ js)) ≡ g o (along vs f ks) +ℤ along vs f js)
    by None ih = ih
    by (Some w) ih = omega (arith, ints)

pub along-zero : (vs : List Variable) (f : Variable → ℤ) (ks : List ℕ) → ((k : ℕ) (v : Variable) → In k ks → slice_get vs k ≡ Some v → f v ≡ pos 0) → along vs f ks ≡ pos 0
along-zero vs f [] h = refl
along-zero vs f (k ∷ ks) h = by (slice_get vs k) refl (along-zero vs f ks (λ j v i e. h j v (inr i) e))
  where
    by : (o : Option Variable) → slice_get vs k ≡ o → along vs f ks ≡ pos 0 → (let g : Option Variable → ℤ = λ x. elim x [ None ↦ along vs f ks | Some w ↦ f w +ℤ along vs f ks ] in g o ≡ pos 0)
    by None e ih = ih
    by (Some w) e ih = let z = h k w (inl refl) e in omega (arith, ints)

pub along-sum : (vs : List Variable) (f : Variable → ℕ) (ks : List ℕ) → along vs (λ v. pos (f v)) ks ≡ pos (sum_along vs f ks)
along-sum vs f [] = refl
along-sum vs f (k ∷ ks) = by (slice_get vs k) (along-sum vs f ks)
  where
    by : (o : Option Variable) → along vs (λ v. pos (f v)) ks ≡ pos (sum_along vs f ks) →
        (let g : Option Variable → ℤ = λ x. elim x [ None ↦ along vs (λ v. pos (f v)) ks | Some w ↦ pos (f w) +ℤ along vs (λ v. pos (f v)) ks ] in g o ≡ pos (plus_term f o (sum_along vs f ks)))
    by None ih = ih
    by (Some w) ih = omega (arith, ints)

pub chosen-taken : (n : ℕ) (f : Variable → ℕ) (vs : List Variable) (point : List Bool) → chosen_from n (λ v. pos (f v)) vs point ≡ pos (taken_from n f vs point)
chosen-taken n f [] point = refl
chosen-taken n f (v ∷ vs) point = by (is_chosen point n) (chosen-taken (n + 1) f vs point)
  where
    by : (b : Bool) → chosen_from (n + 1) (λ v. pos (f v)) vs point ≡ pos (taken_from (n + 1) f vs point) → coefficient_if b (pos (f v)) +ℤ chosen_from (n + 1) (λ v. pos (f v)) vs point ≡ pos (count_if b (f v) + taken_from (n + 1) f vs point)
    by true ih = omega (arith, ints)
    by false ih = omega (arith, ints)

-- A point that chooses exactly these variables.

pub record Marks (ks : List ℕ) (point : List Bool) : Type 0 where
  pub to : (k : ℕ) → is_chosen point k ≡ true → In k ks
  pub from : (k : ℕ) → In k ks → is_chosen point k ≡ true

abbrev pub Stands : List Variable → ℕ → Type 0
Stands vs k = (v : Variable) × (slice_get vs k ≡ Some v)

none-chosen : (f : Variable → ℤ) (n : ℕ) (vs : List Variable) (point : List Bool) → ((k : ℕ) → is_chosen point k ≡ true → ⊥) → chosen_from n f vs point ≡ pos 0
none-chosen f n [] point h = refl
none-chosen f n (v ∷ vs) point h = by (is_chosen point n) refl (none-chosen f (n + 1) vs point h)
  where
    by : (b : Bool) → is_chosen point n ≡ b → {t : ℤ} → t ≡ pos 0 → coefficient_if b (f v) +ℤ t ≡ pos 0
    by true e g = absurd (h n e)
    by false e g = omega (arith, ints)

unmark : (k : ℕ) (ks : List ℕ) (point : List Bool) → AllByRecursion (λ j. k ≢ j) ks → Marks (k ∷ ks) point → Marks ks (slice_set point k false)
unmark k ks point apart marks = record {
  to = λ j e. to j e (nat_eq j k) refl;
  from = λ j i. let other : k ≢ j = all_in (λ j. k ≢ j) ks j apart i in get_or-set_other point k j false false (λ e. other (sym e)) ∙ marks.from j (inr i);
}
  where
    to : (j : ℕ) → is_chosen (slice_set point k false) j ≡ true → (b : Bool) → nat_eq j k ≡ b → In j ks
    to j e true s =
        let at : j ≡ k = grind arith in
        absurd (false-true (sym (none_there point k) ∙ ap (is_chosen (slice_set point k false)) (sym at) ∙ e))
    to j e false s =
        let other : j ≢ k = grind arith in
        by (marks.to j (sym (get_or-set_other point k j false false other) ∙ e))
      where
        by : In j (k ∷ ks) → In j ks
        by (inl same) = let other : j ≢ k = grind arith in absurd (other same)
        by (inr i) = i

pub chosen-along : (f : Variable → ℤ) (vs : List Variable) (ks : List ℕ) (point : List Bool) → Pairwise (λ i j. i ≢ j) ks → AllByRecursion (Stands vs) ks → Marks ks point → chosen_from 0 f vs point ≡ along vs f ks
chosen-along f vs [] point apart stand marks = none-chosen f 0 vs point (λ k e. marks.to k e)
chosen-along f vs (k ∷ ks) point apart stand marks =
    let v = stand.0.0 in
    let at : 0 + k ≡ k = omega arith in
    let a = away f 0 vs point k v stand.0.1 (ap (is_chosen point) at ∙ marks.from k (inl refl)) in
    let b = ap (λ j. chosen_from 0 f vs (slice_set point j false) +ℤ f v) at in
    let c = chosen-along f vs ks (slice_set point k false) apart.1 stand.1 (unmark k ks point apart.0 marks) in
    let d = along-cons vs f k ks v stand.0.1 in
    let e = sym b ∙ a in
    omega (arith, ints)

-- Paths take no edge twice.

in-comes : (vs : List Variable) (flow : ℕ) (ks : List ℕ) (a b j : ℕ) (v : Variable) → IsTrailOf vs flow ks a b → In j ks → slice_get vs j ≡ Some v → In v.edge.to (comes_to vs ks)
in-comes vs flow [] a b j v steps i e = i
in-comes vs flow (k ∷ ks) a b j v steps i e = subst (In v.edge.to) (sym (comes_to-cons vs k ks steps.0 steps.1)) (by i (λ i. in-comes vs flow ks steps.0.edge.to b j v steps.4 i e))
  where
    by : In j (k ∷ ks) → (In j ks → In v.edge.to (comes_to vs ks)) → In v.edge.to (steps.0.edge.to ∷ comes_to vs ks)
    by (inl same) ih = inl (ap (λ (w : Variable). w.edge.to) (some_some (sym e ∙ ap (slice_get vs) same ∙ steps.1)))
    by (inr i) ih = inr (ih i)

pub all-from : {X : Type 0} (P : X → Type 0) (xs : List X) → ((x : X) → In x xs → P x) → AllByRecursion P xs
all-from P [] h = tt
all-from P (x ∷ xs) h = (h x (inl refl), all-from P xs (λ y i. h y (inr i)))

pub path-apart : (vs : List Variable) (flow : ℕ) (ks : List ℕ) (a b : ℕ) → IsTrailOf vs flow ks a b → Pairwise (λ x y. x ≢ y) (comes_to vs ks) → Pairwise (λ i j. i ≢ j) ks
path-apart vs flow [] a b steps simple = tt
path-apart vs flow (k ∷ ks) a b steps simple = (
  all-from (λ j. k ≢ j) ks (λ j i e. different (in-comes vs flow ks v.edge.to b j v steps.4 i (ap (slice_get vs) (sym e) ∙ steps.1))),
  path-apart vs flow ks v.edge.to b steps.4 rest.1,
)
  where
    v : Variable
    v = steps.0

    rest : Pairwise (λ x y. x ≢ y) (v.edge.to ∷ comes_to vs ks)
    rest = subst (Pairwise (λ x y. x ≢ y)) (comes_to-cons vs k ks v steps.1) simple

    different : In v.edge.to (comes_to vs ks) → ⊥
    different i = all_in (λ y. v.edge.to ≢ y) (comes_to vs ks) v.edge.to rest.0 i refl

pub trail-at : (vs : List Variable) (flow : ℕ) (ks : List ℕ) (a b k : ℕ) → IsTrailOf vs flow ks a b → In k ks → (v : Variable) × (slice_get vs k ≡ Some v) × (v.flow ≡ flow)
trail-at vs flow [] a b k steps i = absurd i
trail-at vs flow (j ∷ ks) a b k steps (inl e) = (steps.0, ap (slice_get vs) e ∙ steps.1, steps.2)
trail-at vs flow (j ∷ ks) a b k steps (inr i) = trail-at vs flow ks steps.0.edge.to b k steps.4 i

-- All paths.

abbrev pub ArePaths : List Variable → ℕ → List Flow → List (List ℕ) → Type 0
ArePaths vs n flows paths = EachFlowHas (λ n flow path. IsPath vs n path 0 (last_of flow)) n flows paths

pub later : (vs : List Variable) (n : ℕ) (flows : List Flow) (paths : List (List ℕ)) (k : ℕ) → ArePaths vs n flows paths → In k (edges_of paths) → (v : Variable) × (slice_get vs k ≡ Some v) × (n ≤ v.flow)
later vs n [] [] k are i = absurd i
later vs n [] (path ∷ paths) k are i = absurd are
later vs n (flow ∷ flows) [] k are i = absurd are
later vs n (flow ∷ flows) (path ∷ paths) k are i = by (in_append path (edges_of paths) k i) (λ j. later vs (n + 1) flows paths k are.1 j)
  where
    by : In k path ⊎ In k (edges_of paths) → (In k (edges_of paths) → (v : Variable) × (slice_get vs k ≡ Some v) × (n + 1 ≤ v.flow)) → (v : Variable) × (slice_get vs k ≡ Some v) × (n ≤ v.flow)
    by (inl j) ih = let t = trail-at vs n path 0 (last_of flow) k are.0.steps j in (t.0, t.1, (let s = t.2 in omega arith))
    by (inr j) ih = let t = ih j in (t.0, t.1, (let s = t.2 in omega arith))

pairwise-append : (xs ys : List ℕ) → Pairwise (λ i j. i ≢ j) xs → Pairwise (λ i j. i ≢ j) ys → ((x y : ℕ) → In x xs → In y ys → x ≢ y) → Pairwise (λ i j. i ≢ j) (xs ++ ys)
pairwise-append [] ys a b h = b
pairwise-append (x ∷ xs) ys a b h = (both xs ys a.0 (all-from (λ y. x ≢ y) ys (λ y i. h x y (inl refl) i)), pairwise-append xs ys a.1 b (λ z y i j. h z y (inr i) j))
  where
    both : (xs ys : List ℕ) → AllByRecursion (λ j. x ≢ j) xs → AllByRecursion (λ j. x ≢ j) ys → AllByRecursion (λ j. x ≢ j) (xs ++ ys)
    both [] ys a b = b
    both (z ∷ zs) ys a b = (a.0, both zs ys a.1 b)

pub paths-apart : (vs : List Variable) (n : ℕ) (flows : List Flow) (paths : List (List ℕ)) → ArePaths vs n flows paths → Pairwise (λ i j. i ≢ j) (edges_of paths)
paths-apart vs n [] [] are = tt
paths-apart vs n [] (path ∷ paths) are = absurd are
paths-apart vs n (flow ∷ flows) [] are = absurd are
paths-apart vs n (flow ∷ flows) (path ∷ paths) are =
    pairwise-append path (edges_of paths) (path-apart vs n path 0 (last_of flow) are.0.steps are.0.simple.1) (paths-apart vs (n + 1) flows paths are.1)
    (λ x y i j e.
    let s = trail-at vs n path 0 (last_of flow) x are.0.steps i in
    let t = later vs (n + 1) flows paths y are.1 j in
    let same = ap (λ (w : Variable). w.flow) (some_some (sym s.1 ∙ ap (slice_get vs) e ∙ t.1)) in
    let a = s.2 in let b = t.2 in
    omega arith)

pub paths-stand : (vs : List Variable) (n : ℕ) (flows : List Flow) (paths : List (List ℕ)) → ArePaths vs n flows paths → AllByRecursion (Stands vs) (edges_of paths)
paths-stand vs n flows paths are = all-from (Stands vs) (edges_of paths) (λ k i. let t = later vs n flows paths k are i in (t.0, t.1))

-- One unit goes along each path.

leaves-none : (m u : ℕ) (v : Variable) → v.flow ≢ m → net_out m u v ≡ pos 0
leaves-none m u v h = by (v.flow == m) refl
  where
    by : (b : Bool) → (v.flow == m) ≡ b → cond b (cond (v.edge.from == u) (pos 1) (cond (v.edge.to == u) (negsuc 0) (pos 0))) (pos 0) ≡ pos 0
    by true e = let bad : ⊥ = grind arith in absurd bad
    by false e = refl

balance : (problem : Problem) → IsProblem problem → (flow u : ℕ) (ks : List ℕ) (a b : ℕ) → IsTrailOf (variables_of problem) flow ks a b → along (variables_of problem) (net_out flow u) ks +ℤ one_at (u == b) ≡ one_at (u == a)
balance problem is flow u [] a b steps = let s = ap (λ x. one_at (u == x)) steps in omega (arith, ints)
balance problem is flow u (k ∷ ks) a b steps =
    let v = steps.0 in
    let f = flow-of problem k v is steps.1 in
    let c = along-cons (variables_of problem) (net_out flow u) k ks v steps.1 in
    let l = leaves-at flow u v steps.2 f.edge.apart in
    let ih = balance problem is flow u ks v.edge.to b steps.4 in
    let s = ap (λ x. one_at (u == x)) steps.3 in
    omega (arith, ints)

pub paths-balance : (problem : Problem) → IsProblem problem → (m u n j : ℕ) (flows : List Flow) (paths : List (List ℕ)) (flow : Flow) → ArePaths (variables_of problem) n flows paths → m ≡ n + j → slice_get flows j ≡ Some flow →
    along (variables_of problem) (net_out m u) (edges_of paths) +ℤ one_at (u == last_of flow) ≡ one_at (u == 0)
paths-balance problem is m u n j [] paths flow are e s = absurd (none_some s)
paths-balance problem is m u n j (f ∷ flows) [] flow are e s = absurd are
paths-balance problem is m u n zero (f ∷ flows) (path ∷ paths) flow are e s =
    let at : n ≡ m = omega arith in
    let size : last_of f ≡ last_of flow = ap last_of (some_some s) in
    let first = balance problem is n u path 0 (last_of f) are.0.steps in
    let a = ap (λ i. along (variables_of problem) (net_out i u) path) at in
    let b = ap (λ i. one_at (u == i)) size in
    let rest = along-zero (variables_of problem) (net_out m u) (edges_of paths) (λ k v i t. leaves-none m u v (λ w.
    let l = later (variables_of problem) (n + 1) flows paths k are.1 i in
    let same = ap (λ (x : Variable). x.flow) (some_some (sym t ∙ l.1)) in
    let g = l.2 in omega arith)) in
    let c = along-append (variables_of problem) (net_out m u) path (edges_of paths) in
    omega (arith, ints)
paths-balance problem is m u n (suc j) (f ∷ flows) (path ∷ paths) flow are e s =
    let rest = paths-balance problem is m u (n + 1) j flows paths flow are.1 (omega arith) s in
    let first = along-zero (variables_of problem) (net_out m u) path (λ k v i t. leaves-none m u v (λ w.
    let l = trail-at (variables_of problem) n path 0 (last_of f) k are.0.steps i in
    let same = ap (λ (x : Variable). x.flow) (some_some (sym t ∙ l.1)) in
    let g = l.2 in omega arith)) in
    let c = along-append (variables_of problem) (net_out m u) path (edges_of paths) in
    omega (arith, ints)

pub to-right : (flow : Flow) (u : ℕ) (t : ℤ) → t +ℤ one_at (u == last_of flow) ≡ one_at (u == 0) → t ≡ flow_right flow u
to-right flow u t h = by (u == 0) refl (u == last_of flow) refl h
  where
    by : (b : Bool) → (u == 0) ≡ b → (c : Bool) → (u == last_of flow) ≡ c → t +ℤ one_at c ≡ one_at b → t ≡ cond b (pos 1) (cond c (negsuc 0) (pos 0))
    by true e true f h = let l = some-last flow in let bad : ⊥ = grind arith in absurd bad
    by true e false f h = omega (arith, ints)
    by false e true f h = omega (arith, ints)
    by false e false f h = omega (arith, ints)

-- The point is neat.
pub neat-from : (problem : Problem) (point : List Bool) (n : ℕ) (flows : List Flow) (paths : List (List ℕ)) → ArePaths (variables_of problem) n flows paths →
    ((k : ℕ) (v : Variable) → slice_get (variables_of problem) k ≡ Some v → n ≤ v.flow → (is_chosen point k ≡ true) ↔ In k (edges_of paths)) → AreNeatFrom (variables_of problem) point n flows
neat-from problem point n [] [] are h = tt
neat-from problem point n [] (path ∷ paths) are h = absurd are
neat-from problem point n (flow ∷ flows) [] are h = absurd are
neat-from problem point n (flow ∷ flows) (path ∷ paths) are h = (
  record {
    path = path;
    is_path = are.0;
    chosen = λ k v e f.
        let both = h k v e (omega arith) in
        (λ c. in_to path k (own k v e f (in_append path (edges_of paths) k (both.0 c))), λ c. both.1 (in_append-left path (edges_of paths) k (in_from path k c)));
  },
  neat-from problem point (n + 1) flows paths are.1 (λ k v e f.
      let both = h k v e (omega arith) in
      (λ c. others k v e f (in_append path (edges_of paths) k (both.0 c)), λ c. both.1 (in_append-right path (edges_of paths) k c))),
)
  where
    own : (k : ℕ) (v : Variable) → slice_get (variables_of problem) k ≡ Some v → v.flow ≡ n → In k path ⊎ In k (edges_of paths) → In k path
    own k v e f (inl i) = i
    own k v e f (inr i) =
        let l = later (variables_of problem) (n + 1) flows paths k are.1 i in
        let same = ap (λ (x : Variable). x.flow) (some_some (sym e ∙ l.1)) in
        let g = l.2 in let bad : ⊥ = omega arith in absurd bad

    others : (k : ℕ) (v : Variable) → slice_get (variables_of problem) k ≡ Some v → n + 1 ≤ v.flow → In k path ⊎ In k (edges_of paths) → In k (edges_of paths)
    others k v e f (inr i) = i
    others k v e f (inl i) =
        let l = trail-at (variables_of problem) n path 0 (last_of flow) k are.0.steps i in
        let same = ap (λ (x : Variable). x.flow) (some_some (sym e ∙ l.1)) in
        let g = l.2 in let bad : ⊥ = omega arith in absurd bad
