-- The point of some places, and sums over it.
use Rattle.std.proofs.Common.{◌≡◌, ◌≢◌, ℕ, zero, suc, ◌+◌, ◌<◌, ◌==◌, inl, inr, Bool, true, false, ℤ, pos, ◌+ℤ◌, List, [], ◌∷◌, ◌++◌, length, length-set, replicate, Option, None, Some, slice_get, slice_set, get_or-set_same, get_or-set_other, refl, sym, ◌∙◌, ap, subst, arith}
use Rattle.std.proofs.lemmas.Int.{ints}
use Rattle.std.proofs.lemmas.Bool.{eqb-true}
use Rattle.std.specs.List.{AllByRecursion}
use Rattle.merlin_model.specs.Networks.{AreDifferent}
use Rattle.merlin_model.specs.Programs.{is_chosen, coefficient_if}
use Rattle.merlin_model.proofs.Members.{In}
use Rattle.cutoff_program.specs.Flows.{Variable, count_if, taken_from, chosen_from}
use Rattle.cutoff_program.specs.Trails.{IsTrailOf, sum_along, comes_to, point_with}
use Rattle.cutoff_program.proofs.Lists.{some_some, stands, all_both}
use Rattle.cutoff_program.proofs.Rooms.{false_true}
use Rattle.cutoff_program.proofs.Following.{away, away-count, sum-cons}
use Rattle.cutoff_program.proofs.Shortening.{comes_to-cons}

-- Which places are 1.

replicate-length : (size : ℕ) → length (replicate size false) ≡ size
replicate-length zero = refl
replicate-length (suc size) = ap suc (replicate-length size)

none-chosen : (size k : ℕ) → is_chosen (replicate size false) k ≡ false
none-chosen zero k = refl
none-chosen (suc size) zero = refl
none-chosen (suc size) (suc k) = none-chosen size k

pub point-length : (size : ℕ) (ks : List ℕ) → length (point_with size ks) ≡ size
point-length size [] = replicate-length size
point-length size (k ∷ ks) = length-set (point_with size ks) k true ∙ point-length size ks

pub not-chosen : (size : ℕ) (ks : List ℕ) (k : ℕ) → AllByRecursion (λ j. k ≢ j) ks → is_chosen (point_with size ks) k ≡ false
not-chosen size [] k all = none-chosen size k
not-chosen size (j ∷ ks) k all = get_or-set_other (point_with size ks) j k true false all.0 ∙ not-chosen size ks k all.1

pub in-chosen : (size : ℕ) (ks : List ℕ) (k : ℕ) → k < size → In k ks → is_chosen (point_with size ks) k ≡ true
in-chosen size [] k h i = absurd i
in-chosen size (j ∷ ks) k h i = by (k == j) refl i (in-chosen size ks k h)
  where
    at : k ≡ j → is_chosen (point_with size (j ∷ ks)) k ≡ true
    at e = ap (is_chosen (point_with size (j ∷ ks))) e ∙ get_or-set_same (point_with size ks) j true false (let l = point-length size ks in omega arith)

    by : (b : Bool) → (k == j) ≡ b → In k (j ∷ ks) → (In k ks → is_chosen (point_with size ks) k ≡ true) → is_chosen (point_with size (j ∷ ks)) k ≡ true
    by true e i ih = at (eqb-true k j e)
    by false e (inl s) ih = at s
    by false e (inr r) ih = let other : k ≢ j = grind arith in get_or-set_other (point_with size ks) j k true false other ∙ ih r

pub chosen-in : (size : ℕ) (ks : List ℕ) (k : ℕ) → is_chosen (point_with size ks) k ≡ true → In k ks
chosen-in size [] k c = absurd (false_true (sym (none-chosen size k) ∙ c))
chosen-in size (j ∷ ks) k c = by (k == j) refl (chosen-in size ks k)
  where
    by : (b : Bool) → (k == j) ≡ b → (is_chosen (point_with size ks) k ≡ true → In k ks) → In k (j ∷ ks)
    by true e ih = inl (eqb-true k j e)
    by false e ih = let other : k ≢ j = grind arith in inr (ih (sym (get_or-set_other (point_with size ks) j k true false other) ∙ c))

-- Sums.

set-back : (point : List Bool) (k : ℕ) → k < length point → is_chosen point k ≡ false → slice_set (slice_set point k true) k false ≡ point
set-back [] k h c = absurd (omega arith)
set-back (b ∷ bs) zero h c = ap (λ x. x ∷ bs) (sym c)
set-back (b ∷ bs) (suc k) h c = ap (λ xs. b ∷ xs) (set-back bs k (omega arith) c)

pub point-sum : (variables : List Variable) (f : Variable → ℕ) (ks : List ℕ) → AllByRecursion (λ k. k < length variables) ks → AreDifferent ks →
    taken_from 0 f variables (point_with (length variables) ks) ≡ sum_along variables f ks
point-sum variables f [] below apart = zeros 0 variables (length variables)
  where
    first : (t : ℕ) → 0 + t ≡ t
    first t = omega arith

    zeros : (n : ℕ) (vs : List Variable) (size : ℕ) → taken_from n f vs (replicate size false) ≡ 0
    zeros n [] size = refl
    zeros n (v ∷ vs) size = ap (λ b. count_if b (f v) + taken_from (n + 1) f vs (replicate size false)) (none-chosen size n) ∙ first (taken_from (n + 1) f vs (replicate size false)) ∙ zeros (n + 1) vs size
point-sum variables f (k ∷ ks) below apart =
    let ih = point-sum variables f ks below.1 apart.1 in
    let back = ap (λ point. taken_from 0 f variables point) (set-back old k inside (not-chosen (length variables) ks k apart.0)) in
    let one = away-count f 0 variables (slice_set old k true) k s.0 s.1 (ap (is_chosen (slice_set old k true)) at ∙ get_or-set_same old k true false inside) in
    let here = ap (λ j. taken_from 0 f variables (slice_set (slice_set old k true) j false)) at in
    let sum = sum-cons variables f k ks s.0 s.1 in
    chain _ _ _ _ _ _ _ ih back one here sum
  where
    old : List Bool
    old = point_with (length variables) ks

    s : (v : Variable) × (slice_get variables k ≡ Some v)
    s = stands variables k below.0

    inside : k < length old
    inside = let l = point-length (length variables) ks in let b = below.0 in omega arith

    at : 0 + k ≡ k
    at = omega arith

    chain : (was back there v new rest whole : ℕ) → was ≡ rest → back ≡ was → there + v ≡ new → there ≡ back → whole ≡ v + rest → new ≡ whole
    chain was back there v new rest whole a b c d e = omega arith

-- the same of whole numbers
abbrev pub with_term_z : (Variable → ℤ) → Option Variable → ℤ → ℤ
with_term_z f None sum = sum
with_term_z f (Some v) sum = f v +ℤ sum

abbrev pub sum_z : List Variable → (Variable → ℤ) → List ℕ → ℤ
sum_z variables f [] = pos 0
sum_z variables f (k ∷ ks) = with_term_z f (slice_get variables k) (sum_z variables f ks)

pub sum_z-cons : (variables : List Variable) (f : Variable → ℤ) (k : ℕ) (ks : List ℕ) (v : Variable) → slice_get variables k ≡ Some v → sum_z variables f (k ∷ ks) ≡ f v +ℤ sum_z variables f ks
sum_z-cons variables f k ks v e = ap (λ o. with_term_z f o (sum_z variables f ks)) e

pub point-sum_z : (variables : List Variable) (f : Variable → ℤ) (ks : List ℕ) → AllByRecursion (λ k. k < length variables) ks → AreDifferent ks →
    chosen_from 0 f variables (point_with (length variables) ks) ≡ sum_z variables f ks
point-sum_z variables f [] below apart = zeros 0 variables (length variables)
  where
    first : (t : ℤ) → pos 0 +ℤ t ≡ t
    first t = omega (arith, ints)

    zeros : (n : ℕ) (vs : List Variable) (size : ℕ) → chosen_from n f vs (replicate size false) ≡ pos 0
    zeros n [] size = refl
    zeros n (v ∷ vs) size = ap (λ b. coefficient_if b (f v) +ℤ chosen_from (n + 1) f vs (replicate size false)) (none-chosen size n) ∙ first (chosen_from (n + 1) f vs (replicate size false)) ∙ zeros (n + 1) vs size
point-sum_z variables f (k ∷ ks) below apart =
    let ih = point-sum_z variables f ks below.1 apart.1 in
    let back = ap (λ point. chosen_from 0 f variables point) (set-back old k inside (not-chosen (length variables) ks k apart.0)) in
    let one = away f 0 variables (slice_set old k true) k s.0 s.1 (ap (is_chosen (slice_set old k true)) at ∙ get_or-set_same old k true false inside) in
    let here = ap (λ j. chosen_from 0 f variables (slice_set (slice_set old k true) j false)) at in
    let sum = sum_z-cons variables f k ks s.0 s.1 in
    chain _ _ _ _ _ _ _ ih back one here sum
  where
    old : List Bool
    old = point_with (length variables) ks

    s : (v : Variable) × (slice_get variables k ≡ Some v)
    s = stands variables k below.0

    inside : k < length old
    inside = let l = point-length (length variables) ks in let b = below.0 in omega arith

    at : 0 + k ≡ k
    at = omega arith

    chain : (was back there v new rest whole : ℤ) → was ≡ rest → back ≡ was → there +ℤ v ≡ new → there ≡ back → whole ≡ v +ℤ rest → new ≡ whole
    chain was back there v new rest whole a b c d e = omega (arith, ints)

-- The edges of a path differ.

-- the place is that of an edge of the flow
abbrev pub IsOf : List Variable → ℕ → ℕ → Type 0
IsOf variables flow k = (v : Variable) × (slice_get variables k ≡ Some v) × (v.flow ≡ flow)

pub trail-of : (variables : List Variable) (flow : ℕ) (ks : List ℕ) (from to : ℕ) → IsTrailOf variables flow ks from to → AllByRecursion (IsOf variables flow) ks
trail-of variables flow [] from to t = tt
trail-of variables flow (k ∷ ks) from to t = ((t.0, t.1, t.2), trail-of variables flow ks t.0.edge.to to t.4)

head-apart : (variables : List Variable) (flow k : ℕ) (v : Variable) (ks : List ℕ) (from to : ℕ) → slice_get variables k ≡ Some v → IsTrailOf variables flow ks from to → AllByRecursion (λ x. v.edge.to ≢ x) (comes_to variables ks) →
    AllByRecursion (λ j. k ≢ j) ks
head-apart variables flow k v [] from to s t all = tt
head-apart variables flow k v (j ∷ ks) from to s t all =
    let parts : AllByRecursion (λ x. v.edge.to ≢ x) (t.0.edge.to ∷ comes_to variables ks) = subst (AllByRecursion (λ x. v.edge.to ≢ x)) (comes_to-cons variables j ks t.0 t.1) all in
    ((λ e. let same : v ≡ t.0 = some_some (sym s ∙ ap (slice_get variables) e ∙ t.1) in parts.0 (ap (λ w. w.edge.to) same)), head-apart variables flow k v ks t.0.edge.to to s t.4 parts.1)

pub trail-different : (variables : List Variable) (flow : ℕ) (ks : List ℕ) (from to : ℕ) → IsTrailOf variables flow ks from to → AreDifferent (comes_to variables ks) → AreDifferent ks
trail-different variables flow [] from to t all = tt
trail-different variables flow (k ∷ ks) from to t all =
    let parts : AreDifferent (t.0.edge.to ∷ comes_to variables ks) = subst AreDifferent (comes_to-cons variables k ks t.0 t.1) all in
    (head-apart variables flow k t.0 ks t.0.edge.to to t.1 t.4 parts.0, trail-different variables flow ks t.0.edge.to to t.4 parts.1)

pub different-both : (xs ys : List ℕ) → AreDifferent xs → AreDifferent ys → AllByRecursion (λ x. AllByRecursion (λ y. x ≢ y) ys) xs → AreDifferent (xs ++ ys)
different-both [] ys a b c = b
different-both (x ∷ xs) ys a b c = (all_both (λ y. x ≢ y) xs ys a.0 c.0, different-both xs ys a.1 b c.1)
