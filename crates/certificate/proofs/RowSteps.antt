-- A weighted row is added entry by entry.
use Rattle.std.proofs.Common.{◌≡◌, ℕ, ◌==◌, ◌+◌, ◌*◌, ◌^◌, ◌≤◌, ◌<◌, Bool, ℤ, pos, negsuc, ◌+ℤ◌, ◌*ℤ◌, nat_abs, List, [], ◌∷◌, ◌++◌, take, length, Option, get_or, length-set, sym, ◌∙◌, ap, subst, arith, lit≤, to_z, of_z, w64}
use mir.Syntax.{w128}
use Rattle.std.proofs.lemmas.Int.{ints, unsigned_abs-mul}
use Rattle.std.proofs.lemmas.List.{take_more, take_all}
use Rattle.std.proofs.Math.Nat.{mul-le-mul}
use Rattle.merlin_model.specs.Programs.{Program, variables, coefficient_if, is_chosen, row_at}
use Rattle.merlin_model.specs.Trees.{fixed_at, coefficient_in}
use Rattle.merlin_model.proofs.Sums.{*ℤ-+ℤ, taken-mul, coefficient_in-cons}
use Rattle.integer_program.specs.Bounds.{IsBounded}
use Rattle.integer_program.proofs.Bounds.{within, within-more}
use Rattle.certificate.specs.declared.sums.Sums.{Sums}
use Rattle.certificate.specs.Adding.{sum_at, AreSumsWithin, least_sum}
use Rattle.certificate.proofs.Places.{IsAdded, added_each, added_least, added_small}

abs-within : (bound : ℕ) (z : ℤ) → IsBounded bound z → nat_abs z ≤ bound
abs-within bound (pos n) h = let x = h.high in omega (arith, ints)
abs-within bound (negsuc n) h = let x = h.low in omega (arith, ints)

pub within-mul : (m n : ℕ) (a b : ℤ) → IsBounded m a → IsBounded n b → IsBounded (m * n) (a *ℤ b)
within-mul m n a b p q = within (m * n) (a *ℤ b) (subst (λ k. k ≤ m * n) (sym (unsigned_abs-mul a b)) (mul-le-mul (abs-within m a p) (abs-within n b q)))

coefficient_in-append : (v : ℕ) (xs ys : List (ℕ × ℤ)) → coefficient_in v (xs ++ ys) ≡ coefficient_in v xs +ℤ coefficient_in v ys
coefficient_in-append v [] ys = omega (arith, ints)
coefficient_in-append v (x ∷ xs) ys =
    let ih = coefficient_in-append v xs ys in
    let a = coefficient_in-cons v x (xs ++ ys) in
    let b = coefficient_in-cons v x xs in
    omega (arith, ints)

coefficient_in-more : (v : ℕ) (xs : List (ℕ × ℤ)) (k : ℕ) → k < length xs → coefficient_in v (take (k + 1) xs) ≡ coefficient_in v (take k xs) +ℤ coefficient_if ((get_or xs k (0, pos 0)).0 == v) (get_or xs k (0, pos 0)).1
coefficient_in-more v xs k h =
    let one = coefficient_in-cons v (get_or xs k (0, pos 0)) [] in
    ap (coefficient_in v) (take_more xs k (0, pos 0) h) ∙ coefficient_in-append v (take k xs) (get_or xs k (0, pos 0) ∷ [])
    ∙ (let e : coefficient_in v (get_or xs k (0, pos 0) ∷ []) ≡ coefficient_if ((get_or xs k (0, pos 0)).0 == v) (get_or xs k (0, pos 0)).1 = omega (arith, ints) in ap (λ z. coefficient_in v (take k xs) +ℤ z) e)

-- so many entries of a row are added to what was there
pub record IsRowSum (program : Program) (box : List (Option Bool)) (entries : List (ℕ × ℤ)) (weight : ℤ) (start : Sums) (k : ℕ) (sums : Sums) : Type 0 where
  pub size : length sums.by_variable ≡ variables program
  pub each : (v : ℕ) → sum_at sums v ≡ sum_at start v +ℤ (weight *ℤ coefficient_in v (take k entries))
  pub least : sums.least ≡ least_sum program box sums.by_variable
  pub small : (bound : ℕ) → AreSumsWithin bound start → AreSumsWithin (bound + k * 2 ^ 90) sums

pub row_none : (program : Program) (box : List (Option Bool)) (entries : List (ℕ × ℤ)) (weight : ℤ) (start : Sums) → length start.by_variable ≡ variables program → start.least ≡ least_sum program box start.by_variable →
    IsRowSum program box entries weight start 0 start
row_none program box entries weight start size least = record {
  size = size;
  each = λ v. omega (arith, ints);
  least = least;
  small = λ bound small. subst (λ b. AreSumsWithin b start) (let e : bound ≡ bound + 0 * 2 ^ 90 = omega arith in e) small;
}

pub row_more : (program : Program) (box : List (Option Bool)) (entries : List (ℕ × ℤ)) (weight amount : ℤ) (start before after : Sums) (k : ℕ) → k < length entries →
    IsRowSum program box entries weight start k before → (get_or entries k (0, pos 0)).0 < variables program → amount ≡ weight *ℤ (get_or entries k (0, pos 0)).1 → IsBounded (2 ^ 90) amount →
    IsAdded (fixed_at box (get_or entries k (0, pos 0)).0) (is_chosen program.upper (get_or entries k (0, pos 0)).0) (get_or entries k (0, pos 0)).0 amount before after →
    IsRowSum program box entries weight start (k + 1) after
row_more program box entries weight amount start before after k h is exists e within added = record {
  size = ap length added.coefficient ∙ length-set before.by_variable variable _ ∙ is.size;
  each = λ v. added_each _ _ variable amount before after added in_range v ∙ ap (λ z. z +ℤ coefficient_if (variable == v) amount) (is.each v) ∙ regroup v;
  least = added_least program box variable amount before after added exists is.size is.least;
  small = λ bound small.
      subst (λ b. AreSumsWithin b after) (let same : bound + k * 2 ^ 90 + 2 ^ 90 ≡ bound + (k + 1) * 2 ^ 90 = omega arith in same)
      (added_small _ _ variable amount before after (bound + k * 2 ^ 90) (2 ^ 90) added in_range within (is.small bound small));
}
  where
    variable : ℕ
    variable = (get_or entries k (0, pos 0)).0

    coefficient : ℤ
    coefficient = (get_or entries k (0, pos 0)).1

    in_range : (get_or entries k (0, pos 0)).0 < length before.by_variable
    in_range = let s = is.size in omega arith

    regroup : (v : ℕ) → (sum_at start v +ℤ (weight *ℤ coefficient_in v (take k entries))) +ℤ coefficient_if ((get_or entries k (0, pos 0)).0 == v) amount ≡ sum_at start v +ℤ (weight *ℤ coefficient_in v (take (k + 1) entries))
    regroup v =
        let t = coefficient_if ((get_or entries k (0, pos 0)).0 == v) in
        let c = coefficient_in v (take k entries) in
        let amount_is : t amount ≡ weight *ℤ t (get_or entries k (0, pos 0)).1 = ap t e ∙ taken-mul ((get_or entries k (0, pos 0)).0 == v) weight (get_or entries k (0, pos 0)).1 in
        let joined : (weight *ℤ c) +ℤ (weight *ℤ t (get_or entries k (0, pos 0)).1) ≡ weight *ℤ coefficient_in v (take (k + 1) entries) =
        sym (*ℤ-+ℤ weight c (t (get_or entries k (0, pos 0)).1)) ∙ ap (λ z. weight *ℤ z) (sym (coefficient_in-more v entries k h)) in
        omega (arith, ints)

pub small-more : (m n : ℕ) (sums : Sums) → m ≤ n → AreSumsWithin m sums → AreSumsWithin n sums
small-more m n sums h small = record { each = λ v. within-more m n (sum_at sums v) h (small.each v); least = within-more m n sums.least h small.least }

-- while a row is added to small sums they stay small
pub row_small : (program : Program) (box : List (Option Bool)) (entries : List (ℕ × ℤ)) (weight : ℤ) (start sums : Sums) (k bound : ℕ) → IsRowSum program box entries weight start k sums → k ≤ 32768 →
    AreSumsWithin bound start → AreSumsWithin (bound + 2 ^ 105) sums
row_small program box entries weight start sums k bound is few small = small-more (bound + k * 2 ^ 90) (bound + 2 ^ 105) sums (omega arith) (is.small bound small)

pub row_whole : (program : Program) (box : List (Option Bool)) (row : ℕ) (entries : List (ℕ × ℤ)) (weight : ℤ) (start sums : Sums) (k : ℕ) → IsRowSum program box entries weight start k sums → length entries ≤ k →
    entries ≡ (row_at program row).entries → (v : ℕ) → sum_at sums v ≡ sum_at start v +ℤ (weight *ℤ coefficient_in v (row_at program row).entries)
row_whole program box row entries weight start sums k is whole e v =
    is.each v ∙ ap (λ es. sum_at start v +ℤ (weight *ℤ coefficient_in v es)) (take_all k entries whole ∙ e)

-- the code's product of two numbers, of which the one is within 2^60 and the other within a bound
pub product_of : (most : ℕ) (a b x y amount : ℤ) → most ≤ 2 ^ 45 → IsBounded (2 ^ 60) a → nat_abs b ≤ most → x ≡ a → y ≡ b →
    amount ≡ to_z w128 (of_z w128 (to_z w128 (of_z w128 x) *ℤ to_z w128 (of_z w128 y))) → (amount ≡ a *ℤ b) × IsBounded (2 ^ 60 * most) amount
product_of most a b x y amount m w r e f h = (is, subst (IsBounded (2 ^ 60 * most)) (sym is) bound)
  where
    bound : IsBounded (2 ^ 60 * most) (a *ℤ b)
    bound = within-mul (2 ^ 60) most a b w (within most b r)

    x_is : to_z w128 (of_z w128 x) ≡ a
    x_is = omega (arith, ints)

    y_is : to_z w128 (of_z w128 y) ≡ b
    y_is = omega (arith, ints)

    whole : (product : ℤ) → IsBounded (2 ^ 60 * most) product → to_z w128 (of_z w128 product) ≡ product
    whole product p = omega (arith, ints)

    is : amount ≡ a *ℤ b
    is = h ∙ ap (λ z. to_z w128 (of_z w128 (z *ℤ to_z w128 (of_z w128 y)))) x_is ∙ ap (λ z. to_z w128 (of_z w128 (a *ℤ z))) y_is ∙ whole (a *ℤ b) bound

-- the code's product of a weight and a coefficient
pub record IsProduct (weight coefficient amount : ℤ) : Type 0 where
  pub is : amount ≡ weight *ℤ coefficient
  pub small : IsBounded (2 ^ 90) amount

pub is-product : (weight coefficient left right amount : ℤ) → IsBounded (2 ^ 60) weight → nat_abs coefficient ≤ 10 ^ 9 → left ≡ weight → right ≡ to_z w64 (of_z w64 coefficient) →
    amount ≡ to_z w128 (of_z w128 (to_z w128 (of_z w128 left) *ℤ to_z w128 (of_z w128 right))) → IsProduct weight coefficient amount
is-product weight coefficient left right amount w c e f a =
    let same : to_z w64 (of_z w64 coefficient) ≡ coefficient = omega (arith, ints) in
    let p = product_of (10 ^ 9) weight coefficient left right amount (lit≤ tt) w c e (f ∙ same) a in
    record { is = p.0; small = within-more (2 ^ 60 * 10 ^ 9) (2 ^ 90) _ (lit≤ tt) p.1 }
