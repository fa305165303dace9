-- The order of ratios, and the greatest of them.
use Rattle.std.proofs.Common.{◌≡◌, ℕ, ◌*◌, ◌≤◌, ◌<◌, Bool, true, false, cond, List, [], ◌∷◌, refl, arith}
use Rattle.std.proofs.lemmas.Bool.{ltb-true, le-ltb}
use Rattle.std.proofs.Math.Nat.{mul_right_comm, mul-le-mul_right, le_of_mul-le-mul_right}
use Rattle.std.specs.List.{AllByRecursion}
use Rattle.merlin_model.specs.Assignments.{greatest_ratio, ratio_lt}
use Rattle.cutoff_program.proofs.Rooms.{not-less}
use Rattle.cutoff_program.proofs.Values.{ratio-positive}

-- the first is no greater than the second
abbrev pub IsAtMost : ℕ × ℕ → ℕ × ℕ → Type 0
IsAtMost a b = a.0 * b.1 ≤ b.0 * a.1

pub most-from : (a b : ℕ × ℕ) → ratio_lt b a ≡ false → IsAtMost a b
most-from a b e = not-less (b.0 * a.1) (a.0 * b.1) e

pub most-to : (a b : ℕ × ℕ) → IsAtMost a b → ratio_lt b a ≡ false
most-to a b h = le-ltb (b.0 * a.1) (a.0 * b.1) h

pub most-same : (a : ℕ × ℕ) → IsAtMost a a
most-same a = plain (a.0 * a.1)
  where
    plain : (n : ℕ) → n ≤ n
    plain n = omega arith

pub most-through : (a b c : ℕ × ℕ) → IsAtMost a b → IsAtMost b c → 0 < b.1 → IsAtMost a c
most-through a b c h g p =
    let x : a.0 * c.1 * b.1 ≡ a.0 * b.1 * c.1 = mul_right_comm a.0 c.1 b.1 in
    let y : b.0 * a.1 * c.1 ≡ b.0 * c.1 * a.1 = mul_right_comm b.0 a.1 c.1 in
    let z : c.0 * a.1 * b.1 ≡ c.0 * b.1 * a.1 = mul_right_comm c.0 a.1 b.1 in
    let u : a.0 * b.1 * c.1 ≤ b.0 * a.1 * c.1 = mul-le-mul_right c.1 h in
    let v : b.0 * c.1 * a.1 ≤ c.0 * b.1 * a.1 = mul-le-mul_right a.1 g in
    le_of_mul-le-mul_right (chain _ _ _ _ _ _ x y z u v) p
  where
    chain : (l m n o p q : ℕ) → l ≡ m → n ≡ o → p ≡ q → m ≤ n → o ≤ q → l ≤ p
    chain l m n o p q x y z u v = omega arith

pub none-most : (b : ℕ × ℕ) → IsAtMost (0, 1) b
none-most b = let z : 0 * b.1 ≡ 0 = omega arith in let w : 0 * b.1 ≤ b.0 * 1 = omega arith in w

-- what holds of 0/1 and of each holds of the greatest
pub greatest-has : (P : ℕ × ℕ → Type 0) (rs : List (ℕ × ℕ)) → P (0, 1) → AllByRecursion P rs → P (greatest_ratio rs)
greatest-has P [] none all = none
greatest-has P (r ∷ rs) none all = by (ratio_lt r (greatest_ratio rs)) (greatest-has P rs none all.1)
  where
    by : (c : Bool) → P (greatest_ratio rs) → P (cond c (greatest_ratio rs) r)
    by true g = g
    by false g = all.0

pub greatest-within : (b : ℕ × ℕ) (rs : List (ℕ × ℕ)) → AllByRecursion (λ r. IsAtMost r b) rs → IsAtMost (greatest_ratio rs) b
greatest-within b rs all = greatest-has (λ r. IsAtMost r b) rs (none-most b) all

up-to : (rs : List (ℕ × ℕ)) (a b : ℕ × ℕ) → IsAtMost a b → 0 < a.1 → AllByRecursion (λ r. IsAtMost r a) rs → AllByRecursion (λ r. IsAtMost r b) rs
up-to [] a b h p all = tt
up-to (r ∷ rs) a b h p all = (most-through r a b all.0 h p, up-to rs a b h p all.1)

-- none is greater than the greatest
pub greatest-bounds : (rs : List (ℕ × ℕ)) → AllByRecursion (λ r. 0 < r.1) rs → AllByRecursion (λ r. IsAtMost r (greatest_ratio rs)) rs
greatest-bounds [] p = tt
greatest-bounds (r ∷ rs) p = by (ratio_lt r (greatest_ratio rs)) refl (greatest-bounds rs p.1)
  where
    less : (m n : ℕ) → m < n → m ≤ n
    less m n h = omega arith

    by : (c : Bool) → ratio_lt r (greatest_ratio rs) ≡ c → AllByRecursion (λ x. IsAtMost x (greatest_ratio rs)) rs → AllByRecursion (λ x. IsAtMost x (cond c (greatest_ratio rs) r)) (r ∷ rs)
    by true e ih = (less _ _ (ltb-true (r.0 * (greatest_ratio rs).1) ((greatest_ratio rs).0 * r.1) e), ih)
    by false e ih = (most-same r, up-to rs (greatest_ratio rs) r (most-from (greatest_ratio rs) r e) (ratio-positive rs p.1) ih)
