-- Blocks of addresses as ranges of numbers.
use Rattle.std.proofs.Common.{◌≡◌, ◌≤◌, ◌<◌, ◌⊎◌, inl, inr, ℕ, suc, ◌+◌, ◌-◌, ◌*◌, ◌/◌, ◌%◌, ◌^◌, Bool, true, false, ◌==◌, refl, sym, ◌∙◌, ap, arith}
use Rattle.std.proofs.Math.Nat.{mul_assoc, suc-mul}
use Rattle.std.proofs.lemmas.Nat.{pow-add, pow_pos, pow_below, shr_split, shr_high, mod_below, div_below, row_fits}
use Rattle.merlin_model.specs.Predicates.{first_bits}
use Rattle.predicate_logic.specs.Mentions.{is_within}

-- a block has a length up to 31 and no bit past it
abbrev pub IsBlock : ℕ × ℕ → Type 0
IsBlock b = (b.1 ≤ 31) × (b.0 ≡ first_bits b.1 b.0 * 2 ^ (32 - b.1))

from_by : (v n k : ℕ) → n ≡ n / 2 ^ k * 2 ^ k → (v / 2 ^ k == n / 2 ^ k) ≡ true → (n ≤ v) × (v < n + 2 ^ k)
from_by v n k at e =
    let same : v / 2 ^ k ≡ n / 2 ^ k = grind (arith, e) in
    let rows : v / 2 ^ k * 2 ^ k ≡ n / 2 ^ k * 2 ^ k = ap (λ m. m * 2 ^ k) same in
    let split = shr_split v k in
    let small : v % 2 ^ k < 2 ^ k = mod_below v (2 ^ k) (pow_pos k) in
    (omega arith, omega arith)

to_by : (v n k : ℕ) → n ≡ n / 2 ^ k * 2 ^ k → n ≤ v → v < n + 2 ^ k → (v / 2 ^ k == n / 2 ^ k) ≡ true
to_by v n k at le lt =
    let is : n / 2 ^ k * 2 ^ k + (v - n) ≡ v = omega arith in
    let row : (n / 2 ^ k * 2 ^ k + (v - n)) / 2 ^ k ≡ n / 2 ^ k = shr_high (n / 2 ^ k) k (v - n) (omega arith) in
    let same : v / 2 ^ k ≡ n / 2 ^ k = ap (λ m. m / 2 ^ k) (sym is) ∙ row in
    grind (arith, same)

pub within-from : (b : ℕ × ℕ) (v : ℕ) → IsBlock b → is_within b v ≡ true → (b.0 ≤ v) × (v < b.0 + 2 ^ (32 - b.1))
within-from b v block e = from_by v b.0 (32 - b.1) block.1 e

pub within-to : (b : ℕ × ℕ) (v : ℕ) → IsBlock b → b.0 ≤ v → v < b.0 + 2 ^ (32 - b.1) → is_within b v ≡ true
within-to b v block le lt = to_by v b.0 (32 - b.1) block.1 le lt

false_true : (b : Bool) → (b ≡ true → ⊥) → b ≡ false
false_true true h = absurd (h refl)
false_true false h = refl

pub within-not : (b : ℕ × ℕ) (v : ℕ) → IsBlock b → ((b.0 ≤ v) × (v < b.0 + 2 ^ (32 - b.1)) → ⊥) → is_within b v ≡ false
within-not b v block h = false_true (is_within b v) (λ e. h (within-from b v block e))

-- Multiples of powers of two.

abbrev pub IsMultiple : ℕ → ℕ → Type 0
IsMultiple n k = (r : ℕ) × (n ≡ r * 2 ^ k)

pub finer : (n j k : ℕ) → k ≤ j → IsMultiple n j → IsMultiple n k
finer n j k le m =
    let parts : 2 ^ j ≡ 2 ^ (j - k) * 2 ^ k = (let e : j ≡ (j - k) + k = omega arith in ap (λ i. 2 ^ i) e ∙ pow-add 2 (j - k) k) in
    (m.0 * 2 ^ (j - k), m.1 ∙ ap (λ i. m.0 * i) parts ∙ sym (mul_assoc m.0 (2 ^ (j - k)) (2 ^ k)))

pub next_multiple : (n k : ℕ) → IsMultiple n k → IsMultiple (n + 2 ^ k) k
next_multiple n k m = (suc m.0, omega (arith, m.1, suc-mul m.0 (2 ^ k)))

-- a block that begins before a multiple of its size ends there or before
pub ends_before : (b : ℕ × ℕ) (m : ℕ) → IsBlock b → IsMultiple m (32 - b.1) → b.0 < m → b.0 + 2 ^ (32 - b.1) ≤ m
ends_before b m block r lt = by b.0 (32 - b.1) block.1 r.0 r.1 lt
  where
    by : (n k : ℕ) → n ≡ n / 2 ^ k * 2 ^ k → (r : ℕ) → m ≡ r * 2 ^ k → n < m → n + 2 ^ k ≤ m
    by n k at r e lt =
        let row : n / 2 ^ k < r = div_below n (2 ^ k) r (pow_pos k) (omega arith) in
        let fits : n / 2 ^ k * 2 ^ k + 2 ^ k ≤ r * 2 ^ k = row_fits (n / 2 ^ k) (2 ^ k) r (2 ^ k) row (omega arith) in
        omega arith

-- of two powers the greater has the greater exponent
pub exponents : (i j : ℕ) → 2 ^ i ≤ 2 ^ j → i ≤ j
exponents i j le = by (order i j)
  where
    order : (i j : ℕ) → (i ≤ j) ⊎ (j < i)
    order i j = grind arith

    by : (i ≤ j) ⊎ (j < i) → i ≤ j
    by (inl h) = h
    by (inr h) = let less = pow_below j i h in absurd (omega (arith, less, le))
