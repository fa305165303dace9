-- Sums over the chosen variables.
use Rattle.std.proofs.Common.{◌≡◌, ℕ, zero, suc, ◌+◌, ◌*◌, ◌≤◌, Bool, true, false, pos, ◌+ℤ◌, List, [], ◌∷◌, length, Some, slice_get, sum_by, refl, sym, ◌∙◌, ap, ap₂, arith}
use Rattle.std.proofs.lemmas.Int.{ints}
use Rattle.std.proofs.lemmas.List.Sums.{sum_by-cons}
use Rattle.std.specs.List.{AllByRecursion}
use Rattle.merlin_model.specs.Programs.{is_chosen, coefficient_if, left_side}
use Rattle.cutoff_program.specs.Flows.{Variable, count_if, taken_from, chosen_from, entries_from}
use Rattle.cutoff_program.proofs.Entries.{left-entries}
use Rattle.cutoff_program.proofs.Lists.{none_some, some_some}

pub chosen-taken : (n : ℕ) (f : Variable → ℕ) (variables : List Variable) (point : List Bool) → chosen_from n (λ v. pos (f v)) variables point ≡ pos (taken_from n f variables point)
chosen-taken n f [] point = refl
chosen-taken n f (v ∷ vs) point = ap (λ t. coefficient_if (is_chosen point n) (pos (f v)) +ℤ t) (chosen-taken (n + 1) f vs point) ∙ by (is_chosen point n) (f v) (taken_from (n + 1) f vs point)
  where
    by : (b : Bool) (x t : ℕ) → coefficient_if b (pos x) +ℤ pos t ≡ pos (count_if b x + t)
    by true x t = omega (arith, ints)
    by false x t = omega (arith, ints)

-- a row of numbers that aren't negative
pub left-taken : (f : Variable → ℕ) (variables : List Variable) (point : List Bool) → left_side (entries_from 0 (λ v. pos (f v)) variables) point ≡ pos (taken_from 0 f variables point)
left-taken f variables point = left-entries 0 (λ v. pos (f v)) variables point ∙ chosen-taken 0 f variables point

if-most : (b : Bool) (x : ℕ) → count_if b x ≤ x
if-most true x = omega arith
if-most false x = omega arith

pub taken-most : (n : ℕ) (f : Variable → ℕ) (variables : List Variable) (point : List Bool) → taken_from n f variables point ≤ sum_by f variables
taken-most n f [] point = omega arith
taken-most n f (v ∷ vs) point =
    let ih = taken-most (n + 1) f vs point in
    let one = if-most (is_chosen point n) (f v) in
    let e = sum_by-cons f v vs in
    sums (count_if (is_chosen point n) (f v)) (taken_from (n + 1) f vs point) (f v) (sum_by f vs) (sum_by f (v ∷ vs)) one ih e
  where
    sums : (a b c d s : ℕ) → a ≤ c → b ≤ d → s ≡ c + d → a + b ≤ s
    sums a b c d s h g e = omega arith

pub sum-bound : (f : Variable → ℕ) (m : ℕ) (variables : List Variable) → AllByRecursion (λ v. f v ≤ m) variables → sum_by f variables ≤ length variables * m
sum-bound f m [] all = omega arith
sum-bound f m (v ∷ vs) all =
    let ih = sum-bound f m vs all.1 in
    let e = sum_by-cons f v vs in
    let p : suc (length vs) * m ≡ m + length vs * m = omega arith in
    sums (f v) (sum_by f vs) (sum_by f (v ∷ vs)) (length vs * m) (suc (length vs) * m) all.0 ih e p
  where
    sums : (a b s t w : ℕ) → a ≤ m → b ≤ t → s ≡ a + b → w ≡ m + t → s ≤ w
    sums a b s t w h g e p = omega arith

pub coefficient_if-zero : (n : ℕ) (f : Variable → ℕ) (variables : List Variable) (point : List Bool) → ((v : Variable) → f v ≡ 0) → taken_from n f variables point ≡ 0
coefficient_if-zero n f [] point h = refl
coefficient_if-zero n f (v ∷ vs) point h = ap₂ (λ x t. count_if (is_chosen point n) x + t) (h v) (coefficient_if-zero (n + 1) f vs point h) ∙ by (is_chosen point n)
  where
    by : (b : Bool) → count_if b 0 + 0 ≡ 0
    by true = refl
    by false = refl

pub sum-zero : (f : Variable → ℕ) (variables : List Variable) → ((v : Variable) → f v ≡ 0) → sum_by f variables ≡ 0
sum-zero f [] h = refl
sum-zero f (v ∷ vs) h = let ih = sum-zero f vs h in let e = sum_by-cons f v vs in let x = h v in omega arith

pub coefficient_if-at : (n : ℕ) (f : Variable → ℕ) (variables : List Variable) (point : List Bool) (k : ℕ) (v : Variable) → slice_get variables k ≡ Some v → is_chosen point (n + k) ≡ true → f v ≤ taken_from n f variables point
coefficient_if-at n f [] point k v s c = absurd (none_some s)
coefficient_if-at n f (w ∷ vs) point zero v s c =
    let same : w ≡ v = some_some s in
    let at : n + 0 ≡ n = omega arith in
    let on : is_chosen point n ≡ true = ap (is_chosen point) (sym at) ∙ c in
    let x : count_if (is_chosen point n) (f w) ≡ f w = ap (λ b. count_if b (f w)) on in
    let y : f w ≡ f v = ap f same in
    omega arith
coefficient_if-at n f (w ∷ vs) point (suc k) v s c =
    let at : n + suc k ≡ n + 1 + k = omega arith in
    let ih = coefficient_if-at (n + 1) f vs point k v s (ap (is_chosen point) (sym at) ∙ c) in
    omega arith
