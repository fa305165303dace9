-- Weights are tested one by one.
use Rattle.std.proofs.Common.{◌≡◌, ℕ, zero, suc, ◌+◌, ◌≤◌, ◌<◌, ◌^◌, ℤ, nat_abs, nat_lt, Bool, true, false, refl, List, take, length, get_or, sym, ap, subst, arith}
use Rattle.std.proofs.lemmas.List.{get_or-map, take_all, length-map}
use Rattle.std.specs.List.{AllByRecursion}
use Rattle.merlin_model.specs.Programs.{Program}
use Rattle.merlin_model.specs.Trees.{row_of, IsPositiveOnBounds}
use Rattle.merlin_model.specs.declared.certificate.Weight.{Weight}
use Rattle.integer_program.proofs.Bounds.{all_at, all_take_more}
use Rattle.certificate.specs.Weights.{IsWeight, AreWeights}
use Rattle.certificate.proofs.Totals.{no_weight}

abbrev pub row_no : List Weight → ℕ → ℕ
row_no weights k = (get_or weights k no_weight).row

-- the first k are as they should be, and `next` is the least row that may follow
pub record AreSoFar (program : Program) (weights : List Weight) (k next : ℕ) : Type 0 where
  pub ascend : (i : ℕ) → i + 1 < k → row_no weights i < row_no weights (i + 1)
  pub exist : AllByRecursion (λ w. w.row < length program.rows) (take k weights)
  pub small : AllByRecursion (λ w. nat_abs w.weight ≤ 2 ^ 60) (take k weights)
  pub signs : AllByRecursion (λ w. IsPositiveOnBounds (row_of program w).is_equality w.weight) (take k weights)
  pub first : k ≡ 0 → next ≡ 0
  pub last : (i : ℕ) → i + 1 ≡ k → next ≡ row_no weights i + 1

pub so_far_none : (program : Program) (weights : List Weight) → AreSoFar program weights 0 0
so_far_none program weights = record { ascend = λ i h. absurd (omega arith); exist = tt; small = tt; signs = tt; first = λ e. e; last = λ i e. absurd (omega arith) }

pub so_far_more : (program : Program) (weights : List Weight) (k next : ℕ) → k < length weights → AreSoFar program weights k next → next ≤ row_no weights k → row_no weights k < length program.rows →
    IsWeight program (get_or weights k no_weight) → AreSoFar program weights (k + 1) (row_no weights k + 1)
so_far_more program weights k next h are low exists is = record {
  ascend = ascend;
  exist = all_take_more (λ w. w.row < length program.rows) weights k no_weight h are.exist exists;
  small = all_take_more (λ w. nat_abs w.weight ≤ 2 ^ 60) weights k no_weight h are.small is.0;
  signs = all_take_more (λ w. IsPositiveOnBounds (row_of program w).is_equality w.weight) weights k no_weight h are.signs is.1;
  first = λ e. absurd (omega arith);
  last = λ i e. let at : i ≡ k = omega arith in ap (λ j. row_no weights j + 1) (sym at);
}
  where
    ascend : (i : ℕ) → i + 1 < k + 1 → row_no weights i < row_no weights (i + 1)
    ascend i lt = by (nat_lt (i + 1) k) refl
      where
        by : (b : Bool) → nat_lt (i + 1) k ≡ b → row_no weights i < row_no weights (i + 1)
        by true e = are.ascend i (grind arith)
        by false e =
            let at : i + 1 ≡ k = grind arith in
            let before = are.last i at in
            let same = ap (row_no weights) at in
            omega arith

pub so_far_all : (program : Program) (weights : List Weight) (k next : ℕ) → k ≡ length weights → AreSoFar program weights k next → AreWeights program weights
so_far_all program weights k next e are = record {
  ascend = λ i h.
      let size = length-map weights (λ w. w.row) in
      let step = are.ascend i (omega arith) in
      let a = get_or-map (λ w. w.row) weights i no_weight 0 (omega arith) in
      let b = get_or-map (λ w. w.row) weights (i + 1) no_weight 0 (omega arith) in
      omega arith;
  exist = subst (AllByRecursion (λ w. w.row < length program.rows)) whole are.exist;
  small = subst (AllByRecursion (λ w. nat_abs w.weight ≤ 2 ^ 60)) whole are.small;
  signs = subst (AllByRecursion (λ w. IsPositiveOnBounds (row_of program w).is_equality w.weight)) whole are.signs;
}
  where
    whole : take k weights ≡ weights
    whole = take_all k weights (omega arith)

pub ascends_at : (program : Program) (weights : List Weight) (i : ℕ) → AreWeights program weights → i + 1 < length weights → row_no weights i < row_no weights (i + 1)
ascends_at program weights i are h =
    let size = length-map weights (λ w. w.row) in
    let step = are.ascend i (omega arith) in
    let a = get_or-map (λ w. w.row) weights i no_weight 0 (omega arith) in
    let b = get_or-map (λ w. w.row) weights (i + 1) no_weight 0 (omega arith) in
    omega arith

-- where a row is too low, the rows don't ascend
pub too_low : (program : Program) (weights : List Weight) (k next : ℕ) → k < length weights → AreSoFar program weights k next → row_no weights k < next → AreWeights program weights → ⊥
too_low program weights zero next h are low all = let f = are.first refl in omega arith
too_low program weights (suc i) next h are low all =
    let n : i + 1 ≡ suc i = omega arith in
    let l = are.last i n in
    let step = ascends_at program weights i all (omega arith) in
    let same = ap (row_no weights) n in
    omega arith

pub no_row_there : (program : Program) (weights : List Weight) (k : ℕ) → k < length weights → length program.rows ≤ row_no weights k → AreWeights program weights → ⊥
no_row_there program weights k h past all = let e = all_at (λ w. w.row < length program.rows) weights k no_weight all.exist h in omega arith

pub weight_there : (program : Program) (weights : List Weight) (k : ℕ) → k < length weights → AreWeights program weights → IsWeight program (get_or weights k no_weight)
weight_there program weights k h all = (
  all_at (λ w. nat_abs w.weight ≤ 2 ^ 60) weights k no_weight all.small h,
  all_at (λ w. IsPositiveOnBounds (row_of program w).is_equality w.weight) weights k no_weight all.signs h,
)

-- the same weight as the code tests it
pub is_weight : (program : Program) (w : Weight) (is_equality : Bool) (weight : ℤ) → is_equality ≡ (row_of program w).is_equality → weight ≡ w.weight → (nat_abs weight ≤ 2 ^ 60) × IsPositiveOnBounds is_equality weight → IsWeight program w
is_weight program w is_equality weight e f h = subst (λ b. (nat_abs w.weight ≤ 2 ^ 60) × IsPositiveOnBounds b w.weight) e (subst (λ z. (nat_abs z ≤ 2 ^ 60) × IsPositiveOnBounds is_equality z) f h)

pub weight_is : (program : Program) (w : Weight) (is_equality : Bool) (weight : ℤ) → is_equality ≡ (row_of program w).is_equality → weight ≡ w.weight → IsWeight program w → (nat_abs weight ≤ 2 ^ 60) × IsPositiveOnBounds is_equality weight
weight_is program w is_equality weight e f h = subst (λ z. (nat_abs z ≤ 2 ^ 60) × IsPositiveOnBounds is_equality z) (sym f) (subst (λ b. (nat_abs w.weight ≤ 2 ^ 60) × IsPositiveOnBounds b w.weight) (sym e) h)
