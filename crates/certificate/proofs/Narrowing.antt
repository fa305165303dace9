-- What refutes a program refutes each narrower one.
use Rattle.std.proofs.Common.{◌≡◌, ◌≢◌, ◌+◌, ◌≤◌, ◌<◌, ℕ, zero, suc, nat_eq, Bool, true, false, cond, ℤ, pos, negsuc, ◌*ℤ◌, ◌≤ℤ◌, ◌<ℤ◌, ◌⊎◌, inl, inr, List, [], ◌∷◌, ◌++◌, map, length, Option, None, Some, get_or, length-set, get_or-set_same, get_or-set_other, refl, sym, ◌∙◌, ap, subst, arith}
use Rattle.std.proofs.lemmas.Int.{ints, clamps}
use Rattle.std.specs.List.{AllByRecursion, range_with_len}
use Rattle.std.proofs.lemmas.List.{length-map}
use Rattle.std.proofs.Math.Nat.{mul-le-mul_left}
use borrow.Author.Differences.{up, down}
use Rattle.merlin_model.specs.declared.certificate.Weight.{Weight}
use Rattle.merlin_model.specs.declared.certificate.Tree.{Tree, Leaf, Split, Split', Unclosed, end_of-Tree, more_of-Tree}
use Rattle.merlin_model.specs.Programs.{Program, variables, total, is_chosen, IsNarrower}
use Rattle.merlin_model.specs.Trees.{fixed_at, fix, IsOpen, row_of, coefficient_in, weighted_coefficient, weighted_right, least_addition, least_value, IsPositiveOnBounds, RefutesBox, Node, nodes_of, nodes_of-Split, IsSoundNode, Refutes, root_box}
use Rattle.merlin_model.proofs.Members.{all_left, all_right, all_both}
use Rattle.integer_program.proofs.Rows.{narrower_at, rows-same}
use Rattle.certificate.specs.Narrowed.{narrowed}

-- Boxes that fix the same variables, but for some that may not be 1 and are fixed to 0 in the first alone.
abbrev pub IsFreer : List Bool → List (Option Bool) → List (Option Bool) → Type 0
IsFreer upper box freer = (v : ℕ) → (fixed_at freer v ≡ fixed_at box v) ⊎ ((is_chosen upper v ≡ false) × (fixed_at box v ≡ Some false) × (fixed_at freer v ≡ None))

-- what a variable adds is no less
addition-le : (fixed : Option Bool) (wide narrow : Bool) (z : ℤ) → (narrow ≡ true → wide ≡ true) → least_addition fixed wide z ≤ℤ least_addition fixed narrow z
addition-le (Some true) wide narrow z h = omega (arith, ints)
addition-le (Some false) wide narrow z h = omega (arith, ints)
addition-le None true true z h = omega (arith, ints)
addition-le None true false z h = omega (arith, ints, clamps)
addition-le None false true z h = absurd (let bad : false ≡ true = h refl in let no_way : false ≡ true → ⊥ = λ e. cc in no_way bad)
addition-le None false false z h = omega (arith, ints)

freer-le : (upper : List Bool) (box freer : List (Option Bool)) (wide : Bool) (v : ℕ) (z : ℤ) → (fixed_at freer v ≡ fixed_at box v) ⊎ ((is_chosen upper v ≡ false) × (fixed_at box v ≡ Some false) × (fixed_at freer v ≡ None)) →
    (is_chosen upper v ≡ true → wide ≡ true) → least_addition (fixed_at box v) wide z ≤ℤ least_addition (fixed_at freer v) (is_chosen upper v) z
freer-le upper box freer wide v z (inl e) h = subst (λ f. least_addition (fixed_at box v) wide z ≤ℤ least_addition f (is_chosen upper v) z) (sym e) (addition-le (fixed_at box v) wide (is_chosen upper v) z h)
freer-le upper box freer wide v z (inr s) h =
    let low : least_addition (fixed_at box v) wide z ≡ pos 0 = ap (λ f. least_addition f wide z) s.1 in
    let high : least_addition (fixed_at freer v) (is_chosen upper v) z ≡ pos 0 = ap (λ f. least_addition f (is_chosen upper v) z) s.2 ∙ ap (λ u. least_addition None u z) s.0 in
    omega (arith, ints)

totals-le : {X : Type 0} (f g : X → ℤ) (xs : List X) → ((x : X) → f x ≤ℤ g x) → total (map f xs) ≤ℤ total (map g xs)
totals-le f g [] h = omega (arith, ints)
totals-le f g (x ∷ xs) h = let ih = totals-le f g xs h in let hx = h x in omega (arith, ints)

-- right sides that are no greater, and equal in equalities, have no greater weighted sum
mul-le : (w l r : ℤ) → pos 0 <ℤ w → l ≤ℤ r → (w *ℤ l) ≤ℤ (w *ℤ r)
mul-le (pos n) l r p h =
    let e : up l + down r ≤ up r + down l = omega (arith, ints) in
    omega (arith, ints, mul-le-mul_left n e)
mul-le (negsuc n) l r p h = omega (arith, ints)

term-le : (is_equality : Bool) (w l r : ℤ) → IsPositiveOnBounds is_equality w → l ≤ℤ r → (is_equality ≡ true → l ≡ r) → (w *ℤ l) ≤ℤ (w *ℤ r)
term-le true w l r p h e = rw (e refl) (omega (arith, ints))
term-le false w l r p h e = mul-le w l r p h

rights-le : (narrow wide : Program) (weights : List Weight) → IsNarrower narrow wide → AllByRecursion (λ w. w.row < length wide.rows) weights → AllByRecursion (λ w. IsPositiveOnBounds (row_of wide w).is_equality w.weight) weights →
    weighted_right narrow weights ≤ℤ weighted_right wide weights
rights-le narrow wide [] is exist signs = omega (arith, ints)
rights-le narrow wide (w ∷ ws) is exist signs =
    let size = rows-same narrow wide is in
    let row = narrower_at narrow wide w.row is (let h = exist.0 in omega arith) in
    let here = term-le (row_of wide w).is_equality w.weight (row_of narrow w).right (row_of wide w).right signs.0 row.right row.still in
    let rest = rights-le narrow wide ws is exist.1 signs.1 in
    omega (arith, ints)

coefficients-same : (narrow wide : Program) (weights : List Weight) (v : ℕ) → IsNarrower narrow wide → AllByRecursion (λ w. w.row < length wide.rows) weights → weighted_coefficient narrow weights v ≡ weighted_coefficient wide weights v
coefficients-same narrow wide [] v is exist = refl
coefficients-same narrow wide (w ∷ ws) v is exist =
    let size = rows-same narrow wide is in
    let row = narrower_at narrow wide w.row is (let h = exist.0 in omega arith) in
    let here : w.weight *ℤ coefficient_in v (row_of narrow w).entries ≡ w.weight *ℤ coefficient_in v (row_of wide w).entries = ap (λ es. w.weight *ℤ coefficient_in v es) row.entries in
    let rest = coefficients-same narrow wide ws v is exist.1 in
    omega (arith, ints)

exist-narrow : (narrow wide : Program) (weights : List Weight) → length narrow.rows ≡ length wide.rows → AllByRecursion (λ w. w.row < length wide.rows) weights → AllByRecursion (λ w. w.row < length narrow.rows) weights
exist-narrow narrow wide weights e h = subst (λ n. AllByRecursion (λ w. w.row < n) weights) (sym e) h

signs-narrow : (narrow wide : Program) (weights : List Weight) → IsNarrower narrow wide → AllByRecursion (λ w. w.row < length wide.rows) weights → AllByRecursion (λ w. IsPositiveOnBounds (row_of wide w).is_equality w.weight) weights →
    AllByRecursion (λ w. IsPositiveOnBounds (row_of narrow w).is_equality w.weight) weights
signs-narrow narrow wide [] is exist signs = tt
signs-narrow narrow wide (w ∷ ws) is exist signs =
    let size = rows-same narrow wide is in
    let row = narrower_at narrow wide w.row is (let h = exist.0 in omega arith) in
    (subst (λ b. IsPositiveOnBounds b w.weight) (sym row.is_equality) signs.0, signs-narrow narrow wide ws is exist.1 signs.1)

pub leaf_narrower : (narrow wide : Program) (box freer : List (Option Bool)) (weights : List Weight) → IsNarrower narrow wide → IsFreer narrow.upper box freer → RefutesBox wide box weights → RefutesBox narrow freer weights
leaf_narrower narrow wide box freer weights is free refutes = record {
  ascend = refutes.ascend;
  exist = exist-narrow narrow wide weights (rows-same narrow wide is) refutes.exist;
  small = refutes.small;
  signs = signs-narrow narrow wide weights is refutes.exist refutes.signs;
  exceeds = let a = rights-le narrow wide weights is refutes.exist refutes.signs in let b = refutes.exceeds in omega (arith, ints, least);
}
  where
    f : ℕ → ℤ
    f v = least_addition (fixed_at box v) (is_chosen wide.upper v) (weighted_coefficient wide weights v)

    g : ℕ → ℤ
    g v = least_addition (fixed_at freer v) (is_chosen narrow.upper v) (weighted_coefficient narrow weights v)

    each : (v : ℕ) → least_addition (fixed_at box v) (is_chosen wide.upper v) (weighted_coefficient wide weights v) ≤ℤ least_addition (fixed_at freer v) (is_chosen narrow.upper v) (weighted_coefficient narrow weights v)
    each v = subst (λ z. least_addition (fixed_at box v) (is_chosen wide.upper v) (weighted_coefficient wide weights v) ≤ℤ least_addition (fixed_at freer v) (is_chosen narrow.upper v) z) (sym (coefficients-same narrow wide weights v is refutes.exist))
        (freer-le narrow.upper box freer (is_chosen wide.upper v) v (weighted_coefficient wide weights v) (free v) (is.upper v))

    least : least_value wide box weights ≤ℤ least_value narrow freer weights
    least = subst (λ n. least_value wide box weights ≤ℤ total (map (λ v. least_addition (fixed_at freer v) (is_chosen narrow.upper v) (weighted_coefficient narrow weights v)) (range_with_len 0 n))) (sym is.size)
        (totals-le _ _ (range_with_len 0 (variables wide)) each)

pub as_free : (upper : List Bool) (box : List (Option Bool)) → IsFreer upper box box
as_free upper box v = inl refl

-- Trees.

some_none : {X : Type 0} {x : X} → Some x ≡ None → ⊥
some_none e = cc

open-narrow : (narrow wide : Program) (box freer : List (Option Bool)) (v : ℕ) → IsNarrower narrow wide → IsFreer narrow.upper box freer → IsOpen wide box v → is_chosen narrow.upper v ≡ true → IsOpen narrow freer v
open-narrow narrow wide box freer v is free o u = by (free v)
  where
    by : (fixed_at freer v ≡ fixed_at box v) ⊎ ((is_chosen narrow.upper v ≡ false) × (fixed_at box v ≡ Some false) × (fixed_at freer v ≡ None)) → IsOpen narrow freer v
    by (inl e) = record { exists = let h = o.exists in let s = is.size in omega arith; free = e ∙ o.free; may_be_one = u }
    by (inr s) = absurd (some_none (sym s.1 ∙ o.free))

fix-freer : (upper : List Bool) (box freer : List (Option Bool)) (u : ℕ) (to : Bool) → length box ≡ length freer → u < length box → IsFreer upper box freer → IsFreer upper (fix box u to) (fix freer u to)
fix-freer upper box freer u to size h free v = by (nat_eq v u) refl
  where
    by : (b : Bool) → nat_eq v u ≡ b → (fixed_at (fix freer u to) v ≡ fixed_at (fix box u to) v) ⊎ ((is_chosen upper v ≡ false) × (fixed_at (fix box u to) v ≡ Some false) × (fixed_at (fix freer u to) v ≡ None))
    by true e =
        let at : v ≡ u = grind arith in
        inl (ap (fixed_at (fix freer u to)) at ∙ get_or-set_same freer u (Some to) None (omega arith) ∙ sym (ap (fixed_at (fix box u to)) at ∙ get_or-set_same box u (Some to) None h))
    by false e =
        let other : v ≢ u = grind arith in
        let a = get_or-set_other freer u v (Some to) None other in
        let b = get_or-set_other box u v (Some to) None other in
        moved a b (free v)
      where
        moved : fixed_at (fix freer u to) v ≡ fixed_at freer v → fixed_at (fix box u to) v ≡ fixed_at box v → (fixed_at freer v ≡ fixed_at box v) ⊎ ((is_chosen upper v ≡ false) × (fixed_at box v ≡ Some false) × (fixed_at freer v ≡ None)) →
            (fixed_at (fix freer u to) v ≡ fixed_at (fix box u to) v) ⊎ ((is_chosen upper v ≡ false) × (fixed_at (fix box u to) v ≡ Some false) × (fixed_at (fix freer u to) v ≡ None))
        moved a b (inl e) = inl (a ∙ e ∙ sym b)
        moved a b (inr s) = inr (s.0, b ∙ s.1, a ∙ s.2)

-- a variable that may not be 1 need not be fixed to 0
skip-freer : (upper : List Bool) (box freer : List (Option Bool)) (u : ℕ) → u < length box → fixed_at box u ≡ None → is_chosen upper u ≡ false → IsFreer upper box freer → IsFreer upper (fix box u false) freer
skip-freer upper box freer u h none shut free v = by (nat_eq v u) refl (free v)
  where
    by : (b : Bool) → nat_eq v u ≡ b → (fixed_at freer v ≡ fixed_at box v) ⊎ ((is_chosen upper v ≡ false) × (fixed_at box v ≡ Some false) × (fixed_at freer v ≡ None)) →
        (fixed_at freer v ≡ fixed_at (fix box u false) v) ⊎ ((is_chosen upper v ≡ false) × (fixed_at (fix box u false) v ≡ Some false) × (fixed_at freer v ≡ None))
    by true e (inl f) =
        let at : v ≡ u = grind arith in
        inr (ap (is_chosen upper) at ∙ shut, ap (fixed_at (fix box u false)) at ∙ get_or-set_same box u (Some false) None h, f ∙ ap (fixed_at box) at ∙ none)
    by true e (inr s) =
        let at : v ≡ u = grind arith in
        absurd (some_none (sym s.1 ∙ ap (fixed_at box) at ∙ none))
    by false e (inl f) =
        let other : v ≢ u = grind arith in
        inl (f ∙ sym (get_or-set_other box u v (Some false) None other))
    by false e (inr s) =
        let other : v ≢ u = grind arith in
        inr (s.0, get_or-set_other box u v (Some false) None other ∙ s.1, s.2)

abbrev IsSound : Program → List (Option Bool) × Node → Type 0
IsSound program node = IsSoundNode program node.0 node.1

pub split_refutes : (program : Program) (variable : ℕ) (low high : Tree) (box : List (Option Bool)) → IsOpen program box variable → Refutes program low (fix box variable false) → Refutes program high (fix box variable true) →
    Refutes program (Split variable low high) box
split_refutes program variable low high box o l h = subst (AllByRecursion (IsSound program)) (sym (nodes_of-Split variable low high box))
    (o, all_both (IsSound program) (nodes_of low (fix box variable false)) (nodes_of high (fix box variable true)) l h)

pub tree_narrower : (narrow wide : Program) (tree : Tree) (box freer : List (Option Bool)) → IsNarrower narrow wide → length box ≡ variables wide → length box ≡ length freer → IsFreer narrow.upper box freer →
    Refutes wide tree box → Refutes narrow (narrowed narrow tree) freer
tree_narrower narrow wide (Leaf weights) box freer is size same free refutes = (leaf_narrower narrow wide box freer weights is free refutes.0, tt)
tree_narrower narrow wide (Split' variable _ (more_of-Tree low end_of-Tree) _ (more_of-Tree high end_of-Tree)) box freer is size same free refutes =
    by (is_chosen narrow.upper variable) refl
    (λ free'. tree_narrower narrow wide low (fix box variable false) freer is size_low same_low free' left)
    (tree_narrower narrow wide low (fix box variable false) (fix freer variable false) is size_low (same_low ∙ sym (length-set freer variable (Some false))) (fix-freer narrow.upper box freer variable false same in_box free) left)
    (tree_narrower narrow wide high (fix box variable true) (fix freer variable true) is (length-set box variable (Some true) ∙ size) (length-set box variable (Some true) ∙ same ∙ sym (length-set freer variable (Some true))) (fix-freer narrow.upper box freer variable true same in_box free) right)
  where
    left : Refutes wide low (fix box variable false)
    left = all_left (IsSound wide) (nodes_of low (fix box variable false)) (nodes_of high (fix box variable true)) refutes.1

    right : Refutes wide high (fix box variable true)
    right = all_right (IsSound wide) (nodes_of low (fix box variable false)) (nodes_of high (fix box variable true)) refutes.1

    in_box : variable < length box
    in_box = let h = refutes.0.exists in omega arith

    size_low : length (fix box variable false) ≡ variables wide
    size_low = length-set box variable (Some false) ∙ size

    same_low : length (fix box variable false) ≡ length freer
    same_low = length-set box variable (Some false) ∙ same

    by : (b : Bool) → is_chosen narrow.upper variable ≡ b → (IsFreer narrow.upper (fix box variable false) freer → Refutes narrow (narrowed narrow low) freer) →
        Refutes narrow (narrowed narrow low) (fix freer variable false) → Refutes narrow (narrowed narrow high) (fix freer variable true) →
        Refutes narrow (cond b (Split variable (narrowed narrow low) (narrowed narrow high)) (narrowed narrow low)) freer
    by true u skip l h = split_refutes narrow variable (narrowed narrow low) (narrowed narrow high) freer (open-narrow narrow wide box freer variable is free refutes.0 u) l h
    by false u skip l h = skip (skip-freer narrow.upper box freer variable in_box refutes.0.free u free)
tree_narrower narrow wide Unclosed box freer is size same free refutes = absurd refutes.0

-- the boxes that fix nothing
none-at : (upper : List Bool) (v : ℕ) → get_or (map (λ (b : Bool). let o : Option Bool = None in o) upper) v None ≡ None
none-at [] v = refl
none-at (u ∷ us) zero = refl
none-at (u ∷ us) (suc v) = none-at us v

pub root-same : (narrow wide : Program) → IsNarrower narrow wide → length (root_box wide) ≡ length (root_box narrow)
root-same narrow wide is = length-map wide.upper (λ _. None) ∙ sym is.size ∙ sym (length-map narrow.upper (λ _. None))

pub root-free : (narrow wide : Program) → IsFreer narrow.upper (root_box wide) (root_box narrow)
root-free narrow wide v = inl (none-at narrow.upper v ∙ sym (none-at wide.upper v))
