-- How the program of two items moves with its cutoffs.
use Rattle.std.proofs.Common.{ℕ, zero, suc, ◌≡◌, ◌≤◌, ◌<◌, ◌+◌, ◌^◌, nat_abs, Bool, true, false, ℤ, pos, negsuc, ◌-ℤ◌, ◌+ℤ◌, ◌≤ℤ◌, List, [], ◌∷◌, length, get_or, Option, None, Some, nat_lt, refl, sym, ◌∙◌, ap, subst, arith}
use Rattle.std.proofs.lemmas.Int.{ints}
use Rattle.std.specs.Prelude.{if◌then◌else◌}
use Rattle.merlin_model.specs.Programs.{coefficient_if, IsSolution, IsProgram, HasCutoffs, IsNarrower, is_lower, is_chosen}
use Rattle.search_tests.specs.declared.items.Wanted.{Wanted}
use Rattle.search_tests.specs.declared.items.Wanted.TheVariants.{One, Both, Three}
use Rattle.search_tests.specs.Items.{items_at, cost_of, cost_if, most_spent, may_take, least_taken}

false-true : false ≡ true → ⊥
false-true e = cc

irreflexive : (a : ℕ) → nat_lt a a ≡ false
irreflexive a = grind arith

transitive : (a b c : ℕ) → nat_lt a b ≡ true → nat_lt b c ≡ true → nat_lt a c ≡ true
transitive a b c e f = grind arith

level : (a b : ℕ) → nat_lt a b ≡ false → nat_lt b a ≡ false → a ≡ b
level a b e f = grind arith

-- What may be spent.

spent_at : (z : ℕ) (b : Bool) → nat_lt z 4 ≡ b → most_spent (Some z) ≡ (if b then pos z -ℤ pos 1 else pos 3)
spent_at z b e = ap (λ (t : Bool). if t then pos z -ℤ pos 1 else pos 3) e

pub at_most : (z : ℕ) → most_spent (Some z) ≤ℤ pos 3
at_most z = by (nat_lt z 4) refl
  where
    by : (b : Bool) → nat_lt z 4 ≡ b → most_spent (Some z) ≤ℤ pos 3
    by true e = let low : z < 4 = grind arith in let s = spent_at z true e in omega (arith, ints)
    by false e = let s = spent_at z false e in omega (arith, ints)

pub below_spent : (z v : ℕ) → v ≤ 3 → pos v ≤ℤ most_spent (Some z) → nat_lt v z ≡ true
below_spent z v small h = by (nat_lt z 4) refl
  where
    by : (b : Bool) → nat_lt z 4 ≡ b → nat_lt v z ≡ true
    by true e = let s = spent_at z true e in let less : v < z = omega (arith, ints) in grind arith
    by false e = let high : 4 ≤ z = grind arith in let less : v < z = omega arith in grind arith

pub spent_below : (z v : ℕ) → v ≤ 3 → nat_lt v z ≡ true → pos v ≤ℤ most_spent (Some z)
spent_below z v small h = by (nat_lt z 4) refl
  where
    less : v < z
    less = grind arith

    by : (b : Bool) → nat_lt z 4 ≡ b → pos v ≤ℤ most_spent (Some z)
    by true e = let s = spent_at z true e in let l = less in omega (arith, ints)
    by false e = let s = spent_at z false e in omega (arith, ints)

falls : (a b : Option ℕ) → is_lower nat_lt a b ≡ true → most_spent a ≤ℤ most_spent b
falls None b e = absurd (false-true e)
falls (Some a) None e = at_most a
falls (Some a) (Some b) e = by (nat_lt a 4) refl (nat_lt b 4) refl
  where
    less : a < b
    less = grind arith

    by : (x : Bool) → nat_lt a 4 ≡ x → (y : Bool) → nat_lt b 4 ≡ y → most_spent (Some a) ≤ℤ most_spent (Some b)
    by true e true f = let s = spent_at a true e in let t = spent_at b true f in let l = less in omega (arith, ints)
    by true e false f = let s = at_most a in let t = spent_at b false f in omega (arith, ints)
    by false e y f = let high : 4 ≤ a = grind arith in let l = less in let s = at_most a in let t = spent_below b 3 (omega arith) (let m : 3 < b = omega arith in grind arith) in omega (arith, ints)

takes_more : (cost : ℕ) (a b : Option ℕ) → is_lower nat_lt a b ≡ true → may_take cost a ≡ true → may_take cost b ≡ true
takes_more cost None b e h = absurd (false-true e)
takes_more cost (Some a) None e h = refl
takes_more cost (Some a) (Some b) e h = transitive cost a b h e

narrows : (wanted : Wanted) (a b : Option ℕ) → is_lower nat_lt a b ≡ true → IsNarrower (items_at wanted a) (items_at wanted b)
narrows wanted a b e = record {
  rows = (
    record { entries = refl; is_equality = refl; right = omega (arith, ints); still = λ f. refl },
    (record { entries = refl; is_equality = refl; right = falls a b e; still = λ f. absurd (false-true f) }, tt),
  );
  size = refl;
  upper = by;
}
  where
    by : (v : ℕ) → is_chosen (items_at wanted a).upper v ≡ true → is_chosen (items_at wanted b).upper v ≡ true
    by zero h = takes_more 2 a b e h
    by (suc zero) h = takes_more 1 a b e h
    by (suc (suc v)) h = absurd (false-true h)

-- Points.

pub some_cost : (point : List Bool) → cost_of point ≤ 3
some_cost point = by (is_chosen point 0) (is_chosen point 1)
  where
    by : (x y : Bool) → cost_if x 2 + cost_if y 1 ≤ 3
    by true true = omega arith
    by true false = omega arith
    by false true = omega arith
    by false false = omega arith

lowers : (wanted : Wanted) (z : ℕ) (point : List Bool) → IsSolution (items_at wanted (Some z)) point → nat_lt (cost_of point) z ≡ true
lowers wanted z point solution = below_spent z (cost_of point) (some_cost point) (by (is_chosen point 0) (is_chosen point 1) solution.meets.1.0)
  where
    by : (x y : Bool) → (coefficient_if x (pos 2) +ℤ (coefficient_if y (pos 1) +ℤ pos 0)) ≤ℤ most_spent (Some z) → pos (cost_if x 2 + cost_if y 1) ≤ℤ most_spent (Some z)
    by true true h = h
    by true false h = h
    by false true h = h
    by false false h = h

reaches : (wanted : Wanted) (z : ℕ) (point : List Bool) → IsSolution (items_at wanted None) point → nat_lt (cost_of point) z ≡ true → IsSolution (items_at wanted (Some z)) point
reaches wanted z point solution e = record {
  size = solution.size;
  within = λ v chosen. within v chosen (is_chosen point 0) refl (is_chosen point 1) refl;
  meets = (solution.meets.0, (by (is_chosen point 0) (is_chosen point 1) (spent_below z (cost_of point) (some_cost point) e), tt));
}
  where
    by : (x y : Bool) → pos (cost_if x 2 + cost_if y 1) ≤ℤ most_spent (Some z) → (coefficient_if x (pos 2) +ℤ (coefficient_if y (pos 1) +ℤ pos 0)) ≤ℤ most_spent (Some z)
    by true true h = h
    by true false h = h
    by false true h = h
    by false false h = h

    costs : cost_of point < z
    costs = grind arith

    past : (xs : List Bool) (v : ℕ) → length xs ≡ 2 → is_chosen xs (suc (suc v)) ≡ false
    past [] v s = refl
    past (x ∷ []) v s = refl
    past (x ∷ (y ∷ [])) v s = refl
    past (x ∷ (y ∷ (w ∷ ws))) v s = let bad : ⊥ = omega arith in absurd bad

    within : (v : ℕ) → is_chosen point v ≡ true → (x : Bool) → is_chosen point 0 ≡ x → (y : Bool) → is_chosen point 1 ≡ y → is_chosen (items_at wanted (Some z)).upper v ≡ true
    within zero h x p y q =
        let cost : cost_of point ≡ 2 + cost_if (is_chosen point 1) 1 = ap (λ b. cost_if b 2 + cost_if (is_chosen point 1) 1) h in
        let c = costs in let less : 2 < z = omega arith in grind arith
    within (suc zero) h x p y q =
        let cost : cost_of point ≡ cost_if (is_chosen point 0) 2 + 1 = ap (λ b. cost_if (is_chosen point 0) 2 + cost_if b 1) h in
        let c = costs in let less : 1 < z = omega arith in grind arith
    within (suc (suc v)) h x p y q = let size = solution.size in absurd (false-true (sym (past point v size) ∙ h))

pub items-cutoffs : (wanted : Wanted) → HasCutoffs ℕ (items_at wanted) (λ z. true) nat_lt cost_of
items-cutoffs wanted = record {
  irreflexive = λ a t. irreflexive a;
  transitive = λ a b c t u v e f. transitive a b c e f;
  level = λ a b t u e f. ap (λ z. items_at wanted (Some z)) (level a b e f);
  narrows = λ a b t u e. narrows wanted a b e;
  lowers = λ z point t solution. lowers wanted z point solution;
  reaches = λ z point t solution e. reaches wanted z point solution e;
  taken = λ z point t e. t;
}

pub items-program : (wanted : Wanted) (cutoff : Option ℕ) → IsProgram (items_at wanted cutoff)
items-program wanted cutoff = record {
  few_variables = omega arith;
  few_rows = omega arith;
  rows = (
    record { ascend = λ k h. two k h; exist = (omega arith, (omega arith, tt)); small = (omega arith, (omega arith, tt)); small_right = few wanted },
    (record { ascend = λ k h. two k h; exist = (omega arith, (omega arith, tt)); small = (omega arith, (omega arith, tt)); small_right = by cutoff }, tt),
  );
}
  where
    two : (k : ℕ) → k + 1 < 2 → get_or (0 ∷ 1 ∷ []) k 0 < get_or (0 ∷ 1 ∷ []) (k + 1) 0
    two zero h = omega arith
    two (suc k) h = let bad : ⊥ = omega arith in absurd bad

    few : (wanted : Wanted) → nat_abs (least_taken wanted) ≤ 2 ^ 45
    few One = omega arith
    few Both = omega arith
    few Three = omega arith

    by : (cutoff : Option ℕ) → nat_abs (most_spent cutoff) ≤ 2 ^ 45
    by None = omega (arith, ints)
    by (Some z) = small (nat_lt z 4) refl
      where
        small : (b : Bool) → nat_lt z 4 ≡ b → nat_abs (most_spent (Some z)) ≤ 2 ^ 45
        small true e = let low : z < 4 = grind arith in let s = spent_at z true e in omega (arith, ints)
        small false e = let s = spent_at z false e in omega (arith, ints)
