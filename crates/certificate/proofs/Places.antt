-- One place of the sums changes.
use Rattle.std.proofs.Common.{◌≡◌, ◌≢◌, ℕ, zero, suc, ◌==◌, ◌+◌, ◌^◌, ◌≤◌, ◌<◌, Bool, true, false, ℤ, pos, ◌+ℤ◌, ◌-ℤ◌, List, map, length, Option, None, Some, get_or, slice_set, refl, sym, ◌∙◌, ap, subst, arith, get_or-set_same, get_or-set_other, to_z, of_z}
use mir.Syntax.{w128}
use Rattle.std.proofs.lemmas.Int.{ints, clamps}
use Rattle.std.specs.List.{range_with_len}
use Rattle.merlin_model.specs.Programs.{Program, variables, total, coefficient_if, is_chosen}
use Rattle.merlin_model.specs.Trees.{fixed_at, least_addition}
use Rattle.integer_program.specs.Bounds.{IsBounded}
use Rattle.integer_program.proofs.Bounds.{within-add, within-taken}
use Rattle.certificate.specs.declared.sums.Sums.{Sums}
use Rattle.certificate.specs.Adding.{sum_at, AreSumsWithin, least_sum}

-- sums of two functions that differ at one number only
outside : (f g : ℕ → ℤ) (u a n : ℕ) → ((v : ℕ) → v ≢ u → g v ≡ f v) → u < a → total (map g (range_with_len a n)) ≡ total (map f (range_with_len a n))
outside f g u a zero same h = refl
outside f g u a (suc n) same h =
    let ne : a ≢ u = omega arith in
    let here = same a ne in
    let rest = outside f g u (a + 1) n same (omega arith) in
    omega (arith, ints)

pub total-change : (f g : ℕ → ℤ) (u a n : ℕ) → ((v : ℕ) → v ≢ u → g v ≡ f v) → a ≤ u → u < a + n →
    total (map g (range_with_len a n)) ≡ (total (map f (range_with_len a n)) +ℤ g u) -ℤ f u
total-change f g u a zero same low high = absurd (omega arith)
total-change f g u a (suc n) same low high = by (u == a) refl (total-change f g u (a + 1) n same)
  where
    by : (b : Bool) → (u == a) ≡ b → (a + 1 ≤ u → u < a + 1 + n → total (map g (range_with_len (a + 1) n)) ≡ (total (map f (range_with_len (a + 1) n)) +ℤ g u) -ℤ f u) →
        g a +ℤ total (map g (range_with_len (a + 1) n)) ≡ ((f a +ℤ total (map f (range_with_len (a + 1) n))) +ℤ g u) -ℤ f u
    by true e ih =
        let at : u ≡ a = grind arith in
        let rest = outside f g u (a + 1) n same (omega arith) in
        let g_here = ap g at in
        let f_here = ap f at in
        omega (arith, ints)
    by false e ih =
        let ne : a ≢ u = grind arith in
        let here = same a ne in
        let later : a + 1 ≤ u = grind arith in
        let rest = ih later (omega arith) in
        omega (arith, ints)

-- the least that a variable can add moves no further than its coefficient
moves : (fixed : Option Bool) (upper : Bool) (b : ℕ) (x amount : ℤ) → IsBounded b amount → IsBounded b (least_addition fixed upper (x +ℤ amount) -ℤ least_addition fixed upper x)
moves (Some true) upper b x amount h = record { low = let l = h.low in omega (arith, ints); high = let l = h.high in omega (arith, ints) }
moves (Some false) upper b x amount h = record { low = omega (arith, ints); high = omega (arith, ints) }
moves None true b x amount h = record { low = let l = h.low in omega (arith, ints, clamps); high = let l = h.high in omega (arith, ints, clamps) }
moves None false b x amount h = record { low = omega (arith, ints); high = omega (arith, ints) }

-- one amount is added at one variable
pub record IsAdded (box : Option Bool) (upper : Bool) (variable : ℕ) (amount : ℤ) (before after : Sums) : Type 0 where
  pub coefficient : after.by_variable ≡ slice_set before.by_variable variable (sum_at before variable +ℤ amount)
  pub least : after.least ≡ (before.least +ℤ least_addition box upper (sum_at before variable +ℤ amount)) -ℤ least_addition box upper (sum_at before variable)

added-each : (sums : List ℤ) (variable : ℕ) (amount : ℤ) → variable < length sums → (v : ℕ) →
    get_or (slice_set sums variable (get_or sums variable (pos 0) +ℤ amount)) v (pos 0) ≡ get_or sums v (pos 0) +ℤ coefficient_if (variable == v) amount
added-each sums variable amount h v = by (variable == v) refl
  where
    by : (b : Bool) → (variable == v) ≡ b → get_or (slice_set sums variable (get_or sums variable (pos 0) +ℤ amount)) v (pos 0) ≡ get_or sums v (pos 0) +ℤ coefficient_if b amount
    by true e =
        let at : variable ≡ v = grind arith in
        subst (λ u. get_or (slice_set sums variable (get_or sums variable (pos 0) +ℤ amount)) u (pos 0) ≡ get_or sums u (pos 0) +ℤ amount) at
        (get_or-set_same sums variable (get_or sums variable (pos 0) +ℤ amount) (pos 0) h)
    by false e =
        let other : v ≢ variable = grind arith in
        let same = get_or-set_other sums variable v (get_or sums variable (pos 0) +ℤ amount) (pos 0) other in
        omega (arith, ints)

pub added_each : (box : Option Bool) (upper : Bool) (variable : ℕ) (amount : ℤ) (before after : Sums) → IsAdded box upper variable amount before after → variable < length before.by_variable →
    (v : ℕ) → sum_at after v ≡ sum_at before v +ℤ coefficient_if (variable == v) amount
added_each box upper variable amount before after is h v =
    ap (λ xs. get_or xs v (pos 0)) is.coefficient ∙ added-each before.by_variable variable amount h v

pub added_least : (program : Program) (box : List (Option Bool)) (variable : ℕ) (amount : ℤ) (before after : Sums) →
    IsAdded (fixed_at box variable) (is_chosen program.upper variable) variable amount before after → variable < variables program → length before.by_variable ≡ variables program →
    before.least ≡ least_sum program box before.by_variable → after.least ≡ least_sum program box after.by_variable
added_least program box variable amount before after is h size least =
    let f = λ (v : ℕ). least_addition (fixed_at box v) (is_chosen program.upper v) (get_or before.by_variable v (pos 0)) in
    let g = λ (v : ℕ). least_addition (fixed_at box v) (is_chosen program.upper v) (get_or (slice_set before.by_variable variable (sum_at before variable +ℤ amount)) v (pos 0)) in
    let same : (v : ℕ) → v ≢ variable → g v ≡ f v = λ v ne. ap (least_addition (fixed_at box v) (is_chosen program.upper v)) (get_or-set_other before.by_variable variable v (sum_at before variable +ℤ amount) (pos 0) ne) in
    let change : total (map g (range_with_len 0 (variables program))) ≡ (total (map f (range_with_len 0 (variables program))) +ℤ g variable) -ℤ f variable = total-change f g variable 0 (variables program) same (omega arith) (omega arith) in
    let at : g variable ≡ least_addition (fixed_at box variable) (is_chosen program.upper variable) (sum_at before variable +ℤ amount) =
    ap (least_addition (fixed_at box variable) (is_chosen program.upper variable)) (get_or-set_same before.by_variable variable (sum_at before variable +ℤ amount) (pos 0) (omega arith)) in
    is.least ∙ ap (λ z. (z +ℤ least_addition (fixed_at box variable) (is_chosen program.upper variable) (sum_at before variable +ℤ amount)) -ℤ f variable) least
    ∙ ap (λ z. (least_sum program box before.by_variable +ℤ z) -ℤ f variable) (sym at) ∙ sym change ∙ ap (least_sum program box) (sym is.coefficient)

pub added_small : (box : Option Bool) (upper : Bool) (variable : ℕ) (amount : ℤ) (before after : Sums) (bound more : ℕ) → IsAdded box upper variable amount before after → variable < length before.by_variable →
    IsBounded more amount → AreSumsWithin bound before → AreSumsWithin (bound + more) after
added_small box upper variable amount before after bound more is h a small = record {
  each = λ v. subst (IsBounded (bound + more)) (sym (added_each box upper variable amount before after is h v)) (within-add bound more (sum_at before v) _ (small.each v) (within-taken more (variable == v) amount a));
  least = subst (IsBounded (bound + more)) (sym (is.least ∙ regroup)) (within-add bound more before.least _ small.least (moves box upper more (sum_at before variable) amount a));
}
  where
    regroup : (before.least +ℤ least_addition box upper (sum_at before variable +ℤ amount)) -ℤ least_addition box upper (sum_at before variable)
        ≡ before.least +ℤ (least_addition box upper (sum_at before variable +ℤ amount) -ℤ least_addition box upper (sum_at before variable))
    regroup = omega (arith, ints)

least_addition-within : (fixed : Option Bool) (upper : Bool) (b : ℕ) (x : ℤ) → IsBounded b x → IsBounded b (least_addition fixed upper x)
least_addition-within (Some true) upper b x h = h
least_addition-within (Some false) upper b x h = record { low = omega (arith, ints); high = omega (arith, ints) }
least_addition-within None true b x h = record { low = let l = h.low in omega (arith, ints, clamps); high = let l = h.high in omega (arith, ints, clamps) }
least_addition-within None false b x h = record { low = omega (arith, ints); high = omega (arith, ints) }

-- what the code computes with at one variable
pub record AreAdditions (fixed : Option Bool) (upper : Bool) (x amount after before : ℤ) : Type 0 where
  pub after_is : after ≡ least_addition fixed upper (x +ℤ amount)
  pub before_is : before ≡ least_addition fixed upper x
  pub after_small : IsBounded (2 ^ 126) after
  pub before_small : IsBounded (2 ^ 126) before
  pub apart : IsBounded (2 ^ 90) (after -ℤ before)

pub are-additions : (fixed : Option Bool) (upper : Bool) (x read amount after before : ℤ) → IsBounded (2 ^ 125) x → IsBounded (2 ^ 90) amount → read ≡ x →
    after ≡ least_addition fixed upper (to_z w128 (of_z w128 (to_z w128 (of_z w128 read) +ℤ to_z w128 (of_z w128 amount)))) → before ≡ least_addition fixed upper (to_z w128 (of_z w128 read)) →
    AreAdditions fixed upper x amount after before
are-additions fixed upper x read amount after before small a same e f = record {
  after_is = first;
  before_is = second;
  after_small = subst (IsBounded (2 ^ 126)) (sym first) (least_addition-within fixed upper (2 ^ 126) (x +ℤ amount) (record { low = omega (arith, ints); high = omega (arith, ints) }));
  before_small = subst (IsBounded (2 ^ 126)) (sym second) (least_addition-within fixed upper (2 ^ 126) x (record { low = omega (arith, ints); high = omega (arith, ints) }));
  apart = subst (λ z. IsBounded (2 ^ 90) (z -ℤ before)) (sym first) (subst (λ z. IsBounded (2 ^ 90) (least_addition fixed upper (x +ℤ amount) -ℤ z)) (sym second) (moves fixed upper (2 ^ 90) x amount a));
}
  where
    first : after ≡ least_addition fixed upper (x +ℤ amount)
    first = let same' : to_z w128 (of_z w128 (to_z w128 (of_z w128 read) +ℤ to_z w128 (of_z w128 amount))) ≡ x +ℤ amount = omega (arith, ints) in e ∙ ap (least_addition fixed upper) same'

    second : before ≡ least_addition fixed upper x
    second = let same' : to_z w128 (of_z w128 read) ≡ x = omega (arith, ints) in f ∙ ap (least_addition fixed upper) same'

-- the same where the place and the bound are known by equations
pub added-at : (place fixed : Option Bool) (may_be_one upper : Bool) (variable : ℕ) (amount : ℤ) (before after : Sums) → place ≡ fixed → may_be_one ≡ upper →
    IsAdded place may_be_one variable amount before after → IsAdded fixed upper variable amount before after
added-at place fixed may_be_one upper variable amount before after e f is =
    subst (λ p. IsAdded p upper variable amount before after) e (subst (λ u. IsAdded place u variable amount before after) f is)
