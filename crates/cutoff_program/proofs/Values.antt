-- The value of loads, and the cutoffs that it is below.
use Rattle.std.proofs.Common.{◌≡◌, ℕ, zero, suc, ◌*◌, ◌≤◌, ◌<◌, Bool, true, false, cond, ℤ, pos, ◌≤ℤ◌, List, [], ◌∷◌, map, length, Some, max, refl, ap, arith}
use Rattle.std.proofs.lemmas.Int.{ints}
use Rattle.std.proofs.lemmas.Bool.{ltb-true, lt-ltb}
use Rattle.std.proofs.Math.Nat.{mul-le-mul_right}
use Rattle.std.specs.List.{AllByRecursion, AllZip}
use Rattle.merlin_model.specs.declared.policy.Objective.{Objective}
use Rattle.merlin_model.specs.declared.policy.Objective.TheVariants as objective
use Rattle.merlin_model.specs.declared.policy.Value.{Value}
use Rattle.merlin_model.specs.declared.policy.Value.TheVariants.{Whole, Ratio}
use Rattle.merlin_model.specs.Rates.{greatest_of}
use Rattle.merlin_model.specs.Assignments.{greatest_ratio, ratio_lt}
use Rattle.cutoff_program.specs.Flows.{one_less, quotient_of_one_less, room, cutoff_right, takes, is_below, value_by}
use Rattle.cutoff_program.proofs.Rooms.{false_true, ratio-le-lt, quotient-from, quotient-to, min-right, min-least, one_less-from, one_less-to, not-less, ratio_taken}

as_z : (m n : ℕ) → m ≤ n → pos m ≤ℤ pos n
as_z m n h = omega (arith, ints)

through : (a b c : ℤ) → a ≤ℤ b → b ≤ℤ c → a ≤ℤ c
through a b c h g = omega (arith, ints)

-- The greatest of loads.

pub greatest-below : (z : ℕ) (loads : List (ℕ × ℕ)) → 0 < z → AllByRecursion (λ l. l.0 < z) loads → greatest_of (map (λ l. l.0) loads) < z
greatest-below z [] p h = p
greatest-below z (l ∷ loads) p h = let ih = greatest-below z loads p h.1 in both l.0 (greatest_of (map (λ l. l.0) loads)) h.0 ih
  where
    both : (m n : ℕ) → m < z → n < z → max m n < z
    both m n g k = omega arith

pub below-greatest : (z : ℕ) (loads : List (ℕ × ℕ)) → greatest_of (map (λ l. l.0) loads) < z → AllByRecursion (λ l. l.0 < z) loads
below-greatest z [] h = tt
below-greatest z (l ∷ loads) h = (first l.0 (greatest_of (map (λ l. l.0) loads)) h, below-greatest z loads (second l.0 (greatest_of (map (λ l. l.0) loads)) h))
  where
    first : (m n : ℕ) → max m n < z → m < z
    first m n g = omega arith

    second : (m n : ℕ) → max m n < z → n < z
    second m n g = omega arith

-- The greatest ratio of loads to capacities.

pub ratio-below : (a b : ℕ) (loads : List (ℕ × ℕ)) → 0 < a → AllByRecursion (λ l. l.0 * b < a * l.1) loads → (greatest_ratio loads).0 * b < a * (greatest_ratio loads).1
ratio-below a b [] p h = let x : 0 * b ≡ 0 = omega arith in let y : a * 1 ≡ a = omega arith in omega arith
ratio-below a b (l ∷ loads) p h = by (ratio_lt l (greatest_ratio loads)) (ratio-below a b loads p h.1)
  where
    by : (c : Bool) → (greatest_ratio loads).0 * b < a * (greatest_ratio loads).1 → (cond c (greatest_ratio loads) l).0 * b < a * (cond c (greatest_ratio loads) l).1
    by true g = g
    by false g = h.0

pub ratio-positive : (loads : List (ℕ × ℕ)) → AllByRecursion (λ l. 0 < l.1) loads → 0 < (greatest_ratio loads).1
ratio-positive [] h = omega arith
ratio-positive (l ∷ loads) h = by (ratio_lt l (greatest_ratio loads)) (ratio-positive loads h.1)
  where
    by : (c : Bool) → 0 < (greatest_ratio loads).1 → 0 < (cond c (greatest_ratio loads) l).1
    by true g = g
    by false g = h.0

pub below-ratio : (a b : ℕ) (loads : List (ℕ × ℕ)) → AllByRecursion (λ l. 0 < l.1) loads → (greatest_ratio loads).0 * b < a * (greatest_ratio loads).1 → AllByRecursion (λ l. l.0 * b < a * l.1) loads
below-ratio a b [] p h = tt
below-ratio a b (l ∷ loads) p h = by (ratio_lt l (greatest_ratio loads)) refl h (below-ratio a b loads p.1)
  where
    less : (m n : ℕ) → m < n → m ≤ n
    less m n h = omega arith

    by : (c : Bool) → ratio_lt l (greatest_ratio loads) ≡ c → (cond c (greatest_ratio loads) l).0 * b < a * (cond c (greatest_ratio loads) l).1 →
        ((greatest_ratio loads).0 * b < a * (greatest_ratio loads).1 → AllByRecursion (λ l. l.0 * b < a * l.1) loads) → AllByRecursion (λ l. l.0 * b < a * l.1) (l ∷ loads)
    by true e g ih =
        let first : l.0 * b < a * l.1 = ratio-le-lt l.0 l.1 (greatest_ratio loads).0 (greatest_ratio loads).1 a b (less _ _ (ltb-true (l.0 * (greatest_ratio loads).1) ((greatest_ratio loads).0 * l.1) e)) g p.0 in
        (first, ih g)
    by false e g ih =
        let rest : (greatest_ratio loads).0 * b < a * (greatest_ratio loads).1 =
        ratio-le-lt (greatest_ratio loads).0 (greatest_ratio loads).1 l.0 l.1 a b (not-less (l.0 * (greatest_ratio loads).1) ((greatest_ratio loads).0 * l.1) e) g (ratio-positive loads p.1) in
        (g, ih rest)

-- What the cutoff row counts.
abbrev pub counted : Objective → ℕ → ℕ
counted objective.Shortest n = n
counted objective.Ratio n = 0
counted objective.Reserved n = 0

all-to : (P Q : ℕ × ℕ → Type 0) (loads : List (ℕ × ℕ)) → ((l : ℕ × ℕ) → P l → Q l) → AllByRecursion P loads → AllByRecursion Q loads
all-to P Q [] h a = tt
all-to P Q (l ∷ loads) h a = (h l a.0, all-to P Q loads h a.1)

-- loads and a length within what a cutoff net_out have a value below it
pub under : (o : Objective) (z : Value) (length total : ℕ) (loads : List (ℕ × ℕ)) → takes o z ≡ true → AllByRecursion (λ l. pos l.0 ≤ℤ room o (Some z) l.1) loads →
    pos (counted o length) ≤ℤ cutoff_right (Some z) total → is_below (value_by o length loads) z ≡ true
under objective.Shortest (Whole z) length total loads t h g = lt-ltb length z (one_less-to z length (through _ _ _ g (min-right (pos total) (one_less z))))
under objective.Reserved (Whole z) length total loads t h g =
    let p : 0 < z = one_less-to z 0 (through _ _ _ g (min-right (pos total) (one_less z))) in
    lt-ltb (greatest_of (map (λ l. l.0) loads)) z
    (greatest-below z loads p (all-to (λ l. pos l.0 ≤ℤ room objective.Reserved (Some (Whole z)) l.1) (λ l. l.0 < z) loads (λ l x. one_less-to z l.0 (through _ _ _ x (min-right (pos l.1) (one_less z)))) h))
under objective.Ratio (Ratio a b) length total loads t h g =
    let p : 0 < a = one_less-to a 0 (through _ _ _ g (min-right (pos total) (one_less a))) in
    lt-ltb ((greatest_ratio loads).0 * b) (a * (greatest_ratio loads).1)
    (ratio-below a b loads p
    (all-to (λ l. pos l.0 ≤ℤ room objective.Ratio (Some (Ratio a b)) l.1) (λ l. l.0 * b < a * l.1) loads
    (λ l x. quotient-to (a * l.1) b l.0 (through _ _ _ x (min-right (pos l.1) (quotient_of_one_less (a * l.1) b)))) h))
under objective.Shortest (Ratio a b) length total loads t h g = absurd (false_true t)
under objective.Reserved (Ratio a b) length total loads t h g = absurd (false_true t)
under objective.Ratio (Whole z) length total loads t h g = absurd (false_true t)

-- The same back.

pub under-loads : (o : Objective) (z : Value) (length : ℕ) (loads : List (ℕ × ℕ)) → takes o z ≡ true → AllByRecursion (λ l. 0 < l.1) loads → AllByRecursion (λ l. l.0 ≤ l.1) loads →
    is_below (value_by o length loads) z ≡ true → AllByRecursion (λ l. pos l.0 ≤ℤ room o (Some z) l.1) loads
under-loads objective.Shortest (Whole z) length loads t p h g = all-to (λ l. l.0 ≤ l.1) (λ l. pos l.0 ≤ℤ pos l.1) loads (λ l x. as_z l.0 l.1 x) h
under-loads objective.Reserved (Whole z) length loads t p h g =
    both loads h (below-greatest z loads (ltb-true (greatest_of (map (λ l. l.0) loads)) z g))
  where
    both : (ls : List (ℕ × ℕ)) → AllByRecursion (λ l. l.0 ≤ l.1) ls → AllByRecursion (λ l. l.0 < z) ls → AllByRecursion (λ l. pos l.0 ≤ℤ room objective.Reserved (Some (Whole z)) l.1) ls
    both [] x y = tt
    both (l ∷ ls) x y = (min-least (pos l.1) (one_less z) (pos l.0) (as_z l.0 l.1 x.0) (one_less-from z l.0 y.0), both ls x.1 y.1)
under-loads objective.Ratio (Ratio a b) length loads t p h g =
    both loads h (below-ratio a b loads p (ltb-true ((greatest_ratio loads).0 * b) (a * (greatest_ratio loads).1) g))
  where
    both : (ls : List (ℕ × ℕ)) → AllByRecursion (λ l. l.0 ≤ l.1) ls → AllByRecursion (λ l. l.0 * b < a * l.1) ls → AllByRecursion (λ l. pos l.0 ≤ℤ room objective.Ratio (Some (Ratio a b)) l.1) ls
    both [] x y = tt
    both (l ∷ ls) x y = (min-least (pos l.1) (quotient_of_one_less (a * l.1) b) (pos l.0) (as_z l.0 l.1 x.0) (quotient-from (a * l.1) b l.0 (ratio_taken a b t) y.0), both ls x.1 y.1)
under-loads objective.Shortest (Ratio a b) length loads t p h g = absurd (false_true t)
under-loads objective.Reserved (Ratio a b) length loads t p h g = absurd (false_true t)
under-loads objective.Ratio (Whole z) length loads t p h g = absurd (false_true t)

pub under-length : (o : Objective) (z : Value) (length total : ℕ) (loads : List (ℕ × ℕ)) → takes o z ≡ true → counted o length ≤ total →
    is_below (value_by o length loads) z ≡ true → pos (counted o length) ≤ℤ cutoff_right (Some z) total
under-length objective.Shortest (Whole z) length total loads t m g = min-least (pos total) (one_less z) (pos length) (as_z length total m) (one_less-from z length (ltb-true length z g))
under-length objective.Reserved (Whole z) length total loads t m g =
    min-least (pos total) (one_less z) (pos 0) (as_z 0 total m) (one_less-from z 0 (above (greatest_of (map (λ l. l.0) loads)) z (ltb-true (greatest_of (map (λ l. l.0) loads)) z g)))
  where
    above : (m n : ℕ) → m < n → 0 < n
    above m n h = omega arith
under-length objective.Ratio (Ratio a b) length total loads t m g =
    min-least (pos total) (one_less a) (pos 0) (as_z 0 total m) (one_less-from a 0 (above a ((greatest_ratio loads).0 * b) (greatest_ratio loads).1 (ltb-true ((greatest_ratio loads).0 * b) (a * (greatest_ratio loads).1) g)))
  where
    above : (a m n : ℕ) → m < a * n → 0 < a
    above zero m n h = let e : 0 * n ≡ 0 = omega arith in omega arith
    above (suc a) m n h = omega arith
under-length objective.Shortest (Ratio a b) length total loads t m g = absurd (false_true t)
under-length objective.Reserved (Ratio a b) length total loads t m g = absurd (false_true t)
under-length objective.Ratio (Whole z) length total loads t m g = absurd (false_true t)

-- The value of smaller loads is below each cutoff that the value of the loads is below.

-- the capacities are the same, and no load is greater
abbrev pub AreNoMore : List (ℕ × ℕ) → List (ℕ × ℕ) → Type 0
AreNoMore less more = AllZip (λ l m. (l.0 ≤ m.0) × (l.1 ≡ m.1)) less more

pub lower-value : (o : Objective) (z : Value) (short long : ℕ) (less more : List (ℕ × ℕ)) → takes o z ≡ true → short ≤ long → AreNoMore less more → AllByRecursion (λ l. 0 < l.1) more →
    is_below (value_by o long more) z ≡ true → is_below (value_by o short less) z ≡ true
lower-value objective.Shortest (Whole z) short long less more t s n p g = lt-ltb short z (let x = ltb-true long z g in omega arith)
lower-value objective.Reserved (Whole z) short long less more t s n p g =
    lt-ltb (greatest_of (map (λ l. l.0) less)) z (greatest-below z less (above (greatest_of (map (λ l. l.0) more)) (ltb-true (greatest_of (map (λ l. l.0) more)) z g))
    (down less more n (below-greatest z more (ltb-true (greatest_of (map (λ l. l.0) more)) z g))))
  where
    above : (m : ℕ) → m < z → 0 < z
    above m h = omega arith

    down : (ls ms : List (ℕ × ℕ)) → AreNoMore ls ms → AllByRecursion (λ l. l.0 < z) ms → AllByRecursion (λ l. l.0 < z) ls
    down [] [] n h = tt
    down (l ∷ ls) (m ∷ ms) n h = (let x = n.0.0 in let y = h.0 in omega arith, down ls ms n.1 h.1)
    down [] (m ∷ ms) n h = tt
    down (l ∷ ls) [] n h = absurd n
lower-value objective.Ratio (Ratio a b) short long less more t s n p g =
    let below = ltb-true ((greatest_ratio more).0 * b) (a * (greatest_ratio more).1) g in
    lt-ltb ((greatest_ratio less).0 * b) (a * (greatest_ratio less).1)
    (ratio-below a b less (above a ((greatest_ratio more).0 * b) (greatest_ratio more).1 below) (down less more n (below-ratio a b more p below)))
  where
    above : (a m n : ℕ) → m < a * n → 0 < a
    above zero m n h = let e : 0 * n ≡ 0 = omega arith in omega arith
    above (suc a) m n h = omega arith

    step : (l m : ℕ × ℕ) → l.0 ≤ m.0 → l.1 ≡ m.1 → m.0 * b < a * m.1 → l.0 * b < a * l.1
    step l m x y h = let u : l.0 * b ≤ m.0 * b = mul-le-mul_right b x in let v : a * l.1 ≡ a * m.1 = ap (λ n. a * n) y in chain _ _ _ _ u h v
      where
        chain : (i j k l : ℕ) → i ≤ j → j < k → l ≡ k → i < l
        chain i j k l u h v = omega arith

    down : (ls ms : List (ℕ × ℕ)) → AreNoMore ls ms → AllByRecursion (λ l. l.0 * b < a * l.1) ms → AllByRecursion (λ l. l.0 * b < a * l.1) ls
    down [] [] n h = tt
    down (l ∷ ls) (m ∷ ms) n h = (step l m n.0.0 n.0.1 h.0, down ls ms n.1 h.1)
    down [] (m ∷ ms) n h = tt
    down (l ∷ ls) [] n h = absurd n
lower-value objective.Shortest (Ratio a b) short long less more t s n p g = absurd (false_true t)
lower-value objective.Reserved (Ratio a b) short long less more t s n p g = absurd (false_true t)
lower-value objective.Ratio (Whole z) short long less more t s n p g = absurd (false_true t)
