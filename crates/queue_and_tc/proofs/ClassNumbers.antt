-- Classes are numbered from 1: by how many statements before have one.
use Rattle.std.proofs.Common.{ℕ, zero, suc, ◌≡◌, ◌≢◌, ◌≤◌, ◌<◌, ◌+◌, ◌==◌, Bool, true, false, cond, List, [], ◌∷◌, ◌++◌, length, map, filter, None, Some, is_some, refl, sym, ◌∙◌, ap, arith}
use Rattle.std.specs.List.{flat_map, range_with_len}
use Rattle.merlin_model.specs.declared.config.HostLine.{HostLine}
use Rattle.merlin_model.specs.Networks.{Network}
use Rattle.merlin_model.specs.Policies.{Policy}
use Rattle.configuration_model.specs.Hosts.{class_from, class_lines}
use Rattle.queue_and_tc.specs.declared.standings.Standing.{Standing}
use Rattle.configuration_model.specs.Pairs.{pair_cells}
use Rattle.queue_and_tc.specs.Shares.{Sources, sources_in, has_class, count_before, standing_of}
use Rattle.queue_and_tc.specs.HostTexts.{class_line}

range-suc : (a n : ℕ) → range_with_len a (suc n) ≡ range_with_len a n ++ (a + n) ∷ []
range-suc a zero = ap (λ k. k ∷ []) (let e : a ≡ a + 0 = omega arith in e)
range-suc a (suc n) = ap (λ ks. a ∷ ks) (range-suc (a + 1) n ∙ ap (λ k. range_with_len (a + 1) n ++ k ∷ []) (let e : (a + 1) + n ≡ a + suc n = omega arith in e))

pub range-next : (n : ℕ) → range_with_len 0 (n + 1) ≡ range_with_len 0 n ++ n ∷ []
range-next n =
    ap (range_with_len 0) (let e : n + 1 ≡ suc n = omega arith in e) ∙ range-suc 0 n ∙ ap (λ k. range_with_len 0 n ++ k ∷ []) (let e : 0 + n ≡ n = omega arith in e)

pub filter-append : {X : Type 0} (p : X → Bool) (xs ys : List X) → filter p (xs ++ ys) ≡ filter p xs ++ filter p ys
filter-append p [] ys = refl
filter-append {X} p (x ∷ xs) ys = by (p x) (filter-append p xs ys)
  where
    by : (b : Bool) → filter p (xs ++ ys) ≡ filter p xs ++ filter p ys → cond b (x ∷ filter p (xs ++ ys)) (filter p (xs ++ ys)) ≡ cond b (x ∷ filter p xs) (filter p xs) ++ filter p ys
    by true e = ap (λ zs. x ∷ zs) e
    by false e = e

length-append : {X : Type 0} (xs : List X) (y : X) → length (xs ++ y ∷ []) ≡ length xs + 1
length-append [] y = refl
length-append (x ∷ xs) y = let e = length-append xs y in omega arith

pub filter-next : (p : ℕ → Bool) (n : ℕ) → filter p (range_with_len 0 (n + 1)) ≡ filter p (range_with_len 0 n) ++ cond (p n) (n ∷ []) []
filter-next p n = ap (filter p) (range-next n) ∙ filter-append p (range_with_len 0 n) (n ∷ [])

count-yes : (p : ℕ → Bool) (n : ℕ) → p n ≡ true → count_before p (n + 1) ≡ count_before p n + 1
count-yes p n e = ap length (filter-next p n ∙ ap (λ b. filter p (range_with_len 0 n) ++ cond b (n ∷ []) []) e) ∙ length-append (filter p (range_with_len 0 n)) n

append-none : {X : Type 0} (xs : List X) → xs ++ [] ≡ xs
append-none [] = refl
append-none (x ∷ xs) = ap (λ zs. x ∷ zs) (append-none xs)

count-no : (p : ℕ → Bool) (n : ℕ) → p n ≡ false → count_before p (n + 1) ≡ count_before p n
count-no p n e = ap length (filter-next p n ∙ ap (λ b. filter p (range_with_len 0 n) ++ cond b (n ∷ []) []) e ∙ append-none (filter p (range_with_len 0 n)))

pub number-next : (p : ℕ → Bool) (n number : ℕ) → number ≡ 1 + count_before p n → cond (p n) (number + 1) number ≡ 1 + count_before p (n + 1)
number-next p n number e = by (p n) refl
  where
    by : (b : Bool) → p n ≡ b → cond b (number + 1) number ≡ 1 + count_before p (n + 1)
    by true h = let k = count-yes p n h in omega arith
    by false h = let k = count-no p n h in omega arith

pub number-low : (b : Bool) (number i next : ℕ) → next ≡ cond b (number + 1) number → number ≤ 1 + i → next ≤ 1 + (i + 1)
number-low true number i next e le = omega (arith, e, le)
number-low false number i next e le = omega (arith, e, le)

pub some-class : (b : Bool) (number : ℕ) → is_some (cond b (Some number) None) ≡ b
some-class true number = refl
some-class false number = refl

-- The lines of classes.

module _ (net : Network) (policy : Policy) (sources : Sources) (s : ℕ) where
  abbrev p : ℕ → Bool
  p i = has_class net policy sources s i

  abbrev lines : ℕ → List ℕ → List HostLine
  lines x is = class_lines net policy (sources_in sources) (pair_cells net policy) s x is

  pub classes-from : (a k : ℕ) → flat_map (class_line s) (map (standing_of net policy sources s) (range_with_len a k)) ≡ lines (1 + count_before p a) (filter p (range_with_len a k))
  classes-from a zero = refl
  classes-from a (suc k) = by (p a) refl (classes-from (a + 1) k)
    where
      rest : List HostLine
      rest = flat_map (class_line s) (map (standing_of net policy sources s) (range_with_len (a + 1) k))

      later : List ℕ
      later = filter p (range_with_len (a + 1) k)

      one : ℕ → Bool → Standing
      one x b = record { is_out = (standing_of net policy sources s a).is_out; class = cond b (Some x) None; rate = (standing_of net policy sources s a).rate; ceiling = (standing_of net policy sources s a).ceiling }

      by : (b : Bool) → p a ≡ b → rest ≡ lines (1 + count_before p (a + 1)) later → class_line s (one (1 + count_before p a) b) ++ rest ≡ lines (1 + count_before p a) (cond b (a ∷ later) later)
      by true e ih =
          ap (λ ls. class_line s (one (1 + count_before p a) true) ++ ls)
          (ih ∙ ap (λ x. lines x later) (let k = count-yes p a e in let same : 1 + count_before p (a + 1) ≡ suc (1 + count_before p a) = omega arith in same))
      by false e ih = ih ∙ ap (λ x. lines x later) (let k = count-no p a e in let same : 1 + count_before p (a + 1) ≡ 1 + count_before p a = omega arith in same)

-- The number of a class among those of a list.
pub number-from : (p : ℕ → Bool) (a k i : ℕ) → p i ≡ true → a ≤ i → i < a + k → class_from (1 + count_before p a) (filter p (range_with_len a k)) i ≡ 1 + count_before p i
number-from p a zero i e le lt = absurd (omega arith)
number-from p a (suc k) i e le lt = by (p a) (a == i) refl refl (number-from p (a + 1) k i e)
  where
    later : List ℕ
    later = filter p (range_with_len (a + 1) k)

    same-is : (a == i) ≡ true → a ≡ i
    same-is h = grind (arith, h)

    next : (a == i) ≡ false → (a + 1 ≤ i) × (i < (a + 1) + k)
    next h = let other : a ≢ i = grind (arith, h) in (omega (arith, other, le), omega arith)

    by : (b c : Bool) → p a ≡ b → (a == i) ≡ c → (a + 1 ≤ i → i < (a + 1) + k → class_from (1 + count_before p (a + 1)) later i ≡ 1 + count_before p i) →
        class_from (1 + count_before p a) (cond b (a ∷ later) later) i ≡ 1 + count_before p i
    by true true h g ih = ap (λ d. cond d (1 + count_before p a) (class_from (suc (1 + count_before p a)) later i)) g ∙ ap (λ n. 1 + count_before p n) (same-is g)
    by true false h g ih =
        ap (λ d. cond d (1 + count_before p a) (class_from (suc (1 + count_before p a)) later i)) g
        ∙ ap (λ x. class_from x later i) (let k = count-yes p a h in let same : suc (1 + count_before p a) ≡ 1 + count_before p (a + 1) = omega arith in same)
        ∙ ih (next g).0 (next g).1
    by false true h g ih = absurd (let no : true ≡ false = sym e ∙ ap p (sym (same-is g)) ∙ h in cc)
    by false false h g ih =
        ap (λ x. class_from x later i) (let k = count-no p a h in let same : 1 + count_before p a ≡ 1 + count_before p (a + 1) = omega arith in same)
        ∙ ih (next g).0 (next g).1

-- Hosts, location by location.

map-append : {X Y : Type 0} (f : X → Y) (xs ys : List X) → map f (xs ++ ys) ≡ map f xs ++ map f ys
map-append f [] ys = refl
map-append f (x ∷ xs) ys = ap (λ zs. f x ∷ zs) (map-append f xs ys)

pub hosts-next : {Y : Type 0} (f : ℕ → Y) (p : ℕ → Bool) (n : ℕ) (made : List Y) → made ≡ map f (filter p (range_with_len 0 n)) → made ++ map f (filter p (n ∷ [])) ≡ map f (filter p (range_with_len 0 (n + 1)))
hosts-next f p n made e =
    ap (λ l. l ++ map f (filter p (n ∷ []))) e
    ∙ sym (map-append f (filter p (range_with_len 0 n)) (filter p (n ∷ [])))
    ∙ ap (map f) (sym (filter-append p (range_with_len 0 n) (n ∷ [])) ∙ ap (filter p) (sym (range-next n)))
