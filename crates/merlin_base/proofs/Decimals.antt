-- Decimal texts and the numbers that they stand for.
use Rattle.std.proofs.Common.{◌≡◌, ℕ, zero, suc, neg_ℤ, ◌≤ℤ◌, ◌^◌, ◌<◌, ◌≤◌, ℤ, pos, negsuc, ◌+ℤ◌, nat_abs, List, [], ◌∷◌, length, get_or, refl, sym, ◌∙◌, ap, subst, arith, lit<}
use Rattle.std.specs.List.{AllByRecursion}
use Rattle.std.specs.Fmt.{decimal, signed_decimal}
use Rattle.std.proofs.lemmas.Fmt.{digits_decimal, digits_value-decimal, decimal_nonempty, length-decimal-le, first_decimal, decimal-digits_value, decimal_injective, decimal_digit}
use Rattle.std.proofs.lemmas.Str.Parse.{IsNumeralModel, IsDigitsTest, WeighsDigits, numerals_by_weight, digits_value_short}
use Rattle.std.proofs.lemmas.List.Elements.{recursion_from_All, All-from_recursion, All-cons}
use Rattle.std.proofs.lemmas.Int.{ints}
use Rattle.merlin_base.specs.Lexemes.{AreDigits, IsDigit, IsDecimal, number_of}
use Rattle.merlin_base.proofs.Cutting.{Free}

digit_parts : (c : ℕ) (cs : List ℕ) → AreDigits (c ∷ cs) → IsDigit c × AreDigits cs
digit_parts c cs all = let r = recursion_from_All IsDigit (c ∷ cs) all in (r.0, All-from_recursion IsDigit cs r.1)

tests : IsDigitsTest AreDigits
tests = record {
  empty = λ k d h. absurd (omega arith);
  parts = digit_parts;
  more = λ c cs h all. All-cons IsDigit c cs h all;
}

weighs : WeighsDigits number_of
weighs = record { empty = refl; more = λ c cs h. refl }

pub own : IsNumeralModel AreDigits number_of
own = numerals_by_weight AreDigits tests number_of weighs

nineteen : 10 ^ 19 < 2 ^ 64
nineteen = lit< tt

-- what the reader of numbers finds
pub decimal_of : (text : List ℕ) (n : ℕ) → IsDecimal text n → (text ≡ decimal n) × (n < 10 ^ 19)
decimal_of text n is =
    let short : number_of text < 10 ^ 19 = digits_value_short own text 19 is.digits is.short in
    let small : number_of text < 2 ^ 64 = let t = nineteen in omega arith in
    (sym (decimal-digits_value own text is.digits is.some is.plain small) ∙ ap decimal (sym is.value), let v = is.value in omega arith)

pub is_decimal : (n : ℕ) → n < 10 ^ 19 → IsDecimal (decimal n) n
is_decimal n h = record {
  digits = digits_decimal own n small;
  some = decimal_nonempty n small;
  short = length-decimal-le 19 n (omega arith) h small;
  plain = plain n small;
  value = sym (digits_value-decimal own n small);
}
  where
    small : n < 2 ^ 64
    small = let t = nineteen in omega arith

    plain : (m : ℕ) → m < 2 ^ 64 → get_or (decimal m) 0 0 ≡ 48 → length (decimal m) ≡ 1
    plain zero s e = ap length (decimal_digit 0 (omega arith))
    plain (suc m) s e = absurd (let f = first_decimal (suc m) (omega arith) s in omega arith)

-- its bytes are digits
pub decimal_free : (byte n : ℕ) → n < 10 ^ 19 → (byte < 48) → Free byte (decimal n)
decimal_free byte n h low = by (decimal n) (recursion_from_All IsDigit (decimal n) (is_decimal n h).digits)
  where
    by : (text : List ℕ) → AllByRecursion IsDigit text → Free byte text
    by [] all = tt
    by (c ∷ cs) all = ((λ e. let d = all.0.0 in omega arith), by cs all.1)

pub decimal_free_colon : (n : ℕ) → n < 10 ^ 19 → Free 58 (decimal n)
decimal_free_colon n h = by (decimal n) (recursion_from_All IsDigit (decimal n) (is_decimal n h).digits)
  where
    by : (text : List ℕ) → AllByRecursion IsDigit text → Free 58 text
    by [] all = tt
    by (c ∷ cs) all = ((λ e. let d = all.0.1 in omega arith), by cs all.1)

pub decimal_same : (m n : ℕ) → m < 10 ^ 19 → n < 10 ^ 19 → decimal m ≡ decimal n → m ≡ n
decimal_same m n g h e = let t = nineteen in decimal_injective m n (omega arith) (omega arith) e

-- Whole numbers.

sixty : 2 ^ 60 < 10 ^ 19
sixty = lit< tt

pub signed_free : (byte : ℕ) (z : ℤ) → nat_abs z ≤ 2 ^ 60 → byte < 45 → Free byte (signed_decimal z)
signed_free byte (pos n) h low = let t = sixty in decimal_free byte n (omega arith) (omega arith)
signed_free byte (negsuc n) h low = let t = sixty in ((λ e. omega arith), decimal_free byte (suc n) (omega arith) (omega arith))

pub signed_same : (y z : ℤ) → nat_abs y ≤ 2 ^ 60 → nat_abs z ≤ 2 ^ 60 → signed_decimal y ≡ signed_decimal z → y ≡ z
signed_same (pos m) (pos n) g h e = let t = sixty in ap pos (decimal_same m n (omega arith) (omega arith) e)
signed_same (negsuc m) (negsuc n) g h e = let t = sixty in let d : decimal (suc m) ≡ decimal (suc n) = cc in ap negsuc (let s = decimal_same (suc m) (suc n) (omega arith) (omega arith) d in omega arith)
signed_same (pos m) (negsuc n) g h e = let t = sixty in absurd (no_minus m (decimal (suc n)) (omega arith) e)
  where
    no_minus : (k : ℕ) (text : List ℕ) → k < 10 ^ 19 → decimal k ≡ 45 ∷ text → ⊥
    no_minus k text small e' = (subst (Free 45) e' (decimal_free 45 k small (omega arith))).0 refl
signed_same (negsuc m) (pos n) g h e = let t = sixty in absurd (no_minus n (decimal (suc m)) (omega arith) (sym e))
  where
    no_minus : (k : ℕ) (text : List ℕ) → k < 10 ^ 19 → decimal k ≡ 45 ∷ text → ⊥
    no_minus k text small e' = (subst (Free 45) e' (decimal_free 45 k small (omega arith))).0 refl

-- a text that begins with a digit, or with a minus
pub first_of_decimal : (n : ℕ) (text : List ℕ) → n < 10 ^ 19 → decimal n ≡ 45 ∷ text → ⊥
first_of_decimal n text small e = (subst (Free 45) e (decimal_free 45 n small (omega arith))).0 refl

pub no_decimal : (text : List ℕ) → ((n : ℕ) → IsDecimal text n → ⊥) → (n : ℕ) → n < 10 ^ 19 → text ≡ decimal n → ⊥
no_decimal text none n small e = none n (subst (λ t. IsDecimal t n) (sym e) (is_decimal n small))

-- a text with a minus
pub minus_is : (text digits : List ℕ) (size limit : ℕ) (z : ℤ) → text ≡ 45 ∷ digits → digits ≡ decimal size → size ≤ limit → (size ≡ 0 → ⊥) → pos size +ℤ z ≡ pos 0 → (text ≡ signed_decimal z) × (nat_abs z ≤ limit)
minus_is text digits size limit (pos n) e f h some s = absurd (some (omega (arith, ints)))
minus_is text digits size limit (negsuc n) e f h some s =
    let same : size ≡ suc n = omega (arith, ints) in
    (e ∙ ap (λ ds. 45 ∷ ds) (f ∙ ap decimal same), omega arith)

pub minus_none : (text digits : List ℕ) (limit : ℕ) → text ≡ 45 ∷ digits → limit ≤ 2 ^ 60 → ((n : ℕ) → n ≤ limit → digits ≡ decimal n → ⊥) → (z : ℤ) → nat_abs z ≤ limit → text ≡ signed_decimal z → ⊥
minus_none text digits limit e small none (pos n) h f = let t = sixty in first_of_decimal n digits (omega arith) (sym f ∙ e)
minus_none text digits limit e small none (negsuc n) h f = none (suc n) h cc

pub minus_zero : (text digits : List ℕ) (size limit : ℕ) → text ≡ 45 ∷ digits → limit ≤ 2 ^ 60 → digits ≡ decimal size → size ≡ 0 → (z : ℤ) → nat_abs z ≤ limit → text ≡ signed_decimal z → ⊥
minus_zero text digits size limit e small f zero_is (pos n) h g = let t = sixty in first_of_decimal n digits (omega arith) (sym g ∙ e)
minus_zero text digits size limit e small f zero_is (negsuc n) h g =
    let t = sixty in
    let same : decimal (suc n) ≡ decimal size = cc in
    let bad = decimal_same (suc n) size (omega arith) (omega arith) same in omega arith

-- and one without
pub plain_is : (text : List ℕ) (size limit : ℕ) (z : ℤ) → text ≡ decimal size → size ≤ limit → z ≡ pos size → (text ≡ signed_decimal z) × (nat_abs z ≤ limit)
plain_is text size limit (pos n) e h s = let same : size ≡ n = omega (arith, ints) in (e ∙ ap decimal same, omega arith)
plain_is text size limit (negsuc n) e h s = absurd (let bad : ⊥ = omega (arith, ints) in bad)

pub plain_none : (text : List ℕ) (limit : ℕ) → ((rest : List ℕ) → text ≡ 45 ∷ rest → ⊥) → ((n : ℕ) → n ≤ limit → text ≡ decimal n → ⊥) → (z : ℤ) → nat_abs z ≤ limit → text ≡ signed_decimal z → ⊥
plain_none text limit no_minus none (pos n) h e = none n h e
plain_none text limit no_minus none (negsuc n) h e = no_minus (decimal (suc n)) e

pub too_great : (text : List ℕ) (number limit : ℕ) → limit < 10 ^ 19 → (text ≡ decimal number) × (number < 10 ^ 19) → limit < number → (n : ℕ) → n ≤ limit → text ≡ decimal n → ⊥
too_great text number limit small is past n h e = let same = decimal_same number n is.1 (omega arith) (sym is.0 ∙ e) in omega arith

-- A whole number within a bound stands between its opposite and it.
pub record IsBetween (bound : ℕ) (z : ℤ) : Type 0 where
  pub low : neg_ℤ (pos bound) ≤ℤ z
  pub high : z ≤ℤ pos bound

pub between : (bound : ℕ) (z : ℤ) → nat_abs z ≤ bound → IsBetween bound z
between bound (pos n) h = record { low = omega (arith, ints); high = omega (arith, ints) }
between bound (negsuc n) h = record { low = omega (arith, ints); high = omega (arith, ints) }
