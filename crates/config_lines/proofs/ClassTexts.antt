-- Numbers of classes in hexadecimal, digit by digit from the left.
use Rattle.std.proofs.Common.{◌≡◌, ℕ, zero, suc, ◌+◌, ◌*◌, ◌/◌, ◌%◌, ◌≤◌, ◌<◌, ◌⊎◌, inl, inr, Bool, true, false, cond, nat_lt, List, [], ◌∷◌, ◌++◌, length, get_or, refl, sym, ◌∙◌, ap, subst, arith}
use Rattle.std.specs.Prelude.{Option, None, Some, IfNone}
use Rattle.std.specs.List.{AllByRecursion}
use Rattle.std.specs.Fmt.{digits, digit_glyph}
use Rattle.std.proofs.lemmas.Fmt.{hex_one_digit, hex_two_digits}
use Rattle.std.proofs.DigitsParse.{digits_onto-nil, digits_onto_last, digits_onto_step}
use Rattle.merlin_base.proofs.Cutting.{Free}
use Rattle.config_lines.specs.Words.{IsLimited}
use Rattle.config_lines.specs.Hosts.{IsGlyph}

three : (n : ℕ) → 256 ≤ n → n < 4096 → digits 16 false n ≡ digit_glyph false (n / 16 / 16) ∷ digit_glyph false (n / 16 % 16) ∷ digit_glyph false (n % 16) ∷ []
three n low high =
    let same : n / 16 / 16 % 16 ≡ n / 16 / 16 = omega arith in
    sym (digits_onto-nil 16 false n) ∙ digits_onto_step 16 false n [] 64 (omega arith) (omega arith)
    ∙ digits_onto_step 16 false (n / 16) (digit_glyph false (n % 16) ∷ []) 63 (omega arith) (omega arith)
    ∙ digits_onto_last 16 false (n / 16 / 16) (digit_glyph false (n / 16 % 16) ∷ digit_glyph false (n % 16) ∷ []) 62 (omega arith) (omega arith)
    ∙ ap (λ d. digit_glyph false d ∷ digit_glyph false (n / 16 % 16) ∷ digit_glyph false (n % 16) ∷ []) same

four : (n : ℕ) → 4096 ≤ n → n < 65536 →
    digits 16 false n ≡ digit_glyph false (n / 16 / 16 / 16) ∷ digit_glyph false (n / 16 / 16 % 16) ∷ digit_glyph false (n / 16 % 16) ∷ digit_glyph false (n % 16) ∷ []
four n low high =
    let same : n / 16 / 16 / 16 % 16 ≡ n / 16 / 16 / 16 = omega arith in
    sym (digits_onto-nil 16 false n) ∙ digits_onto_step 16 false n [] 64 (omega arith) (omega arith)
    ∙ digits_onto_step 16 false (n / 16) (digit_glyph false (n % 16) ∷ []) 63 (omega arith) (omega arith)
    ∙ digits_onto_step 16 false (n / 16 / 16) (digit_glyph false (n / 16 % 16) ∷ digit_glyph false (n % 16) ∷ []) 62 (omega arith) (omega arith)
    ∙ digits_onto_last 16 false (n / 16 / 16 / 16) (digit_glyph false (n / 16 / 16 % 16) ∷ digit_glyph false (n / 16 % 16) ∷ digit_glyph false (n % 16) ∷ []) 61 (omega arith) (omega arith)
    ∙ ap (λ d. digit_glyph false d ∷ digit_glyph false (n / 16 / 16 % 16) ∷ digit_glyph false (n / 16 % 16) ∷ digit_glyph false (n % 16) ∷ []) same

-- one digit more
pub digit_more : (v d : ℕ) → 0 < v → v < 4096 → d < 16 → digits 16 false (16 * v + d) ≡ digits 16 false v ++ digit_glyph false d ∷ []
digit_more v d some low small = by (nat_lt v 16) refl (nat_lt v 256) refl
  where
    last : (16 * v + d) % 16 ≡ d
    last = omega arith

    front : (16 * v + d) / 16 ≡ v
    front = omega arith

    by : (b : Bool) → nat_lt v 16 ≡ b → (c : Bool) → nat_lt v 256 ≡ c → digits 16 false (16 * v + d) ≡ digits 16 false v ++ digit_glyph false d ∷ []
    by true e c f =
        let under : v < 16 = grind arith in
        hex_two_digits false (16 * v + d) (omega arith) (omega arith) ∙ ap (λ k. digit_glyph false k ∷ digit_glyph false ((16 * v + d) % 16) ∷ []) front ∙ ap (λ k. digit_glyph false v ∷ digit_glyph false k ∷ []) last
        ∙ ap (λ t. t ++ digit_glyph false d ∷ []) (sym (hex_one_digit false v under))
    by false e true f =
        let over : 16 ≤ v = grind arith in let under : v < 256 = grind arith in
        three (16 * v + d) (omega arith) (omega arith) ∙ ap (λ k. digit_glyph false (k / 16) ∷ digit_glyph false (k % 16) ∷ digit_glyph false ((16 * v + d) % 16) ∷ []) front
        ∙ ap (λ k. digit_glyph false (v / 16) ∷ digit_glyph false (v % 16) ∷ digit_glyph false k ∷ []) last ∙ ap (λ t. t ++ digit_glyph false d ∷ []) (sym (hex_two_digits false v over under))
    by false e false f =
        let over : 256 ≤ v = grind arith in
        four (16 * v + d) (omega arith) (omega arith) ∙ ap (λ k. digit_glyph false (k / 16 / 16) ∷ digit_glyph false (k / 16 % 16) ∷ digit_glyph false (k % 16) ∷ digit_glyph false ((16 * v + d) % 16) ∷ []) front
        ∙ ap (λ k. digit_glyph false (v / 16 / 16) ∷ digit_glyph false (v / 16 % 16) ∷ digit_glyph false (v % 16) ∷ digit_glyph false k ∷ []) last ∙ ap (λ t. t ++ digit_glyph false d ∷ []) (sym (three v over low))

-- What the digits of a class are: one to four, the first not 0.
pub record IsSpelled (text : List ℕ) : Type 0 where
  pub few : length text ≤ 4
  pub some : 1 ≤ length text
  pub each : AllByRecursion IsGlyph text
  pub lead : (v : ℕ) × (0 < v) × (v < 16) × (get_or text 0 0 ≡ digit_glyph false v)

pub spelled : (n : ℕ) → IsLimited 1 65535 n → IsSpelled (digits 16 false n)
spelled n is = by (nat_lt n 16) refl (nat_lt n 256) refl (nat_lt n 4096) refl
  where
    by : (b : Bool) → nat_lt n 16 ≡ b → (c : Bool) → nat_lt n 256 ≡ c → (d : Bool) → nat_lt n 4096 ≡ d → IsSpelled (digits 16 false n)
    by true e c f d g =
        let under : n < 16 = grind arith in let l = is.low in
        subst IsSpelled (sym (hex_one_digit false n under)) (record { few = omega arith; some = omega arith; each = ((n, under, refl), tt); lead = (n, omega arith, under, refl) })
    by false e true f d g =
        let over : 16 ≤ n = grind arith in let under : n < 256 = grind arith in
        subst IsSpelled (sym (hex_two_digits false n over under))
        (record { few = omega arith; some = omega arith; each = ((n / 16, omega arith, refl), ((n % 16, omega arith, refl), tt)); lead = (n / 16, omega arith, omega arith, refl) })
    by false e false f true g =
        let over : 256 ≤ n = grind arith in let under : n < 4096 = grind arith in
        subst IsSpelled (sym (three n over under))
        (record { few = omega arith; some = omega arith; each = ((n / 16 / 16, omega arith, refl), ((n / 16 % 16, omega arith, refl), ((n % 16, omega arith, refl), tt))); lead = (n / 16 / 16, omega arith, omega arith, refl) })
    by false e false f false g =
        let over : 4096 ≤ n = grind arith in let h = is.high in
        subst IsSpelled (sym (four n over (omega arith)))
        (record {
          few = omega arith;
          some = omega arith;
          each = ((n / 16 / 16 / 16, omega arith, refl), ((n / 16 / 16 % 16, omega arith, refl), ((n / 16 % 16, omega arith, refl), ((n % 16, omega arith, refl), tt))));
          lead = (n / 16 / 16 / 16, omega arith, omega arith, refl);
        })

glyph_high : (v : ℕ) → v < 16 → 48 ≤ digit_glyph false v
glyph_high v h = by (nat_lt v 10) refl
  where
    by : (b : Bool) → nat_lt v 10 ≡ b → 48 ≤ cond b (48 + v) (87 + v)
    by true e = omega arith
    by false e = omega arith

glyphs_free : (byte : ℕ) (text : List ℕ) → byte < 48 → AllByRecursion IsGlyph text → Free byte text
glyphs_free byte [] low all = tt
glyphs_free byte (c ∷ cs) low all = ((λ e. let g = glyph_high all.0.0 all.0.1 in let h = all.0.2 in omega arith), glyphs_free byte cs low all.1)

pub class_free : (byte n : ℕ) → byte < 48 → IsLimited 1 65535 n → Free byte (digits 16 false n)
class_free byte n low is = glyphs_free byte (digits 16 false n) low (spelled n is).each

glyph_at : (text : List ℕ) (i : ℕ) → AllByRecursion IsGlyph text → i < length text → IsGlyph (get_or text i 0)
glyph_at [] i all h = absurd (omega arith)
glyph_at (c ∷ cs) zero all h = all.0
glyph_at (c ∷ cs) (suc i) all h = glyph_at cs i all.1 (omega arith)

-- a word that is no class

pub wrong_lead : (word : List ℕ) → ((v : ℕ) → 0 < v → v < 16 → get_or word 0 0 ≡ digit_glyph false v → ⊥) → (n : ℕ) → IsLimited 1 65535 n → word ≡ digits 16 false n → ⊥
wrong_lead word none n is e = let lead = (subst IsSpelled (sym e) (spelled n is)).lead in none lead.0 lead.1 lead.2 lead.3

pub wrong_digit : (word : List ℕ) (i : ℕ) → i < length word → ¬ IsGlyph (get_or word i 0) → (n : ℕ) → IsLimited 1 65535 n → word ≡ digits 16 false n → ⊥
wrong_digit word i h none n is e = none (glyph_at word i (subst IsSpelled (sym e) (spelled n is)).each h)

pub wrong_length : (word : List ℕ) → (length word < 1) ⊎ (5 ≤ length word) → (n : ℕ) → IsLimited 1 65535 n → word ≡ digits 16 false n → ⊥
wrong_length word (inl h) n is e = let s = (subst IsSpelled (sym e) (spelled n is)).some in omega arith
wrong_length word (inr h) n is e = let s = (subst IsSpelled (sym e) (spelled n is)).few in omega arith

pub pass_none : {X : Type 0} (P Q : Type 0) (r : Option X) → (P → Q) → IfNone r P → IfNone r Q
pass_none P Q None to h = to h
pass_none P Q (Some x) to h = tt

-- lists by their length
pub list_one : (word : List ℕ) → length word ≡ 1 → word ≡ get_or word 0 0 ∷ []
list_one (a ∷ []) e = refl
list_one [] e = absurd (omega arith)
list_one (a ∷ b ∷ cs) e = absurd (omega arith)

pub list_two : (word : List ℕ) → length word ≡ 2 → word ≡ get_or word 0 0 ∷ get_or word 1 0 ∷ []
list_two (a ∷ b ∷ []) e = refl
list_two [] e = absurd (omega arith)
list_two (a ∷ []) e = absurd (omega arith)
list_two (a ∷ b ∷ c ∷ ds) e = absurd (omega arith)

pub list_three : (word : List ℕ) → length word ≡ 3 → word ≡ get_or word 0 0 ∷ get_or word 1 0 ∷ get_or word 2 0 ∷ []
list_three (a ∷ b ∷ c ∷ []) e = refl
list_three [] e = absurd (omega arith)
list_three (a ∷ []) e = absurd (omega arith)
list_three (a ∷ b ∷ []) e = absurd (omega arith)
list_three (a ∷ b ∷ c ∷ d ∷ ds) e = absurd (omega arith)

pub list_four : (word : List ℕ) → length word ≡ 4 → word ≡ get_or word 0 0 ∷ get_or word 1 0 ∷ get_or word 2 0 ∷ get_or word 3 0 ∷ []
list_four (a ∷ b ∷ c ∷ d ∷ []) e = refl
list_four [] e = absurd (omega arith)
list_four (a ∷ []) e = absurd (omega arith)
list_four (a ∷ b ∷ []) e = absurd (omega arith)
list_four (a ∷ b ∷ c ∷ []) e = absurd (omega arith)
list_four (a ∷ b ∷ c ∷ d ∷ f ∷ ds) e = absurd (omega arith)
