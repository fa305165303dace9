-- A part of a text and the byte behind it, which the part lacks.
use Rattle.std.proofs.Common.{◌≡◌, ◌≢◌, ℕ, ◌<◌, ◌^◌, inl, inr, List, [], ◌∷◌, ◌++◌, sym, ◌∙◌, subst, arith, append_assoc}
use Rattle.std.proofs.lemmas.List.{append_cancel_left}
use Rattle.std.proofs.lemmas.List.Elements.{recursion_from_All}
use Rattle.std.specs.List.{AllByRecursion}
use Rattle.std.specs.Fmt.{decimal}
use Rattle.merlin_model.specs.Networks.{Network}
use Rattle.std.specs.Prelude.{Bool, true, false, codes}
use Rattle.std.specs.Str.{bytes_eq}
use Rattle.std.proofs.lemmas.Slice.Eq.{bytes_eq-Decides}
use Rattle.merlin_base.specs.Lexemes.{IsDigit, Lacks, IsIdentifier, IsNameByte}
use Rattle.merlin_base.proofs.Cutting.{Free, free, free_middle, AreSame, cut_once}
use Rattle.merlin_base.proofs.Decimals.{decimal_free, is_decimal}
use Rattle.config_text.specs.Lines.{name_at, function_name, rate_with_unit}
use Rattle.config_lines.specs.Words.{IsLimited, HasFewDigits, IsLocation, IsLineFunction}
use Rattle.config_lines.specs.Parts.{HasTwoBytes}

-- a text without the byte has no such part
pub no_byte : (byte : ℕ) (text part rest : List ℕ) → Lacks byte text → text ≡ part ++ byte ∷ rest → ⊥
no_byte byte text part rest l e = free_middle byte part rest (subst (Free byte) e (free byte text l))

-- the part is the word before the byte
pub same_part : (byte : ℕ) (text word rest part more : List ℕ) → text ≡ word ++ byte ∷ rest → Lacks byte word → Free byte part → text ≡ part ++ byte ∷ more → AreSame word part rest more
same_part byte text word rest part more e l f h = cut_once byte word part rest more (free byte word l) f (sym e ∙ h)

-- What stands behind two parts that begin one text.
pub behind_part : (byte : ℕ) (text word rest part more : List ℕ) → text ≡ word ++ byte ∷ rest → Free byte word → Free byte part → text ≡ part ++ byte ∷ more → rest ≡ more
behind_part byte text word rest part more e l f h = (cut_once byte word part rest more l f (sym e ∙ h)).rest

pub behind_word : (word text rest more : List ℕ) → text ≡ word ++ rest → text ≡ word ++ more → rest ≡ more
behind_word word text rest more e h = append_cancel_left word rest more (sym e ∙ h)

-- Numbers and names lack what separates them.

pub short_free : (byte least most n : ℕ) → byte < 48 → most < 10 ^ 19 → IsLimited least most n → Free byte (decimal n)
short_free byte least most n low top is = decimal_free byte n (let h = is.high in omega arith) low

pub number_free : (byte n : ℕ) → byte < 48 → HasFewDigits n → Free byte (decimal n)
number_free byte n low is = decimal_free byte n is low

pub name_byte : (byte c : ℕ) → byte < 48 → IsNameByte c → c ≢ byte
name_byte byte c low (inl (inl h)) e = omega arith
name_byte byte c low (inl (inr (inl h))) e = omega arith
name_byte byte c low (inl (inr (inr h))) e = omega arith
name_byte byte c low (inr h) e = omega arith

pub name_colon : (c : ℕ) → IsNameByte c → c ≢ 58
name_colon c (inl (inl h)) e = omega arith
name_colon c (inl (inr (inl h))) e = omega arith
name_colon c (inl (inr (inr h))) e = omega arith
name_colon c (inr h) e = omega arith

bytes_free : (byte : ℕ) (cs : List ℕ) → ((c : ℕ) → IsNameByte c → c ≢ byte) → AllByRecursion IsNameByte cs → Free byte cs
bytes_free byte [] other all = tt
bytes_free byte (c ∷ cs) other all = (other c all.0, bytes_free byte cs other all.1)

identifier_without : (byte : ℕ) (text : List ℕ) → ((c : ℕ) → IsNameByte c → c ≢ byte) → IsIdentifier text → Free byte text
identifier_without byte [] other is = tt
identifier_without byte (c ∷ cs) other is = (other c (inl is.0), bytes_free byte cs other (recursion_from_All IsNameByte cs is.1))

pub identifier_free : (byte : ℕ) (text : List ℕ) → byte < 48 → IsIdentifier text → Free byte text
identifier_free byte text low is = identifier_without byte text (λ c. name_byte byte c low) is

pub identifier_free_colon : (text : List ℕ) → IsIdentifier text → Free 58 text
identifier_free_colon text is = identifier_without 58 text name_colon is

pub location_free : (byte : ℕ) (net : Network) (loc : ℕ) → byte < 48 → IsLocation net loc → Free byte (name_at net loc)
location_free byte net loc low is = identifier_free byte (name_at net loc) low is.word

pub function_free : (byte : ℕ) (net : Network) (f : ℕ) → byte < 48 → IsLineFunction net f → Free byte (function_name net.functions f)
function_free byte net f low is = identifier_free byte (function_name net.functions f) low is.word

-- Rates.

pub unit_free : (n : ℕ) → HasFewDigits n → Free 107 (decimal n)
unit_free n is = by (decimal n) (recursion_from_All IsDigit (decimal n) (is_decimal n is).digits)
  where
    by : (text : List ℕ) → AllByRecursion IsDigit text → Free 107 text
    by [] all = tt
    by (c ∷ cs) all = ((λ e. let d = all.0.1 in omega arith), by cs all.1)

-- a rate with its unit, cut before the unit
pub rate_cut : (n : ℕ) (rest : List ℕ) → rate_with_unit n ++ rest ≡ decimal n ++ 107 ∷ (codes "bit" ++ rest)
rate_cut n rest = append_assoc (decimal n) (codes "kbit") rest

pub behind_rate : (text rest more : List ℕ) (n m : ℕ) → text ≡ rate_with_unit n ++ rest → HasFewDigits n → HasFewDigits m → text ≡ rate_with_unit m ++ more → rest ≡ more
behind_rate text rest more n m e f g h =
    append_cancel_left (codes "bit") rest more
    (cut_once 107 (decimal n) (decimal m) (codes "bit" ++ rest) (codes "bit" ++ more) (unit_free n f) (unit_free m g) (sym (rate_cut n rest) ∙ sym e ∙ h ∙ rate_cut m more)).rest

-- A test of two texts.

true_false : true ≡ false → ⊥
true_false e = cc

pub unlike : (xs ys : List ℕ) (r : Bool) → r ≡ bytes_eq xs ys → r ≡ false → xs ≡ ys → ⊥
unlike xs ys r e f h = true_false (sym ((bytes_eq-Decides xs ys).1 h) ∙ sym e ∙ f)

pub alike : (xs ys : List ℕ) (r : Bool) → r ≡ bytes_eq xs ys → r ≡ true → xs ≡ ys
alike xs ys r e t = (bytes_eq-Decides xs ys).0 (sym e ∙ t)

pub double_free : (byte n : ℕ) → byte < 48 → HasTwoBytes n → Free byte (decimal n)
double_free byte n low is = decimal_free byte n (omega arith) low

pub within_double : (n : ℕ) → HasTwoBytes n → IsLimited 0 65535 n
within_double n is = record { low = omega arith; high = is }
