-- Texts of addresses are read back, and lack what separates the words of a line.
use Rattle.std.proofs.Common.{◌≡◌, ℕ, zero, suc, ◌+◌, ◌/◌, ◌%◌, ◌≤◌, ◌<◌, ◌^◌, Bool, true, false, nat_lt, cond, List, [], ◌∷◌, ◌++◌, length, map, refl, sym, ◌∙◌, ap, arith}
use Rattle.std.proofs.Math.Nat.{div-div-eq-div-mul}
use Rattle.std.specs.List.{AllByRecursion, join_with_byte}
use Rattle.std.specs.Fmt.{decimal, digit_glyph}
use Rattle.std.specs.Int.{bytes_high_first}
use Rattle.merlin_base.specs.Lexemes.{IsOctet, IsIp, AreJoined, of_octets}
use Rattle.merlin_base.specs.Addresses.{hex_pair, mac_text, ip_text}
use Rattle.merlin_base.proofs.Cutting.{Free, free_append}
use Rattle.merlin_base.proofs.Decimals.{decimal_of, decimal_free}

-- IPv4 addresses.

octet_is : (text : List ℕ) (n : ℕ) → IsOctet text n → text ≡ decimal n
octet_is text n is = (decimal_of text n is.0).0

joined_is : (text ns : List ℕ) → AreJoined IsOctet 46 text ns → text ≡ join_with_byte 46 (map decimal ns)
joined_is text [] h = absurd h
joined_is text (n ∷ []) h = octet_is text n h
joined_is text (n ∷ m ∷ ns) (rest, (first, is, split), joined) =
    split ∙ ap (λ t. t ++ 46 ∷ rest) (octet_is first n is) ∙ ap (λ t. decimal n ++ 46 ∷ t) (joined_is rest (m ∷ ns) joined)

octets_small : (text ns : List ℕ) → AreJoined IsOctet 46 text ns → AllByRecursion (λ n. n ≤ 255) ns
octets_small text [] h = tt
octets_small text (n ∷ []) h = (h.1, tt)
octets_small text (n ∷ m ∷ ns) (rest, (first, is, split), joined) = (is.1, octets_small rest (m ∷ ns) joined)

four_parts : (ns : List ℕ) → length ns ≡ 4 → AllByRecursion (λ n. n ≤ 255) ns → bytes_high_first 4 (of_octets ns) ≡ ns
four_parts [] e h = absurd (omega arith)
four_parts (a ∷ []) e h = absurd (omega arith)
four_parts (a ∷ b ∷ []) e h = absurd (omega arith)
four_parts (a ∷ b ∷ c ∷ []) e h = absurd (omega arith)
four_parts (a ∷ b ∷ c ∷ d ∷ []) e h =
    let n = of_octets (a ∷ b ∷ c ∷ d ∷ []) in
    let x : n / 256 / 256 ≡ n / 65536 = div-div-eq-div-mul n 256 256 in
    let y : n / 65536 / 256 ≡ n / 16777216 = div-div-eq-div-mul n 65536 256 in
    let pa = h.0 in let pb = h.1.0 in let pc = h.1.1.0 in let pd = h.1.1.1.0 in
    let first : n / 256 / 256 / 256 % 256 ≡ a = omega arith in
    let second : n / 256 / 256 % 256 ≡ b = omega arith in
    let third : n / 256 % 256 ≡ c = omega arith in
    let fourth : n % 256 ≡ d = omega arith in
    cc
four_parts (a ∷ b ∷ c ∷ d ∷ f ∷ ns) e h = absurd (omega arith)

pub ip_is : (text : List ℕ) (n : ℕ) → IsIp text n → (text ≡ ip_text n) × (n < 2 ^ 32)
unfolding ip_text
ip_is text n (ns, four, joined, value) =
    let parts = four_parts ns four (octets_small text ns joined) in (
      joined_is text ns joined ∙ ap (λ os. join_with_byte 46 (map decimal os)) (sym parts ∙ ap (bytes_high_first 4) (sym value)),
      below ns four (octets_small text ns joined) n value,
    )
  where
    below : (os : List ℕ) → length os ≡ 4 → AllByRecursion (λ o. o ≤ 255) os → (m : ℕ) → m ≡ of_octets os → m < 2 ^ 32
    below [] e h m v = absurd (omega arith)
    below (a ∷ []) e h m v = absurd (omega arith)
    below (a ∷ b ∷ []) e h m v = absurd (omega arith)
    below (a ∷ b ∷ c ∷ []) e h m v = absurd (omega arith)
    below (a ∷ b ∷ c ∷ d ∷ []) e h m v = let pa = h.0 in let pb = h.1.0 in let pc = h.1.1.0 in let pd = h.1.1.1.0 in omega arith
    below (a ∷ b ∷ c ∷ d ∷ f ∷ os) e h m v = absurd (omega arith)

-- What separates words stands in no address.

octets_free : (byte : ℕ) (ns : List ℕ) → byte < 46 → AllByRecursion (λ n. n < 256) ns → Free byte (join_with_byte 46 (map decimal ns))
octets_free byte [] low h = tt
octets_free byte (n ∷ []) low h = decimal_free byte n (let m = h.0 in omega arith) (omega arith)
octets_free byte (n ∷ m ∷ ns) low h =
    free_append byte (decimal n) (46 ∷ join_with_byte 46 (map decimal (m ∷ ns))) (decimal_free byte n (let k = h.0 in omega arith) (omega arith)) ((λ e. omega arith), octets_free byte (m ∷ ns) low h.1)

bytes_small : (k n : ℕ) → AllByRecursion (λ byte. byte < 256) (bytes_high_first k n)
bytes_small zero n = tt
bytes_small (suc zero) n = (omega arith, tt)
bytes_small (suc (suc k)) n = (omega arith, bytes_small (suc k) n)

pub ip_free : (byte n : ℕ) → byte < 46 → Free byte (ip_text n)
unfolding ip_text
ip_free byte n low = octets_free byte (bytes_high_first 4 n) low (bytes_small 4 n)

glyph_high : (v : ℕ) → v < 16 → 48 ≤ digit_glyph false v
glyph_high v h = by (nat_lt v 10) refl
  where
    by : (b : Bool) → nat_lt v 10 ≡ b → 48 ≤ cond b (48 + v) (87 + v)
    by true e = omega arith
    by false e = omega arith

pair_free : (byte n : ℕ) → byte < 46 → n < 256 → Free byte (hex_pair n)
pair_free byte n low small =
    let a = glyph_high (n / 16) (omega arith) in
    let b = glyph_high (n % 16) (omega arith) in
    ((λ e. omega arith), ((λ e. omega arith), tt))

pairs_free : (byte : ℕ) (ns : List ℕ) → byte < 46 → AllByRecursion (λ n. n < 256) ns → Free byte (join_with_byte 58 (map hex_pair ns))
pairs_free byte [] low h = tt
pairs_free byte (n ∷ []) low h = pair_free byte n low h.0
pairs_free byte (n ∷ m ∷ ns) low h =
    free_append byte (hex_pair n) (58 ∷ join_with_byte 58 (map hex_pair (m ∷ ns))) (pair_free byte n low h.0) ((λ e. omega arith), pairs_free byte (m ∷ ns) low h.1)

pub mac_free : (byte n : ℕ) → byte < 46 → Free byte (mac_text n)
unfolding mac_text
mac_free byte n low = pairs_free byte (bytes_high_first 6 n) low (bytes_small 6 n)
