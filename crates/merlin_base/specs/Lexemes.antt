-- Single lexemes: numbers, names, addresses and rates.
use Rattle.std.specs.Prelude.{◌≡◌, ◌≢◌, ◌⊎◌, ◌+◌, ◌-◌, ◌*◌, ◌<◌, ◌≤◌, ◌^◌, ℕ, List, [], ◌∷◌, ◌++◌, length, slice_index, Bool, IsTrue, codes, All, Option, Some, None, if◌then◌else◌}
use Rattle.std.specs.Str.{bytes_eq}
use Rattle.std.specs.List.{list_any}
use Rattle.merlin_model.specs.declared.limits.TheConstants.{MAX_RATE}
use Rattle.merlin_base.specs.declared.limits.TheConstants.{MAX_DIGITS, MAX_NAME_BYTES}

abbrev pub IsDigit : ℕ → Type 0
IsDigit c = (48 ≤ c) × (c ≤ 57)

abbrev pub AreDigits : List ℕ → Type 0
AreDigits = All IsDigit

-- the number that digits stand for, each with the weight of its place
abbrev pub number_of : List ℕ → ℕ
number_of [] = 0
number_of (c ∷ cs) = (c - 48) * 10 ^ length cs + number_of cs

-- some digits, the first of which is 0 only where it is the only one, and their number
pub record IsDecimal (text : List ℕ) (n : ℕ) : Type 0 where
  pub digits : AreDigits text
  pub some : 0 < length text
  pub short : length text ≤ MAX_DIGITS
  pub plain : slice_index text 0 ≡ 48 → length text ≡ 1
  pub value : n ≡ number_of text

-- a letter or an underscore
abbrev pub IsLetter : ℕ → Type 0
IsLetter c = ((65 ≤ c) × (c ≤ 90)) ⊎ ((97 ≤ c) × (c ≤ 122)) ⊎ (c ≡ 95)

-- a letter, digit or underscore
abbrev pub IsNameByte : ℕ → Type 0
IsNameByte c = IsLetter c ⊎ IsDigit c

abbrev pub AreNameBytes : List ℕ → Type 0
AreNameBytes = All IsNameByte

-- a word of the language is no name
abbrev pub is_word : List ℕ → Bool
is_word text = list_any (λ word. bytes_eq text word) (codes "true" ∷ codes "false" ∷ codes "and" ∷ codes "or" ∷ codes "foreach" ∷ codes "in" ∷ codes "cross" ∷ codes "default" ∷ codes "at" ∷ codes "max" ∷ codes "min" ∷ [])

-- a letter, then name bytes
abbrev pub IsIdentifier : List ℕ → Type 0
IsIdentifier [] = ⊥
IsIdentifier (c ∷ cs) = IsLetter c × AreNameBytes cs

-- a short identifier that is no word of the language
pub record IsName (text : List ℕ) : Type 0 where
  pub identifier : IsIdentifier text
  pub short : length text ≤ MAX_NAME_BYTES
  pub no_word : IsTrue (is_word text) → ⊥

-- a hexadecimal digit of either case, and its value
abbrev pub IsHexDigit : ℕ → ℕ → Type 0
IsHexDigit c value = ((c ≡ 48 + value) × (value < 10)) ⊎ ((c ≡ 87 + value) × (10 ≤ value) × (value < 16)) ⊎ ((c ≡ 55 + value) × (10 ≤ value) × (value < 16))

-- two hexadecimal digits, and the number that they stand for
abbrev pub IsHexPair : List ℕ → ℕ → Type 0
IsHexPair [] n = ⊥
IsHexPair (a ∷ []) n = ⊥
IsHexPair (a ∷ b ∷ []) n = (high low : ℕ) × IsHexDigit a high × IsHexDigit b low × (n ≡ 16 * high + low)
IsHexPair (a ∷ b ∷ c ∷ rest) n = ⊥

-- a number to 255
abbrev pub IsOctet : List ℕ → ℕ → Type 0
IsOctet text n = IsDecimal text n × (n ≤ 255)

-- the byte doesn't stand in the text
abbrev pub Lacks : ℕ → List ℕ → Type 0
Lacks byte = All (λ other. other ≢ byte)

-- a part of this form and its value, the byte, and a rest
abbrev pub IsThen : (List ℕ → ℕ → Type 0) → ℕ → List ℕ → ℕ → List ℕ → Type 0
IsThen part byte text n rest = (first : List ℕ) × part first n × (text ≡ first ++ byte ∷ rest)

-- parts of this form, joined by a byte, and their values
abbrev pub AreJoined : (List ℕ → ℕ → Type 0) → ℕ → List ℕ → List ℕ → Type 0
AreJoined part byte text [] = ⊥
AreJoined part byte text (n ∷ []) = part text n
AreJoined part byte text (n ∷ m ∷ ns) = (rest : List ℕ) × IsThen part byte text n rest × AreJoined part byte rest (m ∷ ns)

-- the number of octets, the highest first
abbrev pub of_octets : List ℕ → ℕ
of_octets [] = 0
of_octets (n ∷ ns) = n * 256 ^ length ns + of_octets ns

-- six pairs joined by colons
abbrev pub IsMac : List ℕ → ℕ → Type 0
IsMac text n = (octets : List ℕ) × (length octets ≡ 6) × AreJoined IsHexPair 58 text octets × (n ≡ of_octets octets)

-- four numbers to 255 joined by dots
abbrev pub IsIp : List ℕ → ℕ → Type 0
IsIp text n = (octets : List ℕ) × (length octets ≡ 4) × AreJoined IsOctet 46 text octets × (n ≡ of_octets octets)

-- what a unit of rates is in kbit/s
abbrev pub unit_of : List ℕ → Option ℕ
unit_of text =
    if bytes_eq text (codes "kbps") then Some 1 else
    if bytes_eq text (codes "Mbps") then Some 1000 else
    if bytes_eq text (codes "Gbps") then Some 1000000 else
    if bytes_eq text (codes "KB/s") then Some 8 else
    if bytes_eq text (codes "MB/s") then Some 8000 else
    if bytes_eq text (codes "GB/s") then Some 8000000 else None

-- a number and its unit, with its value in kbit/s
pub record IsRate (text : List ℕ) (rate : ℕ) : Type 0 where
  pub number : List ℕ
  pub unit : List ℕ
  pub n : ℕ
  pub factor : ℕ
  pub whole : text ≡ number ++ unit
  pub decimal : IsDecimal number n
  pub known : unit_of unit ≡ Some factor
  pub value : rate ≡ n * factor
  pub few : rate ≤ MAX_RATE
