-- Where no Mac begins: its first two bytes are digits or letters, and the third is `:`.
use Rattle.std.proofs.Common.{◌≡◌, ◌≢◌, ◌⊎◌, inl, inr, ◌<◌, ◌++◌, ℕ, List, [], ◌∷◌, length, refl, arith, ◌∙◌, ap, subst}
use Rattle.std.specs.List.{AllByRecursion}
use Rattle.merlin_base.specs.Lexemes.{IsNameByte, IsHexDigit, IsHexPair, IsMac}
use Rattle.merlin_text.specs.Tokens.{EndsBefore, BeginsNoMac}

hex_is_name : (c value : ℕ) → IsHexDigit c value → IsNameByte c
hex_is_name c value (inl digit) = inr (omega (arith, digit), omega (arith, digit))
hex_is_name c value (inr (inl lower)) = inl (inr (inl (omega (arith, lower), omega (arith, lower))))
hex_is_name c value (inr (inr upper)) = inl (inl (omega (arith, upper), omega (arith, upper)))

-- the first three bytes of a text of pairs
pair_head : (pair rest : List ℕ) (n : ℕ) → IsHexPair pair n → (a : ℕ) × (b : ℕ) × (pair ≡ a ∷ b ∷ []) × IsNameByte a × IsNameByte b
pair_head [] rest n p = absurd p
pair_head (a ∷ []) rest n p = absurd p
pair_head (a ∷ b ∷ []) rest n (high, low, left, right, e) = (a, b, refl, hex_is_name a high left, hex_is_name b low right)
pair_head (a ∷ b ∷ c ∷ pair) rest n p = absurd p

begin : (text : List ℕ) → ((a b : ℕ) (more : List ℕ) → text ≡ a ∷ b ∷ 58 ∷ more → IsNameByte a → IsNameByte b → ⊥) → (mac rest : List ℕ) (n : ℕ) → text ≡ mac ++ rest → IsMac mac n → ⊥
begin text none mac rest n e ([], six, joined, value) = joined
begin text none mac rest n e (o ∷ [], six, joined, value) = absurd (omega arith)
begin text none mac rest n e (o ∷ p ∷ ns, six, (more, (first, pair, split), joined), value) =
    let head = pair_head first more o pair in
    none head.0 head.1 (more ++ rest) (e ∙ ap (λ (t : List ℕ). t ++ rest) (split ∙ ap (λ (f : List ℕ). f ++ 58 ∷ more) head.2)) head.3 head.4

pub no_mac : (text : List ℕ) → ((a b : ℕ) (more : List ℕ) → text ≡ a ∷ b ∷ 58 ∷ more → IsNameByte a → IsNameByte b → ⊥) → BeginsNoMac text
no_mac text none mac rest n e is = begin text none mac rest n e is.is

-- before a byte that is no part of a name
pub no_mac_first : (c : ℕ) (rest : List ℕ) → (IsNameByte c → ⊥) → BeginsNoMac (c ∷ rest)
no_mac_first c rest other = no_mac (c ∷ rest) (λ a b more e left right. let same : a ≡ c = cc in other (subst IsNameByte same left))

-- before a run without `:` that no byte of a name and no `:` follows
pub no_mac_run : (run rest : List ℕ) → 0 < length run → AllByRecursion (λ (c : ℕ). c ≢ 58) run → EndsBefore (λ c. IsNameByte c ⊎ (c ≡ 58)) rest → BeginsNoMac (run ++ rest)
no_mac_run [] rest some each ends = absurd (omega arith)
no_mac_run (x ∷ []) [] some each ends = no_mac (x ∷ []) (λ a b more e left right. cc)
no_mac_run (x ∷ []) (y ∷ rest) some each ends = no_mac (x ∷ y ∷ rest) (λ a b more e left right. let same : b ≡ y = cc in ends (inl (subst IsNameByte same right)))
no_mac_run (x ∷ y ∷ []) [] some each ends = no_mac (x ∷ y ∷ []) (λ a b more e left right. cc)
no_mac_run (x ∷ y ∷ []) (z ∷ rest) some each ends = no_mac (x ∷ y ∷ z ∷ rest) (λ a b more e left right. let same : z ≡ 58 = cc in ends (inr same))
no_mac_run (x ∷ y ∷ z ∷ run) rest some each ends = no_mac (x ∷ y ∷ z ∷ (run ++ rest)) (λ a b more e left right. let same : z ≡ 58 = cc in each.1.1.0 same)
