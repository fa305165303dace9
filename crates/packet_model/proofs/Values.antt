-- Values of fields and their texts.
use Rattle.std.proofs.Common.{◌≡◌, ◌+◌, ◌*◌, ◌<◌, ◌≤◌, ◌^◌, inl, inr, ℕ, List, [], ◌∷◌, length, sym, subst, arith}
use Rattle.std.proofs.Math.Nat.{mul-le-mul_right, pow-succ'}
use Rattle.merlin_model.specs.declared.policy.Field.{Field}
use Rattle.merlin_model.specs.declared.policy.Field.TheVariants.{EthSrc, EthDst, IpSrc, IpDst, Proto, Sport, Dport}
use Rattle.merlin_model.specs.Predicates.{IsInRange}
use Rattle.merlin_base.specs.Lexemes.{IsHexDigit, IsHexPair, IsOctet, AreJoined, of_octets, IsMac, IsIp}
use Rattle.packet_model.specs.Texts.{IsValueText}

hex_below : (c v : ℕ) → IsHexDigit c v → v < 16
hex_below c v (inl a) = omega arith
hex_below c v (inr (inl a)) = omega arith
hex_below c v (inr (inr a)) = omega arith

pair_below : (text : List ℕ) (n : ℕ) → IsHexPair text n → n < 256
pair_below [] n h = absurd h
pair_below (a ∷ []) n h = absurd h
pair_below (a ∷ b ∷ []) n (high, low, left, right, e) = let h : high < 16 = hex_below a high left in let l : low < 16 = hex_below b low right in omega arith
pair_below (a ∷ b ∷ c ∷ rest) n h = absurd h

octet_below : (text : List ℕ) (n : ℕ) → IsOctet text n → n < 256
octet_below text n h = omega arith

-- so many bytes make a number below so many places
joined_below : (part : List ℕ → ℕ → Type 0) (byte : ℕ) → ((text : List ℕ) (n : ℕ) → part text n → n < 256) → (text ns : List ℕ) → AreJoined part byte text ns → of_octets ns < 256 ^ length ns
joined_below part byte small text [] h = absurd h
joined_below part byte small text (n ∷ []) h = let below : n < 256 = small text n h in omega arith
joined_below part byte small text (n ∷ m ∷ ns) (rest, (first, is, split), joined) =
    let below : n < 256 = small first n is in
    subst (λ q. n * 256 ^ length (m ∷ ns) + of_octets (m ∷ ns) < q) (sym (pow-succ' 256 (length (m ∷ ns)))) (more n (of_octets (m ∷ ns)) (256 ^ length (m ∷ ns)) below (joined_below part byte small rest (m ∷ ns) joined))
  where
    more : (n r p : ℕ) → n < 256 → r < p → n * p + r < 256 * p
    more n r p h k = let l : n * p ≤ 255 * p = mul-le-mul_right p (omega arith) in omega arith

-- the number of so many bytes
bytes_below : (k : ℕ) (octets : List ℕ) (n : ℕ) → length octets ≡ k → n ≡ of_octets octets → of_octets octets < 256 ^ length octets → n < 256 ^ k
bytes_below k octets n e v h = subst (λ m. m < 256 ^ k) (sym v) (subst (λ j. of_octets octets < 256 ^ j) e h)

mac_below : (text : List ℕ) (n : ℕ) → IsMac text n → n < 2 ^ 48
mac_below text n (octets, six, joined, value) = bytes_below 6 octets n six value (joined_below _ _ pair_below text octets joined)

ip_below : (text : List ℕ) (n : ℕ) → IsIp text n → n < 2 ^ 32
ip_below text n (octets, four, joined, value) = bytes_below 4 octets n four value (joined_below _ _ octet_below text octets joined)

pub in_range : (field : Field) (text : List ℕ) (n : ℕ) → IsValueText field text n → IsInRange field n
in_range EthSrc text n h = mac_below text n h
in_range EthDst text n h = mac_below text n h
in_range IpSrc text n h = ip_below text n h
in_range IpDst text n h = ip_below text n h
in_range Proto text n h = h.1
in_range Sport text n h = h.1
in_range Dport text n h = h.1
