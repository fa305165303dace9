-- The numbers of Ethernet and IPv4 addresses are below 2^48 and 2^32.
use Rattle.std.proofs.Common.{◌≡◌, ◌<◌, ◌^◌, ℕ, List, [], ◌∷◌, length, sym, subst, arith}
use Rattle.std.specs.List.{AllByRecursion}
use Rattle.merlin_base.specs.Lexemes.{IsHexDigit, IsHexPair, IsOctet, AreJoined, of_octets, IsMac, IsIp}
use Rattle.std.proofs.Common.{inl, inr}

six : (ns : List ℕ) → length ns ≡ 6 → AllByRecursion (λ n. n < 256) ns → of_octets ns < 2 ^ 48
six (a ∷ b ∷ c ∷ d ∷ e ∷ f ∷ []) n all = omega (arith, all.0, all.1.0, all.1.1.0, all.1.1.1.0, all.1.1.1.1.0, all.1.1.1.1.1.0)
six [] n all = absurd (omega arith)
six (a ∷ []) n all = absurd (omega arith)
six (a ∷ b ∷ []) n all = absurd (omega arith)
six (a ∷ b ∷ c ∷ []) n all = absurd (omega arith)
six (a ∷ b ∷ c ∷ d ∷ []) n all = absurd (omega arith)
six (a ∷ b ∷ c ∷ d ∷ e ∷ []) n all = absurd (omega arith)
six (a ∷ b ∷ c ∷ d ∷ e ∷ f ∷ g ∷ ns) n all = absurd (omega arith)

four : (ns : List ℕ) → length ns ≡ 4 → AllByRecursion (λ n. n < 256) ns → of_octets ns < 2 ^ 32
four (a ∷ b ∷ c ∷ d ∷ []) n all = omega (arith, all.0, all.1.0, all.1.1.0, all.1.1.1.0)
four [] n all = absurd (omega arith)
four (a ∷ []) n all = absurd (omega arith)
four (a ∷ b ∷ []) n all = absurd (omega arith)
four (a ∷ b ∷ c ∷ []) n all = absurd (omega arith)
four (a ∷ b ∷ c ∷ d ∷ e ∷ ns) n all = absurd (omega arith)

joined_all : (part : List ℕ → ℕ → Type 0) (byte : ℕ) → ((t : List ℕ) (n : ℕ) → part t n → n < 256) → (ns : List ℕ) (text : List ℕ) → AreJoined part byte text ns → AllByRecursion (λ n. n < 256) ns
joined_all part byte below [] text j = tt
joined_all part byte below (n ∷ []) text j = (below text n j, tt)
joined_all part byte below (n ∷ m ∷ ns) text (rest, (first, is, split), j) = (below first n is, joined_all part byte below (m ∷ ns) rest j)

digit_below : (c n : ℕ) → IsHexDigit c n → n < 16
digit_below c n (inl p) = omega (arith, p.1)
digit_below c n (inr (inl p)) = p.2
digit_below c n (inr (inr p)) = p.2

pair_below : (t : List ℕ) (n : ℕ) → IsHexPair t n → n < 256
pair_below [] n p = absurd p
pair_below (a ∷ []) n p = absurd p
pair_below (a ∷ b ∷ []) n (high, low, ph, pl, e) = omega (arith, digit_below a high ph, digit_below b low pl)
pair_below (a ∷ b ∷ c ∷ t) n p = absurd p

octet_below : (t : List ℕ) (n : ℕ) → IsOctet t n → n < 256
octet_below t n p = omega (arith, p.1)

pub mac_below : (t : List ℕ) (n : ℕ) → IsMac t n → n < 2 ^ 48
mac_below t n (ns, count, j, e) = subst (λ (x : ℕ). x < 2 ^ 48) (sym e) (six ns count (joined_all IsHexPair 58 pair_below ns t j))

pub ip_below : (t : List ℕ) (n : ℕ) → IsIp t n → n < 2 ^ 32
ip_below t n (ns, count, j, e) = subst (λ (x : ℕ). x < 2 ^ 32) (sym e) (four ns count (joined_all IsOctet 46 octet_below ns t j))
