-- A block of addresses is read in one way, and is no number, rate or address.
use Rattle.std.proofs.Common.{◌≡◌, ◌≢◌, ◌≤◌, ◌++◌, ℕ, List, [], ◌∷◌, arith, sym, ◌∙◌, subst}
use Rattle.std.specs.List.{AllByRecursion}
use Rattle.std.proofs.lemmas.List.Elements.{recursion_from_All}
use Rattle.merlin_base.specs.Lexemes.{IsDigit, IsDecimal, IsOctet, AreJoined, IsIp, IsRate, Lacks}
use Rattle.merlin_base.proofs.Octets.{same_front, no_place, digits_lack}
use Rattle.merlin_base.proofs.Unique.{IsDecimal-one, IsIp-one, rate_lacks}
use Rattle.merlin_text.specs.Tokens.{IsPrefix}

abbrev LacksAll : ℕ → List ℕ → Type 0
LacksAll byte = AllByRecursion (λ (other : ℕ). other ≢ byte)

append_lacks : (byte : ℕ) (f g : List ℕ) → LacksAll byte f → LacksAll byte g → LacksAll byte (f ++ g)
append_lacks byte [] g p q = q
append_lacks byte (c ∷ f) g p q = (p.0, append_lacks byte f g p.1 q)

digits_no_slash : (f : List ℕ) → AllByRecursion IsDigit f → LacksAll 47 f
digits_no_slash [] p = tt
digits_no_slash (c ∷ f) p = ((λ e. omega (arith, p.0)), digits_no_slash f p.1)

number_no_slash : (text : List ℕ) (n : ℕ) → IsDecimal text n → LacksAll 47 text
number_no_slash text n is = digits_no_slash text (recursion_from_All IsDigit text is.digits)

joined_no_slash : (text ns : List ℕ) → AreJoined IsOctet 46 text ns → LacksAll 47 text
joined_no_slash text [] p = absurd p
joined_no_slash text (n ∷ []) p = number_no_slash text n p.0
joined_no_slash text (n ∷ m ∷ ns) (rest, (first, octet, split), joined) =
    subst (LacksAll 47) (sym split)
    (append_lacks 47 first (46 ∷ rest) (number_no_slash first n octet.0) ((λ e. omega arith), joined_no_slash rest (m ∷ ns) joined))

ip_no_slash : (text : List ℕ) (n : ℕ) → IsIp text n → LacksAll 47 text
ip_no_slash text n (ns, four, joined, value) = joined_no_slash text ns joined

pub ip_no_prefix : (text : List ℕ) (ip value bits : ℕ) → IsIp text ip → IsPrefix text value bits → ⊥
ip_no_prefix text ip value bits is p = no_place 47 p.address p.number (subst (LacksAll 47) p.whole (ip_no_slash text ip is))

-- an address has a dot
dot_no_prefix : (text : List ℕ) (value bits : ℕ) → LacksAll 46 text → IsPrefix text value bits → ⊥
dot_no_prefix text value bits lacks p = by p.address p.ip p.whole
  where
    back : (f g : List ℕ) → LacksAll 46 (f ++ g) → LacksAll 46 f
    back [] g h = tt
    back (c ∷ f) g h = (h.0, back f g h.1)

    by : (address : List ℕ) → IsIp address value → text ≡ address ++ 47 ∷ p.number → ⊥
    by address ([], four, joined, v) whole = joined
    by address (a ∷ [], four, joined, v) whole = absurd (omega arith)
    by address (a ∷ b ∷ ns, four, (rest, (first, octet, split), joined), v) whole =
        no_place 46 first rest (subst (LacksAll 46) split (back address (47 ∷ p.number) (subst (LacksAll 46) whole lacks)))

pub number_no_prefix : (text : List ℕ) (n value bits : ℕ) → IsDecimal text n → IsPrefix text value bits → ⊥
number_no_prefix text n value bits is = dot_no_prefix text value bits (digits_lack text (recursion_from_All IsDigit text is.digits))

pub rate_no_prefix : (text : List ℕ) (rate value bits : ℕ) → IsRate text rate → IsPrefix text value bits → ⊥
rate_no_prefix text rate value bits is = dot_no_prefix text value bits (rate_lacks text rate is)

-- the address is what stands before the first `/`
parts_of : (text front back : List ℕ) (value bits : ℕ) → text ≡ front ++ 47 ∷ back → LacksAll 47 front → (p : IsPrefix text value bits) → (p.address ≡ front) × (p.number ≡ back)
parts_of text front back value bits e lacks p = same_front 47 p.address front p.number back (ip_no_slash p.address value p.ip) lacks (sym p.whole ∙ e)

pub prefix_parts : (text front back : List ℕ) (value bits : ℕ) → text ≡ front ++ 47 ∷ back → Lacks 47 front → IsPrefix text value bits → IsIp front value × IsDecimal back bits
prefix_parts text front back value bits e lacks p =
    let parts = parts_of text front back value bits e (recursion_from_All (λ (other : ℕ). other ≢ 47) front lacks) p in
    (subst (λ (f : List ℕ). IsIp f value) parts.0 p.ip, subst (λ (f : List ℕ). IsDecimal f bits) parts.1 p.decimal)

pub prefix_few : (text : List ℕ) (value bits : ℕ) → IsPrefix text value bits → bits ≤ 32
prefix_few text value bits p = p.few

pub prefix_has_slash : (text : List ℕ) (value bits : ℕ) → Lacks 47 text → IsPrefix text value bits → ⊥
prefix_has_slash text value bits lacks p = no_place 47 p.address p.number (subst (LacksAll 47) p.whole (recursion_from_All (λ (other : ℕ). other ≢ 47) text lacks))

pub IsPrefix-one : (text : List ℕ) (v n w m : ℕ) → IsPrefix text v n → IsPrefix text w m → (v ≡ w) × (n ≡ m)
IsPrefix-one text v n w m p q =
    let parts = parts_of text q.address q.number v n q.whole (ip_no_slash q.address w q.ip) p in (
      IsIp-one q.address v w (subst (λ (f : List ℕ). IsIp f v) parts.0 p.ip) q.ip,
      IsDecimal-one q.number n m (subst (λ (f : List ℕ). IsDecimal f n) parts.1 p.decimal) q.decimal,
    )
