-- An octet has no dot in it, so the first dot is its end.
use Rattle.std.proofs.Common.{◌≡◌, ◌≢◌, ◌++◌, ℕ, List, [], ◌∷◌, refl, arith, subst}
use Rattle.std.proofs.lemmas.List.Elements.{recursion_from_All}
use Rattle.std.specs.List.{AllByRecursion}
use Rattle.merlin_base.specs.Lexemes.{IsDigit, IsOctet, IsThen, Lacks}
use Rattle.merlin_base.proofs.Parts.{EndsAt}

LacksAll : ℕ → List ℕ → Type 0
LacksAll byte = AllByRecursion (λ other. other ≢ byte)

-- two fronts without the byte
pub same_front : (byte : ℕ) (f g r s : List ℕ) → AllByRecursion (λ other. other ≢ byte) f → AllByRecursion (λ other. other ≢ byte) g → f ++ byte ∷ r ≡ g ++ byte ∷ s → (f ≡ g) × (r ≡ s)
same_front byte [] [] r s p q e = (refl, cc)
same_front byte [] (c ∷ g) r s p q e = absurd (let same : c ≡ byte = cc in q.0 same)
same_front byte (c ∷ f) [] r s p q e = absurd (let same : c ≡ byte = cc in p.0 same)
same_front byte (c ∷ f) (d ∷ g) r s p q e =
    let step = same_front byte f g r s p.1 q.1 cc in
    let fronts : f ≡ g = step.0 in
    (cc, step.1)

-- the byte stands in a text that has it
pub no_place : (byte : ℕ) (f r : List ℕ) → AllByRecursion (λ other. other ≢ byte) (f ++ byte ∷ r) → ⊥
no_place byte [] r lacks = lacks.0 refl
no_place byte (c ∷ f) r lacks = no_place byte f r lacks.1

pub digits_lack : (f : List ℕ) → AllByRecursion IsDigit f → AllByRecursion (λ other. other ≢ 46) f
digits_lack [] p = tt
digits_lack (c ∷ f) p = ((λ e. omega (arith, p.0)), digits_lack f p.1)

pub octet_lacks : (f : List ℕ) (n : ℕ) → IsOctet f n → AllByRecursion (λ other. other ≢ 46) f
octet_lacks f n octet = digits_lack f (recursion_from_All IsDigit f octet.0.digits)

pub octet_ends : EndsAt IsOctet 46
unfolding EndsAt
octet_ends f g r s n m p q e = (same_front 46 f g r s (octet_lacks f n p) (octet_lacks g m q) e).1

pub IsThen-lacks : (text : List ℕ) (n : ℕ) (rest : List ℕ) → Lacks 46 text → IsThen IsOctet 46 text n rest → ⊥
IsThen-lacks text n rest lacks (first, octet, split) = no_place 46 first rest (recursion_from_All (λ (other : ℕ). other ≢ 46) _ (rw split at lacks))

-- the part before the first dot is the octet
pub IsThen-front : (text front back : List ℕ) (n : ℕ) (rest : List ℕ) → text ≡ front ++ 46 ∷ back → Lacks 46 front → IsThen IsOctet 46 text n rest → IsOctet front n
IsThen-front text front back n rest e lacks (first, octet, split) =
    let fronts = same_front 46 first front rest back (octet_lacks first n octet) (recursion_from_All (λ (other : ℕ). other ≢ 46) front lacks) cc in
    subst (λ (f : List ℕ). IsOctet f n) fronts.0 octet
