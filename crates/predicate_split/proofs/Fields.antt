-- The fields from some place on.
use Rattle.std.proofs.Common.{◌≡◌, ◌≤◌, ℕ, zero, suc, List, [], ◌∷◌, drop, refl, sym, subst, arith}
use Rattle.merlin_model.specs.declared.policy.Field.{Field}
use Rattle.merlin_model.specs.declared.policy.Field.TheVariants.{EthSrc, EthDst, IpSrc, IpDst, Proto, Sport, Dport}
use Rattle.merlin_model.specs.Packets.{Packet, field_of}
use Rattle.packet_model.specs.Fields.{replace}
use Rattle.packet_model.specs.Texts.{all_fields}
use Rattle.predicate_split.specs.Walks.{IsRest}

abbrev first : List Field → Field
first [] = EthSrc
first (f ∷ fs) = f

abbrev others : List Field → List Field
others [] = []
others (f ∷ fs) = fs

-- what holds of each field with those after it
pub by_place : (P : Field → List Field → Type 0) → P EthSrc (EthDst ∷ IpSrc ∷ IpDst ∷ Proto ∷ Sport ∷ Dport ∷ []) → P EthDst (IpSrc ∷ IpDst ∷ Proto ∷ Sport ∷ Dport ∷ []) →
    P IpSrc (IpDst ∷ Proto ∷ Sport ∷ Dport ∷ []) → P IpDst (Proto ∷ Sport ∷ Dport ∷ []) → P Proto (Sport ∷ Dport ∷ []) → P Sport (Dport ∷ []) → P Dport [] →
    (f : Field) (fs : List Field) → IsRest (f ∷ fs) → P f fs
by_place P a b c d e g h f fs rest = by rest.0 rest.1 rest.2
  where
    at : (gs : List Field) → P (first gs) (others gs) → f ∷ fs ≡ gs → P f fs
    at gs p same = subst (λ hs. P (first hs) (others hs)) (sym same) p

    by : (k : ℕ) → k ≤ 7 → f ∷ fs ≡ drop k all_fields → P f fs
    by zero le same = at all_fields a same
    by (suc zero) le same = at (EthDst ∷ IpSrc ∷ IpDst ∷ Proto ∷ Sport ∷ Dport ∷ []) b same
    by (suc (suc zero)) le same = at (IpSrc ∷ IpDst ∷ Proto ∷ Sport ∷ Dport ∷ []) c same
    by (suc (suc (suc zero))) le same = at (IpDst ∷ Proto ∷ Sport ∷ Dport ∷ []) d same
    by (suc (suc (suc (suc zero)))) le same = at (Proto ∷ Sport ∷ Dport ∷ []) e same
    by (suc (suc (suc (suc (suc zero))))) le same = at (Sport ∷ Dport ∷ []) g same
    by (suc (suc (suc (suc (suc (suc zero)))))) le same = at (Dport ∷ []) h same
    by (suc (suc (suc (suc (suc (suc (suc k))))))) le same = absurd (none k le same)
      where
        none : (k : ℕ) → suc (suc (suc (suc (suc (suc (suc k)))))) ≤ 7 → f ∷ fs ≡ drop (suc (suc (suc (suc (suc (suc (suc k))))))) all_fields → ⊥
        none zero le same = let e : f ∷ fs ≡ [] = same in cc
        none (suc k) le same = absurd (omega arith)

-- the fields after a field are the fields from the next place on
pub rest_of-rest : (f : Field) (fs : List Field) → IsRest (f ∷ fs) → IsRest fs
rest_of-rest = by_place (λ f fs. IsRest fs) (1, omega arith, refl) (2, omega arith, refl) (3, omega arith, refl) (4, omega arith, refl) (5, omega arith, refl) (6, omega arith, refl) (7, omega arith, refl)

pub field-replace : (f : Field) (v : ℕ) (p : Packet) → field_of f (replace f v p) ≡ v
field-replace EthSrc v p = refl
field-replace EthDst v p = refl
field-replace IpSrc v p = refl
field-replace IpDst v p = refl
field-replace Proto v p = refl
field-replace Sport v p = refl
field-replace Dport v p = refl

pub field-kept : (f g : Field) (v : ℕ) (p : Packet) → (g ≡ f → ⊥) → field_of g (replace f v p) ≡ field_of g p
field-kept EthSrc EthSrc v p out = absurd (out refl)
field-kept EthSrc EthDst v p out = refl
field-kept EthSrc IpSrc v p out = refl
field-kept EthSrc IpDst v p out = refl
field-kept EthSrc Proto v p out = refl
field-kept EthSrc Sport v p out = refl
field-kept EthSrc Dport v p out = refl
field-kept EthDst EthSrc v p out = refl
field-kept EthDst EthDst v p out = absurd (out refl)
field-kept EthDst IpSrc v p out = refl
field-kept EthDst IpDst v p out = refl
field-kept EthDst Proto v p out = refl
field-kept EthDst Sport v p out = refl
field-kept EthDst Dport v p out = refl
field-kept IpSrc EthSrc v p out = refl
field-kept IpSrc EthDst v p out = refl
field-kept IpSrc IpSrc v p out = absurd (out refl)
field-kept IpSrc IpDst v p out = refl
field-kept IpSrc Proto v p out = refl
field-kept IpSrc Sport v p out = refl
field-kept IpSrc Dport v p out = refl
field-kept IpDst EthSrc v p out = refl
field-kept IpDst EthDst v p out = refl
field-kept IpDst IpSrc v p out = refl
field-kept IpDst IpDst v p out = absurd (out refl)
field-kept IpDst Proto v p out = refl
field-kept IpDst Sport v p out = refl
field-kept IpDst Dport v p out = refl
field-kept Proto EthSrc v p out = refl
field-kept Proto EthDst v p out = refl
field-kept Proto IpSrc v p out = refl
field-kept Proto IpDst v p out = refl
field-kept Proto Proto v p out = absurd (out refl)
field-kept Proto Sport v p out = refl
field-kept Proto Dport v p out = refl
field-kept Sport EthSrc v p out = refl
field-kept Sport EthDst v p out = refl
field-kept Sport IpSrc v p out = refl
field-kept Sport IpDst v p out = refl
field-kept Sport Proto v p out = refl
field-kept Sport Sport v p out = absurd (out refl)
field-kept Sport Dport v p out = refl
field-kept Dport EthSrc v p out = refl
field-kept Dport EthDst v p out = refl
field-kept Dport IpSrc v p out = refl
field-kept Dport IpDst v p out = refl
field-kept Dport Proto v p out = refl
field-kept Dport Sport v p out = refl
field-kept Dport Dport v p out = absurd (out refl)
