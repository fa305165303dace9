-- Pairs that are passed over without being kept.
use Rattle.std.proofs.Common.{◌≡◌, ℕ, ◌+◌, ◌^◌, ◌<◌, ◌≤◌, ◌⊎◌, inl, inr, ℤ, pos, nat_abs, List, [], ◌∷◌, ◌++◌, refl, ◌∙◌, ap}
use Rattle.merlin_base.specs.Pairs.{pair_text, pairs_text, ArePairs, IsEmptyOrBegins}
use Rattle.merlin_base.specs.Skipping.{IsPairsText}
use Rattle.merlin_base.proofs.PairTexts.{ArePairsTo, none_next, follows, cannot_follow, out_of_bound, is_zero, pairs_none, pairs_push, more_text}

-- pairs that were passed over, and what is left of the text
pub record ArePassed (bound limit : ℕ) (text rest : List ℕ) (next : ℕ) : Type 0 where
  pub done : List (ℕ × ℤ)
  pub whole : text ≡ pairs_text done ++ rest
  pub are : ArePairsTo bound limit done next
  pub begins : (done ≡ []) ⊎ IsEmptyOrBegins 32 rest

-- the next pair and what stands behind it
pub record IsNextPair (limit : ℕ) (rest : List ℕ) (pair : ℕ × ℤ) (others : List ℕ) : Type 0 where
  pub whole : rest ≡ pair_text pair ++ others
  pub short : pair.0 < 10 ^ 19
  pub small : nat_abs pair.1 ≤ limit
  pub begins : IsEmptyOrBegins 32 others

pub none_passed : (bound limit : ℕ) (text : List ℕ) → ArePassed bound limit text text 0
none_passed bound limit text = record { done = []; whole = refl; are = pairs_none bound limit; begins = inl refl }

pub passed_on : (bound limit next : ℕ) (text rest others : List ℕ) (pair : ℕ × ℤ) → ArePassed bound limit text rest next → IsNextPair limit rest pair others → next ≤ pair.0 → pair.0 < bound → (pair.1 ≡ pos 0 → ⊥) →
    ArePassed bound limit text others (pair.0 + 1)
passed_on bound limit next text rest others pair p n low below nonzero = record {
  done = p.done ++ pair ∷ [];
  whole = more_text text p.done (p.done ++ pair ∷ []) pair rest others p.whole n.whole refl;
  are = pairs_push bound limit p.done next pair p.are low below n.small nonzero;
  begins = inr n.begins;
}

-- a pair that cannot stand there
pub data IsWrongPair (bound next : ℕ) (pair : ℕ × ℤ) : Type 0 where
  early : pair.0 < next → IsWrongPair bound next pair
  late : bound ≤ pair.0 → IsWrongPair bound next pair
  zero : pair.1 ≡ pos 0 → IsWrongPair bound next pair

pub wrong_pair : (bound limit next : ℕ) (text rest others : List ℕ) (pair : ℕ × ℤ) → bound ≤ 10 ^ 19 → limit ≤ 2 ^ 60 → ArePassed bound limit text rest next → (rest ≡ [] → ⊥) → IsNextPair limit rest pair others → IsWrongPair bound next pair → ¬ IsPairsText bound limit text
wrong_pair bound limit next text rest others pair b l p some n wrong is = by wrong (follows bound limit text p.done next rest pair others b l p.whole p.are p.begins some (n.whole, n.short, n.small, n.begins) is.pairs is.are is.whole)
  where
    by : IsWrongPair bound next pair → (later : List (ℕ × ℤ)) × ArePairs bound limit (p.done ++ pair ∷ later) → ⊥
    by (early h) (later, are) = cannot_follow bound limit p.done later next pair p.are h are
    by (late h) (later, are) = out_of_bound bound limit p.done later pair h are
    by (zero h) (later, are) = is_zero bound limit p.done later pair h are

pub no_pair : (bound limit next : ℕ) (text rest : List ℕ) → bound ≤ 10 ^ 19 → limit ≤ 2 ^ 60 → ArePassed bound limit text rest next → (rest ≡ [] → ⊥) →
    ((pair : ℕ × ℤ) (more : List ℕ) → pair.0 < 10 ^ 19 → nat_abs pair.1 ≤ limit → IsEmptyOrBegins 32 more → rest ≡ pair_text pair ++ more → ⊥) → ¬ IsPairsText bound limit text
no_pair bound limit next text rest b l p some none is = none_next bound limit text p.done next rest b l p.whole p.are p.begins some none is.pairs is.are is.whole

pub all_passed : (bound limit next : ℕ) (text rest : List ℕ) → ArePassed bound limit text rest next → rest ≡ [] → IsPairsText bound limit text
all_passed bound limit next text rest p e = record { pairs = p.done; are = p.are.are; whole = p.whole ∙ ap (λ t. pairs_text p.done ++ t) e ∙ nothing_behind (pairs_text p.done) }
  where
    nothing_behind : (xs : List ℕ) → xs ++ [] ≡ xs
    nothing_behind [] = refl
    nothing_behind (x ∷ xs) = ap (λ t. x ∷ t) (nothing_behind xs)
