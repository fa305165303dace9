-- From entries to the places of predicates.
use Rattle.std.proofs.Common.{Option, None, Some, IfSome, IfNone, option_map, slice_get, ◌≡◌, ◌<◌, ◌≤◌, ◌⊎◌, ℕ, zero, suc, ◌+◌, inl, inr, Bool, true, false, cond, List, [], ◌∷◌, refl, sym, ◌∙◌, ap, subst, arith}
use Rattle.std.proofs.lemmas.Option.{slice_get_within}
use Rattle.merlin_model.specs.declared.policy.Pred.{Pred}
use Rattle.merlin_model.specs.Packets.{Packet, IsPacket}
use Rattle.merlin_model.specs.Predicates.{holds}
use Rattle.packet_model.specs.Texts.{all_fields}
use Rattle.merlin_model.proofs.Traces.{Some-inj}
use Rattle.predicate_split.specs.Walks.{IsKept}
use Rattle.predicate_split.specs.Overlaps.{placed_from, preds_in, holder, pair_at, IsNoLater, IsLeastPair, HoldsAtPlace, AreShared, IsFirstPair, IsFirstSharing, ShareNothing}
use Rattle.predicate_split.proofs.TwoHolders.{no_later-trans}

pub preds-entries : (n : ℕ) (preds : List Pred) → preds_in (placed_from n preds) ≡ preds
preds-entries n [] = refl
preds-entries n (pred ∷ rest) = ap (λ l. pred ∷ l) (preds-entries (suc n) rest)

-- who holds, by places that are counted from n
record IsHolder (n : ℕ) (preds : List Pred) (q : Packet) (j : ℕ) : Type 0 where
  place : ℕ
  counted : j ≡ n + place
  pred : Pred
  stands : slice_get preds place ≡ Some pred
  meets : holds pred q ≡ true

holder-stands : (n : ℕ) (preds : List Pred) (q : Packet) (j : ℕ) → holder (placed_from n preds) q ≡ Some j → IsHolder n preds q j
holder-stands n [] q j e = cc
holder-stands n (pred ∷ rest) q j e = by (holds pred q) refl e (holder-stands (suc n) rest q j)
  where
    by : (b : Bool) → holds pred q ≡ b → cond b (Some n) (holder (placed_from (suc n) rest) q) ≡ Some j → (holder (placed_from (suc n) rest) q ≡ Some j → IsHolder (suc n) rest q j) → IsHolder n (pred ∷ rest) q j
    by true h f later = let same : n ≡ j = cc in record { place = 0; counted = omega arith; pred = pred; stands = refl; meets = h }
    by false h f later = let k = later f in let c = k.counted in record { place = suc k.place; counted = omega arith; pred = k.pred; stands = k.stands; meets = k.meets }

-- a holder is no later than any that holds
holder-first : (n : ℕ) (preds : List Pred) (q : Packet) (l : ℕ) (b : Pred) → slice_get preds l ≡ Some b → holds b q ≡ true → (j : ℕ) × (holder (placed_from n preds) q ≡ Some j) × (j ≤ n + l)
holder-first n [] q l b e h = cc
holder-first n (pred ∷ rest) q zero b e h =
    let same : pred ≡ b = cc in
    (n, ap (λ t. cond t (Some n) (holder (placed_from (suc n) rest) q)) (ap (λ r. holds r q) same ∙ h), omega arith)
holder-first n (pred ∷ rest) q (suc l) b e h = by (holds pred q) (holder-first (suc n) rest q l b e h)
  where
    by : (t : Bool) → (j : ℕ) × (holder (placed_from (suc n) rest) q ≡ Some j) × (j ≤ suc n + l) → (j : ℕ) × (cond t (Some n) (holder (placed_from (suc n) rest) q) ≡ Some j) × (j ≤ n + suc l)
    by true k = (n, refl, omega arith)
    by false k = let le = k.2 in (k.0, k.1, omega arith)

record IsPair (n : ℕ) (preds : List Pred) (q : Packet) (i j : ℕ) : Type 0 where
  first : IsHolder n preds q i
  second : IsHolder n preds q j
  before : i < j

abbrev first_pair : ℕ → ℕ → ℕ × ℕ
first_pair n k = (n, k)

abbrev some_pair : ℕ → ℕ → Option (ℕ × ℕ)
some_pair n k = Some (n, k)

pair_inj : (n k i j : ℕ) → some_pair n k ≡ some_pair i j → (n ≡ i) × (k ≡ j)
pair_inj n k i j e = let same : first_pair n k ≡ first_pair i j = Some-inj e in (ap (λ (p : ℕ × ℕ). p.0) same, ap (λ (p : ℕ × ℕ). p.1) same)

from : (n i : ℕ) → n ≡ i → i ≡ n + 0
from n i e = omega arith

below : (n i j k place : ℕ) → n ≡ i → k ≡ j → k ≡ suc n + place → i < j
below n i j k place a b c = omega arith

pair-stands : (n : ℕ) (preds : List Pred) (q : Packet) (i j : ℕ) → pair_at (placed_from n preds) q ≡ Some (i, j) → IsPair n preds q i j
pair-stands n [] q i j e = cc
pair-stands n (pred ∷ rest) q i j e = by (holds pred q) refl (holder (placed_from (suc n) rest) q) refl e (pair-stands (suc n) rest q i j)
  where
    up : (k : ℕ) → IsHolder (suc n) rest q k → IsHolder n (pred ∷ rest) q k
    up k h = let c = h.counted in record { place = suc h.place; counted = omega arith; pred = h.pred; stands = h.stands; meets = h.meets }

    by : (b : Bool) → holds pred q ≡ b → (o : Option ℕ) → holder (placed_from (suc n) rest) q ≡ o → cond b (option_map (λ k. (n, k)) o) (pair_at (placed_from (suc n) rest) q) ≡ Some (i, j) →
        (pair_at (placed_from (suc n) rest) q ≡ Some (i, j) → IsPair (suc n) rest q i j) → IsPair n (pred ∷ rest) q i j
    by true h None f e later = cc
    by true h (Some k) f e later =
        let found = holder-stands (suc n) rest q k f in
        let c = found.counted in
        let same = pair_inj n k i j e in
        record { first = record { place = 0; counted = from n i same.0; pred = pred; stands = refl; meets = h }; second = subst (IsHolder n (pred ∷ rest) q) same.1 (up k found); before = below n i j k found.place same.0 same.1 c }
    by false h o f e later = let p = later e in record { first = up i p.first; second = up j p.second; before = p.before }

-- the pair at a packet is no later than any two that hold there
pair-first : (n : ℕ) (preds : List Pred) (q : Packet) (k l : ℕ) (a b : Pred) → k < l → slice_get preds k ≡ Some a → slice_get preds l ≡ Some b → holds a q ≡ true → holds b q ≡ true →
    IsNoLater (pair_at (placed_from n preds) q) (Some (n + k, n + l))
pair-first n [] q k l a b lt e f h g = cc
pair-first n (pred ∷ rest) q k zero a b lt e f h g = absurd (omega arith)
pair-first n (pred ∷ rest) q zero (suc l) a b lt e f h g =
    let same : pred ≡ a = cc in
    let m = holder-first (suc n) rest q l b f g in
    let le = m.2 in
    subst (λ o. IsNoLater o (Some (n + 0, n + suc l))) (sym (ap (λ t. cond t (option_map (λ j. (n, j)) (holder (placed_from (suc n) rest) q)) (pair_at (placed_from (suc n) rest) q)) (ap (λ r. holds r q) same ∙ h) ∙ ap (option_map (λ j. (n, j))) m.1))
    (inr (omega arith, omega arith))
pair-first n (pred ∷ rest) q (suc k) (suc l) a b lt e f h g = by (holds pred q) (holder-first (suc n) rest q l b f g) (pair-first (suc n) rest q k l a b (omega arith) e f h g)
  where
    shift : (o : Option (ℕ × ℕ)) → IsNoLater o (Some (suc n + k, suc n + l)) → IsNoLater o (Some (n + suc k, n + suc l))
    shift None i = i
    shift (Some p) (inl i) = inl (omega arith)
    shift (Some p) (inr i) = let x = i.0 in let y = i.1 in inr (omega arith, omega arith)

    by : (t : Bool) → (j : ℕ) × (holder (placed_from (suc n) rest) q ≡ Some j) × (j ≤ suc n + l) → IsNoLater (pair_at (placed_from (suc n) rest) q) (Some (suc n + k, suc n + l)) →
        IsNoLater (cond t (option_map (λ j. (n, j)) (holder (placed_from (suc n) rest) q)) (pair_at (placed_from (suc n) rest) q)) (Some (n + suc k, n + suc l))
    by true m i = subst (λ o. IsNoLater (option_map (λ j. (n, j)) o) (Some (n + suc k, n + suc l))) (sym m.1) (inl (omega arith))
    by false m i = shift (pair_at (placed_from (suc n) rest) q) i

at_place : (preds : List Pred) (q : Packet) (j : ℕ) → IsHolder 0 preds q j → HoldsAtPlace preds j q
at_place preds q j h = let c = h.counted in let same : j ≡ h.place = omega arith in (h.pred, ap (slice_get preds) same ∙ h.stands, h.meets)

-- the pair at a packet is no later than any that is shared there
shared-later : (preds : List Pred) (k l : ℕ) (q : Packet) → AreShared preds k l q → IsNoLater (pair_at (placed_from 0 preds) q) (Some (0 + k, 0 + l))
shared-later preds k l q s = pair-first 0 preds q k l s.first.0 s.second.0 s.before s.first.1 s.second.1 s.first.2 s.second.2

pub pair-some : (preds : List Pred) (z : Packet) (found : Option (ℕ × ℕ)) → IsLeastPair all_fields z (placed_from 0 preds) None found → IfSome found (λ pair. IsFirstSharing preds pair.0 pair.1)
pair-some preds z None h = tt
pair-some preds z (Some pair) h = by h.attained
  where
    lower : IsFirstPair preds pair.0 pair.1
    lower k l q packet s = plain (no_later-trans (Some pair) (pair_at (placed_from 0 preds) q) (Some (0 + k, 0 + l)) (h.least q packet) (shared-later preds k l q s))
      where
        plain : IsNoLater (Some pair) (Some (0 + k, 0 + l)) → (pair.0 < k) ⊎ ((pair.0 ≡ k) × (pair.1 ≤ l))
        plain (inl i) = inl (omega arith)
        plain (inr i) = let x = i.0 in let y = i.1 in inr (omega arith, omega arith)

    by : (Some pair ≡ None) ⊎ ((c : Packet) × IsPacket c × IsKept all_fields z c × (pair_at (placed_from 0 preds) c ≡ Some pair)) → IsFirstSharing preds pair.0 pair.1
    by (inl e) = cc
    by (inr w) =
        let two = pair-stands 0 preds w.0 pair.0 pair.1 w.3 in
        let first = at_place preds w.0 pair.0 two.first in
        let second = at_place preds w.0 pair.1 two.second in
        record {
          first_within = slice_get_within preds pair.0 first.0 first.1;
          second_within = slice_get_within preds pair.1 second.0 second.1;
          first_pair = lower;
          packet = w.0;
          is_packet = w.1;
          shared = record { before = two.before; first = first; second = second };
        }

pub pair-none : (preds : List Pred) (z : Packet) (found : Option (ℕ × ℕ)) → IsLeastPair all_fields z (placed_from 0 preds) None found → IfNone found (ShareNothing preds)
pair-none preds z (Some pair) h = tt
pair-none preds z None h = λ k l q packet s. no_later-trans None (pair_at (placed_from 0 preds) q) (Some (0 + k, 0 + l)) (h.least q packet) (shared-later preds k l q s)
