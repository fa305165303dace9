-- The least packet of the least pair.
use Rattle.std.proofs.Common.{Option, None, Some, IfSome, IfNone, slice_get, get_or, length, ◌≡◌, ◌<◌, ℕ, zero, suc, List, [], ◌∷◌, sym, ◌∙◌, ap, subst, arith}
use Rattle.std.proofs.lemmas.Option.{slice_get_within}
use Rattle.merlin_model.specs.declared.policy.Pred.{Pred}
use Rattle.merlin_model.specs.Packets.{Packet, IsLeastPacket}
use Rattle.merlin_model.specs.Predicates.{holds}
use Rattle.merlin_model.proofs.Traces.{Some-inj}
use Rattle.predicate_split.specs.Least.{AllHold, IsNowhere}
use Rattle.predicate_split.specs.Overlaps.{AreShared, IsFirstSharing, IsLeastOverlap}
use Rattle.predicate_split.proofs.Properties.{least-same}

abbrev pub pair_of : ℕ → ℕ → Option (ℕ × ℕ)
pair_of i j = Some (i, j)

-- the predicates of the pair are those at its places
record AtPlaces (preds : List Pred) (i j : ℕ) (a b : Pred) : Type 0 where
  before : i < j
  first : slice_get preds i ≡ Some a
  second : slice_get preds j ≡ Some b

both : (preds : List Pred) (i j : ℕ) (a b : Pred) → AtPlaces preds i j a b → (q : Packet) → AllHold (a ∷ b ∷ []) q → AreShared preds i j q
both preds i j a b at q h = record { before = at.before; first = (a, at.first, h.0); second = (b, at.second, h.1.0) }

apart : (preds : List Pred) (i j : ℕ) (a b : Pred) → AtPlaces preds i j a b → (q : Packet) → AreShared preds i j q → AllHold (a ∷ b ∷ []) q
apart preds i j a b at q s = (
  sym (ap (λ r. holds r q) (Some-inj (sym s.first.1 ∙ at.first))) ∙ s.first.2,
  (sym (ap (λ r. holds r q) (Some-inj (sym s.second.1 ∙ at.second))) ∙ s.second.2, tt),
)

at_index : (preds : List Pred) (i : ℕ) (a : Pred) → i < length preds → a ≡ get_or preds i a → slice_get preds i ≡ Some a
at_index [] i a lt e = absurd (omega arith)
at_index (x ∷ rest) zero a lt e = ap Some (sym e)
at_index (x ∷ rest) (suc i) a lt e = at_index rest i a (omega arith) e

read_places : (preds : List Pred) (i j : ℕ) (a b : Pred) → IsFirstSharing preds i j → a ≡ get_or preds i a → b ≡ get_or preds j b → AtPlaces preds i j a b
read_places preds i j a b pair e f = record {
  before = pair.shared.before;
  first = at_index preds i a (slice_get_within preds i pair.shared.first.0 pair.shared.first.1) e;
  second = at_index preds j b (slice_get_within preds j pair.shared.second.0 pair.shared.second.1) f;
}

pub overlap-some : (preds : List Pred) (o : Option (ℕ × ℕ)) (found : Option Packet) (i j : ℕ) (a b : Pred) (c : Packet) → IfSome o (λ pair. IsFirstSharing preds pair.0 pair.1) → o ≡ pair_of i j → a ≡ get_or preds i a → b ≡ get_or preds j b →
    IfSome found (IsLeastPacket (AllHold (a ∷ b ∷ []))) → found ≡ Some c → IsLeastOverlap preds i j c
overlap-some preds o found i j a b c h is e f least got =
    let pair : IsFirstSharing preds i j = subst (λ (p : Option (ℕ × ℕ)). IfSome p (λ pair. IsFirstSharing preds pair.0 pair.1)) is h in
    let at = read_places preds i j a b pair e f in
    record {
      first_pair = pair.first_pair;
      least_packet = least-same (AllHold (a ∷ b ∷ [])) (AreShared preds i j) (both preds i j a b at) (apart preds i j a b at) c (subst (λ (p : Option Packet). IfSome p (IsLeastPacket (AllHold (a ∷ b ∷ [])))) got least);
    }

pub overlap-none : (preds : List Pred) (o : Option (ℕ × ℕ)) (found : Option Packet) (i j : ℕ) (a b : Pred) → IfSome o (λ pair. IsFirstSharing preds pair.0 pair.1) → o ≡ pair_of i j → a ≡ get_or preds i a → b ≡ get_or preds j b →
    IfNone found (IsNowhere (AllHold (a ∷ b ∷ []))) → found ≡ None → ⊥
overlap-none preds o found i j a b h is e f nowhere got =
    let pair : IsFirstSharing preds i j = subst (λ (p : Option (ℕ × ℕ)). IfSome p (λ pair. IsFirstSharing preds pair.0 pair.1)) is h in
    let at = read_places preds i j a b pair e f in
    let none : IsNowhere (AllHold (a ∷ b ∷ [])) = subst (λ (p : Option Packet). IfNone p (IsNowhere (AllHold (a ∷ b ∷ [])))) got nowhere in
    none pair.packet pair.is_packet (apart preds i j a b at pair.packet pair.shared)
