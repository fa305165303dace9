-- Which two predicates share a packet.
use Rattle.std.specs.Prelude.{ℕ, zero, suc, ◌≡◌, ◌<◌, ◌≤◌, ◌⊎◌, ⊤, true, List, [], ◌∷◌, length, map, Option, None, Some, option_map, slice_get, if◌then◌else◌}
use Rattle.merlin_model.specs.declared.policy.Field.{Field}
use Rattle.merlin_model.specs.declared.policy.Pred.{Pred}
use Rattle.merlin_model.specs.Packets.{Packet, IsPacket, IsLeastPacket}
use Rattle.merlin_model.specs.Predicates.{holds}
use Rattle.predicate_logic.specs.Residues.{is_yes, is_no, residue}
use Rattle.predicate_split.specs.declared.pairs.PlacedPred.{PlacedPred}
use Rattle.predicate_split.specs.Least.{IsNowhere}
use Rattle.predicate_split.specs.Walks.{IsKept}

-- the predicates with their places, from a place on
abbrev pub placed_from : ℕ → List Pred → List PlacedPred
placed_from n [] = []
placed_from n (pred ∷ rest) = record { place = n; pred = pred } ∷ placed_from (suc n) rest

abbrev pub preds_in : List PlacedPred → List Pred
preds_in entries = map (λ e. e.pred) entries

-- the place of the first predicate that holds of the packet
abbrev pub holder : List PlacedPred → Packet → Option ℕ
holder [] p = None
holder (e ∷ rest) p = if holds e.pred p then Some e.place else holder rest p

-- the places of the first two that do
abbrev pub pair_at : List PlacedPred → Packet → Option (ℕ × ℕ)
pair_at [] p = None
pair_at (e ∷ rest) p = if holds e.pred p then option_map (λ j. (e.place, j)) (holder rest p) else pair_at rest p

-- What can still be among the first two: no No, and nothing after so many Yes.
abbrev pub trimmed : ℕ → List PlacedPred → List PlacedPred
trimmed zero entries = []
trimmed (suc n) [] = []
trimmed (suc n) (e ∷ rest) = if is_no e.pred then trimmed (suc n) rest else if is_yes e.pred then e ∷ trimmed n rest else e ∷ trimmed (suc n) rest

abbrev pub entry_residue : Field → ℕ → PlacedPred → PlacedPred
entry_residue f v e = record { place = e.place; pred = residue f v e.pred }

abbrev pub entry_residues : Field → ℕ → List PlacedPred → List PlacedPred
entry_residues f v entries = map (entry_residue f v) entries

-- the one pair is no later than the other; None is after all pairs
abbrev pub IsNoLater : Option (ℕ × ℕ) → Option (ℕ × ℕ) → Type 0
IsNoLater a None = ⊤
IsNoLater None (Some b) = ⊥
IsNoLater (Some a) (Some b) = (a.0 < b.0) ⊎ ((a.0 ≡ b.0) × (a.1 ≤ b.1))

-- The least pair over all packets, or one that was known before. A new one has a packet with the fields that are fixed.
pub record IsLeastPair (fs : List Field) (p : Packet) (entries : List PlacedPred) (known found : Option (ℕ × ℕ)) : Type 0 where
  pub least : (q : Packet) → IsPacket q → IsNoLater found (pair_at entries q)
  pub no_worse : IsNoLater found known
  pub attained : (found ≡ known) ⊎ ((c : Packet) × IsPacket c × IsKept fs p c × (pair_at entries c ≡ found))

-- The predicate at this place holds of the packet.
abbrev pub HoldsAtPlace : List Pred → ℕ → Packet → Type 0
HoldsAtPlace preds i p = (pred : Pred) × (slice_get preds i ≡ Some pred) × (holds pred p ≡ true)

-- The predicates at both places hold of the packet.
pub record AreShared (preds : List Pred) (i j : ℕ) (p : Packet) : Type 0 where
  pub before : i < j
  pub first : HoldsAtPlace preds i p
  pub second : HoldsAtPlace preds j p

-- no pair of places before this one has a packet that both predicates hold of
abbrev pub IsFirstPair : List Pred → ℕ → ℕ → Type 0
IsFirstPair preds i j =
    (k l : ℕ) (q : Packet) → IsPacket q → AreShared preds k l q → (i < k) ⊎ ((i ≡ k) × (j ≤ l))

-- the first pair of places whose predicates share a packet, and the least packet that they share
pub record IsLeastOverlap (preds : List Pred) (i j : ℕ) (c : Packet) : Type 0 where
  pub first_pair : IsFirstPair preds i j
  pub least_packet : IsLeastPacket (AreShared preds i j) c

-- no two of the predicates share a packet
abbrev pub ShareNothing : List Pred → Type 0
ShareNothing preds = (k l : ℕ) → IsNowhere (AreShared preds k l)

-- this pair shares a packet, and none before it does
pub record IsFirstSharing (preds : List Pred) (i j : ℕ) : Type 0 where
  pub first_within : i < length preds
  pub second_within : j < length preds
  pub first_pair : IsFirstPair preds i j
  pub packet : Packet
  pub is_packet : IsPacket packet
  pub shared : AreShared preds i j packet
