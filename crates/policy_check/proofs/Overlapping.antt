-- Places of overlaps, and the ids of the statements there.
use Rattle.std.proofs.Common.{◌≡◌, ◌<◌, ◌≤◌, ℕ, List, [], length, slice_get, Option, None, Some, IfNone, sym, ◌∙◌, ap, subst, arith}
use Rattle.predicate_split.specs.Refusals.{classes_in}
use Rattle.predicate_split.specs.declared.fault.TheConstants.{MAX_CLASSES}
use Rattle.std.specs.List.{slice_index_or}
use Rattle.std.proofs.lemmas.List.{length-map}
use Rattle.std.proofs.lemmas.Option.{slice_get_within, slice_get-get_or}
use Rattle.merlin_model.specs.declared.policy.Pred.{Pred}
use Rattle.merlin_model.specs.Packets.{Packet}
use Rattle.predicate_split.specs.Overlaps.{ShareNothing, IsLeastOverlap}
use Rattle.policy_expansion.specs.declared.policy.Statement.{Statement}
use Rattle.policy_expansion.specs.declared.policy.Policy.{Policy}
use Rattle.policy_check.specs.Rules.{listed_ids, listed_preds, HasApartPreds, IsOverlapOf}

pub ids-many : (raw : Policy) → length (listed_preds raw) ≡ length (listed_ids raw)
ids-many raw = length-map raw.statements (λ (s : Statement). s.pred) ∙ sym (length-map raw.statements (λ (s : Statement). s.id))

module _ (raw : Policy) (ids : List (List ℕ)) (preds : List Pred) (ids-are : ids ≡ listed_ids raw) (preds-are : preds ≡ listed_preds raw) where
  below : (i : ℕ) (pred : Pred) → slice_get preds i ≡ Some pred → i < length ids
  below i pred at =
      let within = slice_get_within preds i pred at in
      let many : length preds ≡ length ids = ap length preds-are ∙ (ids-many raw ∙ sym (ap length ids-are)) in
      omega (arith, within, many)

  pub first-below : (i j : ℕ) (packet : Packet) → IsLeastOverlap preds i j packet → i < length ids
  first-below i j packet least = below i least.least_packet.has.first.0 least.least_packet.has.first.1

  pub second-below : (i j : ℕ) (packet : Packet) → IsLeastOverlap preds i j packet → j < length ids
  second-below i j packet least = below j least.least_packet.has.second.0 least.least_packet.has.second.1

  id-at : (i : ℕ) → i < length ids → slice_get (listed_ids raw) i ≡ Some (slice_index_or ids i [])
  id-at i within = subst (λ l. slice_get l i ≡ Some (slice_index_or ids i [])) ids-are (slice_get-get_or ids i [] within)

  pub overlap-of : (i j : ℕ) (packet : Packet) → IsLeastOverlap preds i j packet → IsOverlapOf raw (slice_index_or ids i []) (slice_index_or ids j []) packet
  overlap-of i j packet least = record {
    i = i;
    j = j;
    least = subst (λ l. IsLeastOverlap l i j packet) preds-are least;
    first_id = id-at i (first-below i j packet least);
    second_id = id-at j (second-below i j packet least);
  }

  pub apart-of : (found : Option (ℕ × ℕ × Packet)) → IfNone found (ShareNothing preds) → classes_in preds ≤ MAX_CLASSES → found ≡ None → HasApartPreds raw
  apart-of found none few is = record {
    few = subst (λ l. classes_in l ≤ MAX_CLASSES) preds-are few;
    apart = subst ShareNothing preds-are (subst (λ f. IfNone f (ShareNothing preds)) is none);
  }
