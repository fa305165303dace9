-- The least packet, field by field.
use Rattle.std.proofs.Common.{Option, None, Some, is_some, IfSome, IfNone, ◌≡◌, ◌<◌, ◌≤◌, ◌⊎◌, ℕ, zero, suc, inl, inr, true, false, List, [], ◌∷◌, length, get_or, take, refl, sym, ◌∙◌, ap, subst, arith}
use Rattle.merlin_model.specs.declared.policy.Field.{Field}
use Rattle.merlin_model.specs.declared.policy.Test.{Test}
use Rattle.merlin_model.specs.declared.policy.Test.TheVariants.{Is, Port, Within}
use Rattle.merlin_model.specs.declared.policy.Pred.{Pred}
use Rattle.merlin_model.specs.Packets.{Packet, IsPacket, field_of}
use Rattle.merlin_model.specs.Predicates.{holds, IsInRange}
use Rattle.merlin_model.specs.Networks.{Pairwise}
use Rattle.merlin_model.proofs.Members.{In, in_append-left, all_in}
use Rattle.packet_model.specs.Fields.{replace, packet_with}
use Rattle.predicate_logic.specs.Residues.{residue, residues}
use Rattle.predicate_logic.specs.Mentions.{tests_of}
use Rattle.predicate_logic.proofs.Meanings.{residue-holds}
use Rattle.predicate_logic.proofs.Untested.{untested-holds}
use Rattle.predicate_split.specs.Parts.{field_parts}
use Rattle.predicate_split.specs.Walks.{IsRest, IsFresh, AreFresh, IsUnfixed, IsLeastFrom, values_of, IsNotAfter, HoldsNowhere}
use Rattle.predicate_split.proofs.Fields.{field-replace, field-kept}
use Rattle.predicate_split.proofs.Splitting.{IsPartOf, parts-cover, parts-pairwise, parts-below, parts-zero, packet-below, in_order, in_range, set-replaces, replace-proto, residues-fresh}

-- fields that are not fixed are as low as can be
pub open-up : (fs : List Field) (p q : Packet) → IsUnfixed fs p → IsNotAfter (values_of fs p) (values_of fs q)
open-up [] p q opened = tt
open-up (f ∷ fs) p q opened = by (field_of f q) refl (open-up fs p q (λ g i. opened g (inr i)))
  where
    by : (n : ℕ) → field_of f q ≡ n → IsNotAfter (values_of fs p) (values_of fs q) → (field_of f p < field_of f q) ⊎ ((field_of f p ≡ field_of f q) × IsNotAfter (values_of fs p) (values_of fs q))
    by zero e rest = inr (opened f (inl refl) ∙ sym e, rest)
    by (suc n) e rest = let z = opened f (inl refl) in inl (omega arith)

pub settled-least : (fs : List Field) (p : Packet) (pred : Pred) → IsUnfixed fs p → holds pred p ≡ true → IsLeastFrom fs p pred p
settled-least fs p pred opened h = record { meets = h; kept = λ f out. refl; least = λ q packet meets. open-up fs p q opened }

pub untested : (fresh_proto : ℕ) (pred : Pred) → AreFresh [] fresh_proto (pred ∷ []) → (t : Test) → ¬ In t (tests_of pred)
untested proto pred fresh t i = none t (fresh t (in_append-left (tests_of pred) [] t i))
  where
    none : (t : Test) → IsFresh [] proto t → ⊥
    none (Is f n) h = h.0
    none (Port q f n) h = h.0
    none (Within f n length) h = h.0

pub untested-nowhere : (p : Packet) (pred : Pred) → AreFresh [] p.proto (pred ∷ []) → holds pred p ≡ false → HoldsNowhere pred
untested-nowhere p pred fresh h q packet meets = true_false (sym meets ∙ untested-holds q p pred (untested p.proto pred fresh) ∙ h)
  where
    true_false : true ≡ false → ⊥
    true_false e = cc

-- Places in an ascending list.

in_place : (ns : List ℕ) (k v u : ℕ) → Pairwise (λ a b. a < b) ns → k < length ns → v ≡ get_or ns k 0 → In u ns → In u (take k ns) ⊎ (u ≡ v) ⊎ (v < u)
in_place [] k v u up lt e i = absurd i
in_place (n ∷ ns) zero v u up lt e (inl same) = inr (inl (same ∙ sym e))
in_place (n ∷ ns) zero v u up lt e (inr i) = inr (inr (subst (λ m. m < u) (sym e) (all_in (λ m. n < m) ns u up.0 i)))
in_place (n ∷ ns) (suc k) v u up lt e (inl same) = inl (inl same)
in_place (n ∷ ns) (suc k) v u up lt e (inr i) = by (in_place ns k v u up.1 (omega arith) e i)
  where
    by : In u (take k ns) ⊎ (u ≡ v) ⊎ (v < u) → In u (n ∷ take k ns) ⊎ (u ≡ v) ⊎ (v < u)
    by (inl j) = inl (inr j)
    by (inr j) = inr j

pub take_more : (ns : List ℕ) (k v u : ℕ) → k < length ns → v ≡ get_or ns k 0 → In u (take (suc k) ns) → In u (take k ns) ⊎ (u ≡ v)
take_more [] k v u lt e i = absurd i
take_more (n ∷ ns) zero v u lt e (inl same) = inr (same ∙ sym e)
take_more (n ∷ ns) zero v u lt e (inr i) = absurd i
take_more (n ∷ ns) (suc k) v u lt e (inl same) = inl (inl same)
take_more (n ∷ ns) (suc k) v u lt e (inr i) = by (take_more ns k v u (omega arith) e i)
  where
    by : In u (take k ns) ⊎ (u ≡ v) → In u (n ∷ take k ns) ⊎ (u ≡ v)
    by (inl j) = inl (inr j)
    by (inr j) = inr j

in_at : (ns : List ℕ) (k v : ℕ) → k < length ns → v ≡ get_or ns k 0 → In v ns
in_at [] k v lt e = absurd (omega arith)
in_at (n ∷ ns) zero v lt e = inl e
in_at (n ∷ ns) (suc k) v lt e = inr (in_at ns k v (omega arith) e)

-- One step of the walk: field f of packet p is fixed at each of its parts in turn.

pub record IsStep (f : Field) (fs : List Field) (p : Packet) (preds : List Pred) (ns : List ℕ) : Type 0 where
  pub rest : IsRest (f ∷ fs)
  pub packet : IsPacket p
  pub fresh : AreFresh (f ∷ fs) p.proto preds
  pub opened : IsUnfixed (f ∷ fs) p
  pub parts : ns ≡ field_parts f p.proto preds

part-in : (f : Field) (fs : List Field) (p : Packet) (preds : List Pred) (ns : List ℕ) (k v : ℕ) → IsStep f fs p preds ns → k < length ns → v ≡ get_or ns k 0 → In v (field_parts f p.proto preds)
part-in f fs p preds ns k v step lt e = subst (In v) step.parts (in_at ns k v lt e)

pub step-range : (f : Field) (fs : List Field) (p : Packet) (preds : List Pred) (ns : List ℕ) (k v : ℕ) → IsStep f fs p preds ns → k < length ns → v ≡ get_or ns k 0 → IsInRange f v
step-range f fs p preds ns k v step lt e = in_range f v (parts-below f (f ∷ fs) p.proto v preds step.fresh (part-in f fs p preds ns k v step lt e))

pub step-packet : (f : Field) (fs : List Field) (p : Packet) (preds : List Pred) (ns : List ℕ) (k v : ℕ) → IsStep f fs p preds ns → k < length ns → v ≡ get_or ns k 0 → packet_with p f v ≡ replace f v p
step-packet f fs p preds ns k v step lt e = set-replaces f fs step.rest v p step.packet step.opened (parts-zero f p.proto v preds (part-in f fs p preds ns k v step lt e))

pub step-fresh : (f : Field) (fs : List Field) (p : Packet) (preds : List Pred) (ns : List ℕ) (v : ℕ) → IsStep f fs p preds ns → AreFresh fs (replace f v p).proto (residues f v preds)
step-fresh f fs p preds ns v step = subst (λ q. AreFresh fs q (residues f v preds)) (sym (replace-proto f v p)) (residues-fresh f fs step.rest p.proto v preds step.fresh)

pub step-open : (f : Field) (fs : List Field) (p : Packet) (preds : List Pred) (ns : List ℕ) (v : ℕ) → IsStep f fs p preds ns → IsUnfixed fs (replace f v p)
step-open f fs p preds ns v step g i = field-kept f g v p (λ same. (in_order f fs step.rest).once (subst (λ h. In h fs) same i)) ∙ step.opened g (inr i)

-- the part of a packet's value
pub step-part : (f : Field) (fs : List Field) (p q : Packet) (preds : List Pred) (ns : List ℕ) → IsStep f fs p preds ns → IsPacket q → IsPartOf f (field_of f q) (field_parts f p.proto preds) preds
step-part f fs p q preds ns step packet = parts-cover f fs p.proto (field_of f q) preds step.rest step.fresh (packet-below f q packet)

head_same : (f : Field) (u v : ℕ) (pred : Pred) → residues f u (pred ∷ []) ≡ residues f v (pred ∷ []) → residue f u pred ≡ residue f v pred
head_same f u v pred e = cc

trichotomy : (a b : ℕ) → (a < b) ⊎ (b ≤ a)
trichotomy a b = grind arith

-- nothing is left out at the part of a packet
part-meets : (f : Field) (fs : List Field) (p q : Packet) (pred : Pred) (ns : List ℕ) → IsStep f fs p (pred ∷ []) ns → IsPacket q → holds pred q ≡ true →
    (u : ℕ) × In u ns × (u ≤ field_of f q) × (holds (residue f u pred) q ≡ true)
part-meets f fs p q pred ns step packet meets =
    let part = step-part f fs p q (pred ∷ []) ns step packet in (
      part.part,
      subst (In part.part) (sym step.parts) part.is_part,
      part.up_to,
      ap (λ r. holds r q) (head_same f part.part (field_of f q) pred part.same) ∙ residue-holds f (field_of f q) q refl pred ∙ meets,
    )

pub step-none : (f : Field) (fs : List Field) (p : Packet) (pred : Pred) (ns : List ℕ) → IsStep f fs p (pred ∷ []) ns → ((u : ℕ) → In u ns → HoldsNowhere (residue f u pred)) → HoldsNowhere pred
step-none f fs p pred ns step tried q packet meets = let m = part-meets f fs p q pred ns step packet meets in tried m.0 m.1 q packet m.3

pub step-tried : (f : Field) (pred : Pred) (ns : List ℕ) (k v : ℕ) → k < length ns → v ≡ get_or ns k 0 → ((u : ℕ) → In u (take k ns) → HoldsNowhere (residue f u pred)) → HoldsNowhere (residue f v pred) →
    (u : ℕ) → In u (take (suc k) ns) → HoldsNowhere (residue f u pred)
step-tried f pred ns k v lt e tried now u i = by (take_more ns k v u lt e i)
  where
    by : In u (take k ns) ⊎ (u ≡ v) → HoldsNowhere (residue f u pred)
    by (inl j) = tried u j
    by (inr same) = subst (λ n. HoldsNowhere (residue f n pred)) (sym same) now

pub step-found : (f : Field) (fs : List Field) (p c : Packet) (pred : Pred) (ns : List ℕ) (k v : ℕ) → IsStep f fs p (pred ∷ []) ns → k < length ns → v ≡ get_or ns k 0 →
    ((u : ℕ) → In u (take k ns) → HoldsNowhere (residue f u pred)) → IsLeastFrom fs (replace f v p) (residue f v pred) c → IsLeastFrom (f ∷ fs) p pred c
step-found f fs p c pred ns k v step lt e tried found = record {
  meets = sym (residue-holds f v c at pred) ∙ found.meets;
  kept = λ g out. found.kept g (λ i. out (inr i)) ∙ field-kept f g v p (λ same. out (inl same));
  least = below;
}
  where
    at : field_of f c ≡ v
    at = found.kept f (in_order f fs step.rest).once ∙ field-replace f v p

    below : (q : Packet) → IsPacket q → holds pred q ≡ true → IsNotAfter (values_of (f ∷ fs) c) (values_of (f ∷ fs) q)
    below q packet meets = by (part-meets f fs p q pred ns step packet meets)
      where
        compare : (u : ℕ) → u ≤ field_of f q → holds (residue f u pred) q ≡ true → In u (take k ns) ⊎ (u ≡ v) ⊎ (v < u) → IsNotAfter (values_of (f ∷ fs) c) (values_of (f ∷ fs) q)
        compare u le meets (inl i) = absurd (tried u i q packet meets)
        compare u le meets (inr (inl same)) = nearer (trichotomy (field_of f c) (field_of f q))
          where
            later : IsNotAfter (values_of fs c) (values_of fs q)
            later = found.least q packet (subst (λ n. holds (residue f n pred) q ≡ true) same meets)

            nearer : (field_of f c < field_of f q) ⊎ (field_of f q ≤ field_of f c) → IsNotAfter (values_of (f ∷ fs) c) (values_of (f ∷ fs) q)
            nearer (inl less) = inl less
            nearer (inr more) = let here : field_of f c ≡ v = at in inr (omega arith, later)
        compare u le meets (inr (inr less)) = let here : field_of f c ≡ v = at in inl (omega arith)

        by : (u : ℕ) × In u ns × (u ≤ field_of f q) × (holds (residue f u pred) q ≡ true) → IsNotAfter (values_of (f ∷ fs) c) (values_of (f ∷ fs) q)
        by (u, i, le, m) = compare u le m (in_place ns k v u (subst (Pairwise (λ a b. a < b)) (sym step.parts) (parts-pairwise f p.proto (pred ∷ []))) lt e i)

-- what the recursive call is handed
pub step-next : (f : Field) (fs : List Field) (p q : Packet) (pred left : Pred) (ns : List ℕ) (k v : ℕ) → IsStep f fs p (pred ∷ []) ns → k < length ns → v ≡ get_or ns k 0 →
    q ≡ packet_with p f v → left ≡ residue f v pred → AreFresh fs q.proto (left ∷ []) × IsUnfixed fs q
step-next f fs p q pred left ns k v step lt e set is =
    let at : q ≡ replace f v p = set ∙ step-packet f fs p (pred ∷ []) ns k v step lt e in (
      subst (λ (r : Packet). AreFresh fs r.proto (left ∷ [])) (sym at) (subst (λ l. AreFresh fs (replace f v p).proto (l ∷ [])) (sym is) (step-fresh f fs p (pred ∷ []) ns v step)),
      subst (IsUnfixed fs) (sym at) (step-open f fs p (pred ∷ []) ns v step),
    )

pub step-answer : (f : Field) (fs : List Field) (p q : Packet) (pred left : Pred) (ns : List ℕ) (k v : ℕ) → IsStep f fs p (pred ∷ []) ns → k < length ns → v ≡ get_or ns k 0 →
    q ≡ packet_with p f v → left ≡ residue f v pred → ((u : ℕ) → In u (take k ns) → HoldsNowhere (residue f u pred)) → (o : Option Packet) → IfSome o (IsLeastFrom fs q left) → IfSome o (IsLeastFrom (f ∷ fs) p pred)
step-answer f fs p q pred left ns k v step lt e set is tried None h = tt
step-answer f fs p q pred left ns k v step lt e set is tried (Some c) h =
    step-found f fs p c pred ns k v step lt e tried
    (subst (λ r. IsLeastFrom fs r (residue f v pred) c) (set ∙ step-packet f fs p (pred ∷ []) ns k v step lt e) (subst (λ l. IsLeastFrom fs q l c) is h))

pub none_found : (o : Option Packet) (P : Type 0) → is_some o ≡ false → IfNone o P → P
none_found None P e h = h
none_found (Some c) P e h = cc

-- what is one of two predicates that hold nowhere holds nowhere
pub either_nowhere : (pred first second : Pred) → (pred ≡ first) ⊎ (pred ≡ second) → HoldsNowhere first → HoldsNowhere second → HoldsNowhere pred
either_nowhere pred first second (inl e) h k = subst HoldsNowhere (sym e) h
either_nowhere pred first second (inr e) h k = subst HoldsNowhere (sym e) k

pub some_found : (o : Option Packet) (P : Type 0) → is_some o ≡ true → IfNone o P
some_found None P e = cc
some_found (Some c) P e = tt

pub empty_list : (fs : List Field) → length fs ≡ 0 → fs ≡ []
empty_list [] e = refl
empty_list (f ∷ fs) e = absurd (omega arith)
