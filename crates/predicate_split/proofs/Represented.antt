-- Each packet has a class, by which it is judged.
use Rattle.std.proofs.Common.{◌≡◌, ◌<◌, ◌≤◌, ◌⊎◌, inl, inr, ℕ, ◌+◌, Bool, true, false, ◌&&◌, cond, List, [], ◌∷◌, ◌++◌, length, sum_by, refl, sym, ◌∙◌, ap, ap₂, subst, arith}
use Rattle.std.specs.List.{AllByRecursion, flat_map, list_all}
use Rattle.std.proofs.lemmas.List.Sums.{sum_by-cons}
use Rattle.merlin_model.specs.declared.policy.Field.{Field}
use Rattle.merlin_model.specs.declared.policy.Pred.{Pred, Yes, No, Test as Tests, All', AnyOf', Not'}
use Rattle.merlin_model.specs.Packets.{Packet, IsPacket, field_of}
use Rattle.merlin_model.specs.Predicates.{holds}
use Rattle.merlin_model.proofs.Members.{In, flat_map_in, in_append-right}
use Rattle.packet_model.specs.Fields.{replace}
use Rattle.predicate_logic.specs.Residues.{residue, residues}
use Rattle.predicate_logic.specs.Mentions.{tests_of}
use Rattle.predicate_logic.proofs.Meanings.{residue-holds}
use Rattle.predicate_logic.proofs.Untested.{untested-holds}
use Rattle.predicate_split.specs.Parts.{field_parts}
use Rattle.predicate_split.specs.Classes.{is_decided, proto_with, classes, class_count}
use Rattle.predicate_split.specs.Walks.{IsRest, AreFresh, IsUnfixed, IsKept, IsNotAfter, values_of}
use Rattle.predicate_split.proofs.Fields.{rest_of-rest, field-replace, field-kept}
use Rattle.predicate_split.proofs.Splitting.{IsPartOf, parts-cover, packet-below, replace-proto, residues-fresh, in_order}
use Rattle.predicate_split.proofs.Leasts.{open-up, untested}

abbrev AreAlike : Packet → Packet → List Pred → Type 0
AreAlike c q preds = AllByRecursion (λ pred. holds pred c ≡ holds pred q) preds

-- a class of what is left, with the fields that are fixed
pub record HasClass (fs : List Field) (p : Packet) (preds : List Pred) (q : Packet) : Type 0 where
  pub class : Packet
  pub is_class : In class (classes fs p preds)
  pub kept : IsKept fs p class
  pub up_to : IsNotAfter (values_of fs class) (values_of fs q)
  pub alike : AreAlike class q preds

decided_alike : (p q : Packet) (preds : List Pred) → list_all is_decided preds ≡ true → AreAlike p q preds
decided_alike p q [] e = tt
decided_alike p q (pred ∷ rest) e = by (is_decided pred) refl e (decided_alike p q rest)
  where
    same : (pred : Pred) → is_decided pred ≡ true → holds pred p ≡ holds pred q
    same Yes d = refl
    same No d = refl
    same (Tests t) d = cc
    same (All' _ _) d = cc
    same (AnyOf' _ _) d = cc
    same (Not' _ _) d = cc

    by : (b : Bool) → is_decided pred ≡ b → (b && list_all is_decided rest) ≡ true → (list_all is_decided rest ≡ true → AreAlike p q rest) → AreAlike p q (pred ∷ rest)
    by true d f later = (same pred d, later f)
    by false d f later = cc

untested_alike : (proto : ℕ) (p q : Packet) (preds : List Pred) → AreFresh [] proto preds → AreAlike p q preds
untested_alike proto p q [] fresh = tt
untested_alike proto p q (pred ∷ rest) fresh = (
  untested-holds p q pred (untested proto pred (λ t i. fresh t (by t i))),
  untested_alike proto p q rest (λ t i. fresh t (in_append-right (tests_of pred) (flat_map tests_of rest) t i)),
)
  where
    by : (t : _) → In t (flat_map tests_of (pred ∷ [])) → In t (flat_map tests_of (pred ∷ rest))
    by t i = front (tests_of pred) i
      where
        front : (ts : List _) → In t (ts ++ []) → In t (ts ++ flat_map tests_of rest)
        front [] j = absurd j
        front (s ∷ ts) (inl e) = inl e
        front (s ∷ ts) (inr j) = inr (front ts j)

-- what is left at the part of a value is judged as the predicates are
lifted : (f : Field) (u v : ℕ) (c q : Packet) (preds : List Pred) → residues f u preds ≡ residues f v preds → field_of f c ≡ u → field_of f q ≡ v → AreAlike c q (residues f u preds) → AreAlike c q preds
lifted f u v c q [] same cu qv h = tt
lifted f u v c q (pred ∷ rest) same cu qv h =
    let first : residue f u pred ≡ residue f v pred = cc in
    let others : residues f u rest ≡ residues f v rest = cc in (
      sym (residue-holds f u c cu pred) ∙ h.0 ∙ ap (λ r. holds r q) first ∙ residue-holds f v q qv pred,
      lifted f u v c q rest others cu qv h.1,
    )

order : (u v : ℕ) → u ≤ v → (u < v) ⊎ (u ≡ v)
order u v le = grind arith

pub has_class : (fs : List Field) → IsRest fs → (p q : Packet) (preds : List Pred) → AreFresh fs p.proto preds → IsUnfixed fs p → IsPacket q → HasClass fs p preds q
has_class [] rest p q preds fresh opened packet = record { class = p; is_class = inl refl; kept = λ f out. refl; up_to = tt; alike = untested_alike p.proto p q preds fresh }
has_class (f ∷ fs) rest p q preds fresh opened packet =
    let v : ℕ = field_of f q in
    let part = parts-cover f fs p.proto (field_of f q) preds rest fresh (packet-below f q packet) in
    by (list_all is_decided preds) refl part
    (has_class fs (rest_of-rest f fs rest) (replace f part.part p) q (residues f part.part preds)
    (subst (λ n. AreFresh fs n (residues f part.part preds)) (sym (replace-proto f part.part p)) (residues-fresh f fs rest p.proto part.part preds fresh))
    (λ g i. field-kept f g part.part p (λ same. (in_order f fs rest).once (subst (λ h. In h fs) same i)) ∙ opened g (inr i)) packet)
  where
    by : (b : Bool) → list_all is_decided preds ≡ b → (part : IsPartOf f (field_of f q) (field_parts f p.proto preds) preds) → HasClass fs (replace f part.part p) (residues f part.part preds) q → HasClass (f ∷ fs) p preds q
    by true e part h = record {
      class = p;
      is_class = subst (λ b. In p (cond b (p ∷ []) (flat_map (λ w. classes fs (replace f w p) (residues f w preds)) (field_parts f p.proto preds)))) (sym e) (inl refl);
      kept = λ g out. refl;
      up_to = open-up (f ∷ fs) p q opened;
      alike = decided_alike p q preds e;
    }
    by false e part h =
        let here : field_of f h.class ≡ part.part = h.kept f (in_order f fs rest).once ∙ field-replace f part.part p in
        record {
          class = h.class;
          is_class =
              subst (λ b. In h.class (cond b (p ∷ []) (flat_map (λ w. classes fs (replace f w p) (residues f w preds)) (field_parts f p.proto preds)))) (sym e)
              (flat_map_in (λ w. classes fs (replace f w p) (residues f w preds)) (field_parts f p.proto preds) part.part h.class part.is_part h.is_class);
          kept = λ g out. h.kept g (λ i. out (inr i)) ∙ field-kept f g part.part p (λ same. out (inl same));
          up_to = up (order part.part (field_of f q) part.up_to) here;
          alike = lifted f part.part (field_of f q) h.class q preds part.same here refl h.alike;
        }
      where
        up : (part.part < field_of f q) ⊎ (part.part ≡ field_of f q) → field_of f h.class ≡ part.part → IsNotAfter (values_of (f ∷ fs) h.class) (values_of (f ∷ fs) q)
        up (inl less) here = inl (omega arith)
        up (inr same) here = inr (here ∙ same, h.up_to)

-- The count.

length-append : {X : Type 0} (xs ys : List X) → length (xs ++ ys) ≡ length xs + length ys
length-append [] ys = omega arith
length-append (x ∷ xs) ys = let rest = length-append xs ys in omega (arith, rest)

lengths : (g : ℕ → List Packet) (h : ℕ → ℕ) → ((n : ℕ) → length (g n) ≡ h n) → (ns : List ℕ) → length (flat_map g ns) ≡ sum_by h ns
lengths g h same [] = refl
lengths g h same (n ∷ ns) = length-append (g n) (flat_map g ns) ∙ ap₂ (λ a b. a + b) (same n) (lengths g h same ns) ∙ sym (sum_by-cons h n ns)

pub class-count : (fs : List Field) (p : Packet) (preds : List Pred) → length (classes fs p preds) ≡ class_count fs p.proto preds
class-count [] p preds = refl
class-count (f ∷ fs) p preds = by (list_all is_decided preds)
    (lengths (λ v. classes fs (replace f v p) (residues f v preds)) (λ v. class_count fs (proto_with f v p.proto) (residues f v preds))
    (λ v. class-count fs (replace f v p) (residues f v preds) ∙ ap (λ n. class_count fs n (residues f v preds)) (replace-proto f v p)) (field_parts f p.proto preds))
  where
    by : (b : Bool) → length (flat_map (λ v. classes fs (replace f v p) (residues f v preds)) (field_parts f p.proto preds)) ≡ sum_by (λ v. class_count fs (proto_with f v p.proto) (residues f v preds)) (field_parts f p.proto preds) →
        length (cond b (p ∷ []) (flat_map (λ v. classes fs (replace f v p) (residues f v preds)) (field_parts f p.proto preds))) ≡ cond b 1 (sum_by (λ v. class_count fs (proto_with f v p.proto) (residues f v preds)) (field_parts f p.proto preds))
    by true e = refl
    by false e = e
