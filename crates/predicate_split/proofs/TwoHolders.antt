-- The first two that hold, field by field.
use Rattle.std.proofs.Common.{Option, None, Some, option_map, ◌≡◌, ◌<◌, ◌⊎◌, ℕ, zero, suc, inl, inr, Bool, true, false, ◌&&◌, cond, List, [], ◌∷◌, ◌++◌, length, get_or, take, refl, sym, ◌∙◌, ap, ap₂, subst, arith}
use Rattle.std.specs.List.{AllByRecursion, flat_map, list_all}
use Rattle.merlin_model.specs.declared.policy.Field.{Field}
use Rattle.merlin_model.specs.declared.policy.Test.{Test}
use Rattle.merlin_model.specs.declared.policy.Test.TheVariants.{Is, Port, Within}
use Rattle.merlin_model.specs.declared.policy.Pred.{Pred, Yes, No, Test as Tests, All', AnyOf', Not'}
use Rattle.merlin_model.specs.Packets.{Packet, IsPacket, field_of}
use Rattle.merlin_model.specs.Predicates.{holds}
use Rattle.merlin_model.proofs.Members.{In, in_append, in_append-left, in_append-right}
use Rattle.packet_model.specs.Fields.{replace, packet_with}
use Rattle.predicate_logic.specs.Residues.{is_yes, is_no, residue, residues}
use Rattle.predicate_logic.specs.Mentions.{tests_of}
use Rattle.predicate_logic.proofs.Meanings.{residue-holds}
use Rattle.predicate_logic.proofs.Untested.{untested-holds}
use Rattle.predicate_split.specs.declared.pairs.PlacedPred.{PlacedPred}
use Rattle.predicate_split.specs.Classes.{is_decided}
use Rattle.predicate_split.specs.Walks.{IsFresh, AreFresh, IsUnfixed, IsKept}
use Rattle.predicate_split.specs.Overlaps.{preds_in, holder, pair_at, trimmed, entry_residues, IsNoLater, IsLeastPair}
use Rattle.predicate_split.proofs.Fields.{field-replace, field-kept}
use Rattle.predicate_split.proofs.Splitting.{in_order}
use Rattle.predicate_split.proofs.Leasts.{IsStep, step-packet, step-fresh, step-open, step-part, take_more}

-- Earlier and later.

pub no_later-refl : (a : Option (ℕ × ℕ)) → IsNoLater a a
no_later-refl None = tt
no_later-refl (Some a) = inr (refl, omega arith)

pub no_later-trans : (a b c : Option (ℕ × ℕ)) → IsNoLater a b → IsNoLater b c → IsNoLater a c
no_later-trans a b None h k = tt
no_later-trans None None (Some c) h k = k
no_later-trans (Some a) None (Some c) h k = absurd k
no_later-trans None (Some b) (Some c) h k = absurd h
no_later-trans (Some a) (Some b) (Some c) (inl h) (inl k) = inl (omega arith)
no_later-trans (Some a) (Some b) (Some c) (inl h) (inr k) = let e = k.0 in inl (omega arith)
no_later-trans (Some a) (Some b) (Some c) (inr h) (inl k) = let e = h.0 in inl (omega arith)
no_later-trans (Some a) (Some b) (Some c) (inr h) (inr k) = let e = h.0 in let f = k.0 in let g = h.1 in let i = k.1 in inr (omega arith, omega arith)

-- Packets that are judged alike have one pair.

abbrev Alike : Packet → Packet → List PlacedPred → Type 0
Alike p q entries = AllByRecursion (λ e. holds e.pred p ≡ holds e.pred q) entries

holder-alike : (p q : Packet) (entries : List PlacedPred) → Alike p q entries → holder entries p ≡ holder entries q
holder-alike p q [] h = refl
holder-alike p q (e ∷ rest) h = ap₂ (λ b o. cond b (Some e.place) o) h.0 (holder-alike p q rest h.1)

pair-alike : (p q : Packet) (entries : List PlacedPred) → Alike p q entries → pair_at entries p ≡ pair_at entries q
pair-alike p q [] h = refl
pair-alike p q (e ∷ rest) h =
    ap₂ (λ b o. cond b (option_map (λ j. (e.place, j)) o) (pair_at rest p)) h.0 (holder-alike p q rest h.1)
    ∙ ap (λ o. cond (holds e.pred q) (option_map (λ j. (e.place, j)) (holder rest q)) o) (pair-alike p q rest h.1)

decided-holds : (pred : Pred) (p q : Packet) → is_decided pred ≡ true → holds pred p ≡ holds pred q
decided-holds Yes p q e = refl
decided-holds No p q e = refl
decided-holds (Tests t) p q e = cc
decided-holds (All' _ _) p q e = cc
decided-holds (AnyOf' _ _) p q e = cc
decided-holds (Not' _ _) p q e = cc

settled-alike : (p q : Packet) (entries : List PlacedPred) → list_all is_decided (preds_in entries) ≡ true → Alike p q entries
settled-alike p q [] h = tt
settled-alike p q (e ∷ rest) h = by (is_decided e.pred) refl h (settled-alike p q rest)
  where
    by : (b : Bool) → is_decided e.pred ≡ b → (b && list_all is_decided (preds_in rest)) ≡ true → (list_all is_decided (preds_in rest) ≡ true → Alike p q rest) → Alike p q (e ∷ rest)
    by true d h later = (decided-holds e.pred p q d, later h)
    by false d h later = cc

untested-alike : (proto : ℕ) (p q : Packet) (entries : List PlacedPred) → AreFresh [] proto (preds_in entries) → Alike p q entries
untested-alike proto p q [] fresh = tt
untested-alike proto p q (e ∷ rest) fresh = (
  untested-holds p q e.pred (λ t i. none t (fresh t (in_append-left (tests_of e.pred) (flat_map tests_of (preds_in rest)) t i))),
  untested-alike proto p q rest (λ t i. fresh t (in_append-right (tests_of e.pred) (flat_map tests_of (preds_in rest)) t i)),
)
  where
    none : (t : Test) → IsFresh [] proto t → ⊥
    none (Is f n) h = h.0
    none (Port q f n) h = h.0
    none (Within f n length) h = h.0

-- What is trimmed is not among the first two.

pub no-holds : (pred : Pred) (p : Packet) → is_no pred ≡ true → holds pred p ≡ false
no-holds No p e = refl
no-holds Yes p e = cc
no-holds (Tests t) p e = cc
no-holds (All' _ _) p e = cc
no-holds (AnyOf' _ _) p e = cc
no-holds (Not' _ _) p e = cc

yes-holds : (pred : Pred) (p : Packet) → is_yes pred ≡ true → holds pred p ≡ true
yes-holds Yes p e = refl
yes-holds No p e = cc
yes-holds (Tests t) p e = cc
yes-holds (All' _ _) p e = cc
yes-holds (AnyOf' _ _) p e = cc
yes-holds (Not' _ _) p e = cc

holder-trimmed : (n : ℕ) (entries : List PlacedPred) (p : Packet) → holder (trimmed (suc n) entries) p ≡ holder entries p
holder-trimmed n [] p = refl
holder-trimmed n (e ∷ rest) p = by (is_no e.pred) (is_yes e.pred) refl refl (holder-trimmed n rest p)
  where
    by : (a b : Bool) → is_no e.pred ≡ a → is_yes e.pred ≡ b → holder (trimmed (suc n) rest) p ≡ holder rest p →
        holder (cond a (trimmed (suc n) rest) (cond b (e ∷ trimmed n rest) (e ∷ trimmed (suc n) rest))) p ≡ cond (holds e.pred p) (Some e.place) (holder rest p)
    by true b d f ih = ih ∙ ap (λ c. cond c (Some e.place) (holder rest p)) (sym (no-holds e.pred p d))
    by false true d f ih = ap (λ c. cond c (Some e.place) (holder (trimmed n rest) p)) (yes-holds e.pred p f) ∙ ap (λ c. cond c (Some e.place) (holder rest p)) (sym (yes-holds e.pred p f))
    by false false d f ih = ap (λ o. cond (holds e.pred p) (Some e.place) o) ih

pair-trimmed : (n : ℕ) (entries : List PlacedPred) (p : Packet) → pair_at (trimmed (suc (suc n)) entries) p ≡ pair_at entries p
pair-trimmed n [] p = refl
pair-trimmed n (e ∷ rest) p = by (is_no e.pred) (is_yes e.pred) refl refl (pair-trimmed n rest p)
  where
    after : Option ℕ → Option (ℕ × ℕ)
    after o = option_map (λ j. (e.place, j)) o

    by : (a b : Bool) → is_no e.pred ≡ a → is_yes e.pred ≡ b → pair_at (trimmed (suc (suc n)) rest) p ≡ pair_at rest p →
        pair_at (cond a (trimmed (suc (suc n)) rest) (cond b (e ∷ trimmed (suc n) rest) (e ∷ trimmed (suc (suc n)) rest))) p ≡ cond (holds e.pred p) (option_map (λ j. (e.place, j)) (holder rest p)) (pair_at rest p)
    by true b d f ih = ih ∙ ap (λ c. cond c (option_map (λ j. (e.place, j)) (holder rest p)) (pair_at rest p)) (sym (no-holds e.pred p d))
    by false true d f ih =
        ap (λ c. cond c (option_map (λ j. (e.place, j)) (holder (trimmed (suc n) rest) p)) (pair_at (trimmed (suc n) rest) p)) (yes-holds e.pred p f)
        ∙ ap (option_map (λ j. (e.place, j))) (holder-trimmed n rest p)
        ∙ ap (λ c. cond c (option_map (λ j. (e.place, j)) (holder rest p)) (pair_at rest p)) (sym (yes-holds e.pred p f))
    by false false d f ih =
        ap₂ (λ o r. cond (holds e.pred p) (option_map (λ j. (e.place, j)) o) r) (holder-trimmed (suc n) rest p) ih

trimmed-tests : (n : ℕ) (entries : List PlacedPred) (t : Test) → In t (flat_map tests_of (preds_in (trimmed n entries))) → In t (flat_map tests_of (preds_in entries))
trimmed-tests zero entries t i = absurd i
trimmed-tests (suc n) [] t i = i
trimmed-tests (suc n) (e ∷ rest) t i = by (is_no e.pred) (is_yes e.pred) i (trimmed-tests (suc n) rest t) (trimmed-tests n rest t)
  where
    later : In t (flat_map tests_of (preds_in rest)) → In t (tests_of e.pred ++ flat_map tests_of (preds_in rest))
    later j = in_append-right (tests_of e.pred) (flat_map tests_of (preds_in rest)) t j

    either : {A B C : Type 0} → (A → C) → (B → C) → A ⊎ B → C
    either f g (inl a) = f a
    either f g (inr b) = g b

    by : (a b : Bool) → In t (flat_map tests_of (preds_in (cond a (trimmed (suc n) rest) (cond b (e ∷ trimmed n rest) (e ∷ trimmed (suc n) rest))))) →
        (In t (flat_map tests_of (preds_in (trimmed (suc n) rest))) → In t (flat_map tests_of (preds_in rest))) →
        (In t (flat_map tests_of (preds_in (trimmed n rest))) → In t (flat_map tests_of (preds_in rest))) → In t (tests_of e.pred ++ flat_map tests_of (preds_in rest))
    by true b i more less = later (more i)
    by false true i more less =
        either (in_append-left (tests_of e.pred) (flat_map tests_of (preds_in rest)) t) (λ j. later (less j)) (in_append (tests_of e.pred) (flat_map tests_of (preds_in (trimmed n rest))) t i)
    by false false i more less =
        either (in_append-left (tests_of e.pred) (flat_map tests_of (preds_in rest)) t) (λ j. later (more j)) (in_append (tests_of e.pred) (flat_map tests_of (preds_in (trimmed (suc n) rest))) t i)

-- Residues.

residue-alike : (f : Field) (v : ℕ) (p : Packet) (entries : List PlacedPred) → field_of f p ≡ v → (holder (entry_residues f v entries) p ≡ holder entries p) × (pair_at (entry_residues f v entries) p ≡ pair_at entries p)
residue-alike f v p [] at = (refl, refl)
residue-alike f v p (e ∷ rest) at =
    let ih = residue-alike f v p rest at in
    let here : holds (residue f v e.pred) p ≡ holds e.pred p = residue-holds f v p at e.pred in (
      ap₂ (λ b o. cond b (Some e.place) o) here ih.0,
      ap₂ (λ b o. cond b (option_map (λ j. (e.place, j)) o) (pair_at (entry_residues f v rest) p)) here ih.0 ∙ ap (λ o. cond (holds e.pred p) (option_map (λ j. (e.place, j)) (holder rest p)) o) ih.1,
    )

preds-residues : (f : Field) (v : ℕ) (entries : List PlacedPred) → preds_in (entry_residues f v entries) ≡ residues f v (preds_in entries)
preds-residues f v [] = refl
preds-residues f v (e ∷ rest) = ap (λ l. residue f v e.pred ∷ l) (preds-residues f v rest)

same_residues : (f : Field) (u v : ℕ) (entries : List PlacedPred) → residues f u (preds_in entries) ≡ residues f v (preds_in entries) → entry_residues f u entries ≡ entry_residues f v entries
same_residues f u v [] e = refl
same_residues f u v (x ∷ rest) e =
    let head : residue f u x.pred ≡ residue f v x.pred = cc in
    let tail : residues f u (preds_in rest) ≡ residues f v (preds_in rest) = cc in
    ap₂ (λ (r : Pred) l. record { place = x.place; pred = r } ∷ l) head (same_residues f u v rest tail)

-- The walk.

both_none : (b : Bool) (o : Option (ℕ × ℕ)) → o ≡ None → cond b o None ≡ None
both_none true o e = e
both_none false o e = refl

pub short-pair : (fs : List Field) (p : Packet) (entries : List PlacedPred) (known : Option (ℕ × ℕ)) → length entries < 2 → IsLeastPair fs p entries known known
short-pair fs p entries known lt = record { least = λ q packet. subst (IsNoLater known) (sym (none entries lt q)) tt; no_worse = no_later-refl known; attained = inl refl }
  where
    none : (es : List PlacedPred) → length es < 2 → (q : Packet) → pair_at es q ≡ None
    none [] lt q = refl
    none (e ∷ []) lt q = both_none (holds e.pred q) None refl
    none (e ∷ f ∷ rest) lt q = absurd (omega arith)

constant-pair : (fs : List Field) (p : Packet) (entries : List PlacedPred) (known found : Option (ℕ × ℕ)) → IsPacket p → ((q : Packet) → Alike p q entries) → IsNoLater found (pair_at entries p) → IsNoLater found known →
    (found ≡ pair_at entries p) ⊎ (found ≡ known) → IsLeastPair fs p entries known found
constant-pair fs p entries known found packet alike h k w = record { least = λ q _. subst (IsNoLater found) (pair-alike p q entries (alike q)) h; no_worse = k; attained = by w }
  where
    by : (found ≡ pair_at entries p) ⊎ (found ≡ known) → (found ≡ known) ⊎ ((c : Packet) × IsPacket c × IsKept fs p c × (pair_at entries c ≡ found))
    by (inl e) = inr (p, packet, (λ f out. refl), sym e)
    by (inr e) = inl e

pub settled-pair : (fs : List Field) (p : Packet) (entries : List PlacedPred) (known found : Option (ℕ × ℕ)) → IsPacket p → list_all is_decided (preds_in entries) ≡ true → IsNoLater found (pair_at entries p) → IsNoLater found known →
    (found ≡ pair_at entries p) ⊎ (found ≡ known) → IsLeastPair fs p entries known found
settled-pair fs p entries known found packet d = constant-pair fs p entries known found packet (λ q. settled-alike p q entries d)

pub untested-pair : (p : Packet) (entries : List PlacedPred) (known found : Option (ℕ × ℕ)) → IsPacket p → AreFresh [] p.proto (preds_in entries) → IsNoLater found (pair_at entries p) → IsNoLater found known →
    (found ≡ pair_at entries p) ⊎ (found ≡ known) → IsLeastPair [] p entries known found
untested-pair p entries known found packet fresh = constant-pair [] p entries known found packet (λ q. untested-alike p.proto p q entries fresh)

-- what the loop keeps
pub record AreTried (f : Field) (fs : List Field) (p : Packet) (entries : List PlacedPred) (ns : List ℕ) (known found : Option (ℕ × ℕ)) : Type 0 where
  pub tried : (u : ℕ) → In u ns → (q : Packet) → IsPacket q → IsNoLater found (pair_at (entry_residues f u entries) q)
  pub no_worse : IsNoLater found known
  pub attained : (found ≡ known) ⊎ ((c : Packet) × IsPacket c × IsKept (f ∷ fs) p c × (pair_at entries c ≡ found))

pub pairs-next : (f : Field) (fs : List Field) (p q : Packet) (entries left : List PlacedPred) (ns : List ℕ) (k v : ℕ) → IsStep f fs p (preds_in entries) ns → k < length ns → v ≡ get_or ns k 0 →
    q ≡ packet_with p f v → left ≡ trimmed 2 (entry_residues f v entries) → AreFresh fs q.proto (preds_in left) × IsUnfixed fs q
pairs-next f fs p q entries left ns k v step lt e set is =
    let at : q ≡ replace f v p = set ∙ step-packet f fs p (preds_in entries) ns k v step lt e in (
      subst (λ (r : Packet). AreFresh fs r.proto (preds_in left)) (sym at) (subst (λ l. AreFresh fs (replace f v p).proto (preds_in l)) (sym is) fresh),
      subst (IsUnfixed fs) (sym at) (step-open f fs p (preds_in entries) ns v step),
    )
  where
    fresh : AreFresh fs (replace f v p).proto (preds_in (trimmed 2 (entry_residues f v entries)))
    fresh t i = step-fresh f fs p (preds_in entries) ns v step t (subst (λ l. In t (flat_map tests_of l)) (preds-residues f v entries) (trimmed-tests 2 (entry_residues f v entries) t i))

pub pairs-more : (f : Field) (fs : List Field) (p q : Packet) (entries left : List PlacedPred) (ns : List ℕ) (k v : ℕ) (known found next : Option (ℕ × ℕ)) → IsStep f fs p (preds_in entries) ns → k < length ns → v ≡ get_or ns k 0 →
    q ≡ packet_with p f v → left ≡ trimmed 2 (entry_residues f v entries) → AreTried f fs p entries (take k ns) known found → IsLeastPair fs q left found next → AreTried f fs p entries (take (suc k) ns) known next
pairs-more f fs p q entries left ns k v known found next step lt e set is before more = record {
  tried = λ u i r packet. by u r packet (take_more ns k v u lt e i);
  no_worse = no_later-trans next found known more.no_worse before.no_worse;
  attained = reached more.attained;
}
  where
    at : q ≡ replace f v p
    at = set ∙ step-packet f fs p (preds_in entries) ns k v step lt e

    same : (r : Packet) → pair_at left r ≡ pair_at (entry_residues f v entries) r
    same r = ap (λ l. pair_at l r) is ∙ pair-trimmed 0 (entry_residues f v entries) r

    by : (u : ℕ) (r : Packet) → IsPacket r → In u (take k ns) ⊎ (u ≡ v) → IsNoLater next (pair_at (entry_residues f u entries) r)
    by u r packet (inl i) = no_later-trans next found (pair_at (entry_residues f u entries) r) more.no_worse (before.tried u i r packet)
    by u r packet (inr s) = subst (λ n. IsNoLater next (pair_at (entry_residues f n entries) r)) (sym s) (subst (IsNoLater next) (same r) (more.least r packet))

    reached : (next ≡ found) ⊎ ((c : Packet) × IsPacket c × IsKept fs q c × (pair_at left c ≡ next)) → (next ≡ known) ⊎ ((c : Packet) × IsPacket c × IsKept (f ∷ fs) p c × (pair_at entries c ≡ next))
    reached (inl s) = old before.attained
      where
        old : (found ≡ known) ⊎ ((c : Packet) × IsPacket c × IsKept (f ∷ fs) p c × (pair_at entries c ≡ found)) → (next ≡ known) ⊎ ((c : Packet) × IsPacket c × IsKept (f ∷ fs) p c × (pair_at entries c ≡ next))
        old (inl w) = inl (s ∙ w)
        old (inr w) = inr (w.0, w.1, w.2, w.3 ∙ sym s)
    reached (inr w) =
        let kept : IsKept fs (replace f v p) w.0 = subst (λ r. IsKept fs r w.0) at w.2 in
        let here : field_of f w.0 ≡ v = kept f (in_order f fs step.rest).once ∙ field-replace f v p in
        inr (w.0, w.1, (λ g out. kept g (λ i. out (inr i)) ∙ field-kept f g v p (λ s. out (inl s))), sym (residue-alike f v w.0 entries here).1 ∙ sym (same w.0) ∙ w.3)

pub pairs-all : (f : Field) (fs : List Field) (p : Packet) (entries : List PlacedPred) (ns : List ℕ) (known found : Option (ℕ × ℕ)) → IsStep f fs p (preds_in entries) ns → AreTried f fs p entries ns known found → IsLeastPair (f ∷ fs) p entries known found
pairs-all f fs p entries ns known found step all = record { least = least; no_worse = all.no_worse; attained = all.attained }
  where
    least : (q : Packet) → IsPacket q → IsNoLater found (pair_at entries q)
    least q packet =
        let part = step-part f fs p q (preds_in entries) ns step packet in
        subst (IsNoLater found) (ap (λ l. pair_at l q) (same_residues f part.part (field_of f q) entries part.same) ∙ (residue-alike f (field_of f q) q entries refl).1)
        (all.tried part.part (subst (In part.part) (sym step.parts) part.is_part) q packet)

pub settled-answer : (fs : List Field) (p : Packet) (entries : List PlacedPred) (known found o : Option (ℕ × ℕ)) → IsPacket p → list_all is_decided (preds_in entries) ≡ true → o ≡ pair_at entries p → IsNoLater found o → IsNoLater found known →
    (found ≡ o) ⊎ (found ≡ known) → IsLeastPair fs p entries known found
settled-answer fs p entries known found o packet d e h k w =
    settled-pair fs p entries known found packet d (subst (IsNoLater found) e h) k (subst (λ n. (found ≡ n) ⊎ (found ≡ known)) e w)

pub untested-answer : (fs : List Field) (p : Packet) (entries : List PlacedPred) (known found o : Option (ℕ × ℕ)) → IsPacket p → fs ≡ [] → AreFresh fs p.proto (preds_in entries) → o ≡ pair_at entries p → IsNoLater found o → IsNoLater found known →
    (found ≡ o) ⊎ (found ≡ known) → IsLeastPair fs p entries known found
untested-answer fs p entries known found o packet empty fresh e h k w =
    subst (λ gs. IsLeastPair gs p entries known found) (sym empty)
    (untested-pair p entries known found packet (subst (λ gs. AreFresh gs p.proto (preds_in entries)) empty fresh) (subst (IsNoLater found) e h) k (subst (λ n. (found ≡ n) ⊎ (found ≡ known)) e w))

-- what was left before has no earlier pair
pub same-pair : (fs : List Field) (p : Packet) (entries last : List PlacedPred) (known : Option (ℕ × ℕ)) → entries ≡ last → ((q : Packet) → IsPacket q → IsNoLater known (pair_at last q)) → IsLeastPair fs p entries known known
same-pair fs p entries last known same h = record { least = λ q packet. subst (λ l. IsNoLater known (pair_at l q)) (sym same) (h q packet); no_worse = no_later-refl known; attained = inl refl }

pub empty-pair : (last : List PlacedPred) (known : Option (ℕ × ℕ)) → last ≡ [] → (q : Packet) → IsPacket q → IsNoLater known (pair_at last q)
empty-pair last known e q packet = subst (λ l. IsNoLater known (pair_at l q)) (sym e) tt

-- what is one of two lists has no earlier pair if neither has
pub later_pairs : (entries first second : List PlacedPred) (known : Option (ℕ × ℕ)) → (entries ≡ first) ⊎ (entries ≡ second) → ((q : Packet) → IsPacket q → IsNoLater known (pair_at first q)) → ((q : Packet) → IsPacket q → IsNoLater known (pair_at second q)) →
    (q : Packet) → IsPacket q → IsNoLater known (pair_at entries q)
later_pairs entries first second known (inl e) h k q packet = subst (λ l. IsNoLater known (pair_at l q)) (sym e) (h q packet)
later_pairs entries first second known (inr e) h k q packet = subst (λ l. IsNoLater known (pair_at l q)) (sym e) (k q packet)

pub recent-pair : (fs : List Field) (p : Packet) (entries first second : List PlacedPred) (known : Option (ℕ × ℕ)) → (entries ≡ first) ⊎ (entries ≡ second) → ((q : Packet) → IsPacket q → IsNoLater known (pair_at first q)) → ((q : Packet) → IsPacket q → IsNoLater known (pair_at second q)) →
    IsLeastPair fs p entries known known
recent-pair fs p entries first second known same h k = record { least = later_pairs entries first second known same h k; no_worse = no_later-refl known; attained = inl refl }
