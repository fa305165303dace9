-- Marks on statements, and the places where they stand.
use Rattle.std.proofs.Common.{◌≡◌, ◌≢◌, ◌<◌, ◌≤◌, ◌+◌, ◌↔◌, ◌⊎◌, inl, inr, ℕ, zero, suc, Bool, true, false, cond, List, [], ◌∷◌, ◌++◌, length, drop, replicate, get_or, slice_set, Contains, Option, None, Some, slice_get, refl, sym, ◌∙◌, ap, subst, arith, get_or-set_same, get_or-set_other}
use Rattle.std.specs.Prelude.{bytes_eq, filter_map}
use Rattle.std.specs.List.{AllByRecursion, cons_option}
use Rattle.std.specs.Option.{option_map, option_map_or}
use Rattle.std.proofs.lemmas.Bool.{cases_eq}
use Rattle.std.proofs.lemmas.List.{get_or_append_left, get_or_push, drop_more}
use Rattle.std.proofs.lemmas.Option.{slice_get-map}
use Rattle.std.proofs.lemmas.Slice.Eq.{bytes_eq-Decides}
use Rattle.merlin_model.specs.declared.policy.Part.{Part}
use Rattle.merlin_model.specs.declared.policy.Term.{Term}
use Rattle.merlin_model.specs.Networks.{Network, Pairwise}
use Rattle.merlin_model.specs.Policies.{Policy, Statement, paths_of}
use Rattle.merlin_model.specs.Rates.{id_of_part, ids_of, bears, IsGuaranteed}
use Rattle.merlin_model.proofs.Members.{In, in_from, in_to, in_append, in_append-left, in_append-right, all_in}
use Rattle.rate_formula.specs.Usage.{ids_in}
use Rattle.refinement_model.specs.Refinement.{TouchesTerm, AreTouching, IsIn, IsReserved}
use Rattle.policy_check.proofs.Guaranteed.{pairwise-increasing}
use Rattle.negotiator.specs.declared.contacts.Contact.{Contact}
use Rattle.negotiator.specs.Wider.{contact, AreContacts}
use Rattle.negotiator.specs.Amounts.{IsOutsideReserves, IsWithinReserves}
use Rattle.negotiator.specs.Marks.{is_marked, marked_from, marked, MeetsChosen, AreMarks, AreContactsWithin, AreMarkedUpTo, AreBounded, AreUnreserved}

-- what holds of all holds at a place
pub within-at : {X : Type 0} (P : X → Type 0) (xs : List X) (i : ℕ) (d : X) → i < length xs → AllByRecursion P xs → P (get_or xs i d)
within-at P [] i d less h = absurd (omega (arith, less))
within-at P (x ∷ xs) zero d less h = h.0
within-at P (x ∷ xs) (suc i) d less h = within-at P xs i d (omega (arith, less)) h.1

pub marked-here : (marks : List Bool) (i : ℕ) (d v : Bool) → i < length marks → get_or marks i d ≡ v → is_marked marks i ≡ v
marked-here [] i d v less e = absurd (omega (arith, less))
marked-here (m ∷ ms) zero d v less e = e
marked-here (m ∷ ms) (suc i) d v less e = marked-here ms i d v (omega (arith, less)) e

pub past-unmarked : (marks : List Bool) (i : ℕ) → length marks ≤ i → is_marked marks i ≡ false
past-unmarked [] i past = refl
past-unmarked (m ∷ ms) zero past = absurd (omega (arith, past))
past-unmarked (m ∷ ms) (suc i) past = past-unmarked ms i (omega (arith, past))

-- Where marks stand.

weaker : {X : Type 0} (P Q : X → Type 0) (xs : List X) → ((x : X) → P x → Q x) → AllByRecursion P xs → AllByRecursion Q xs
weaker P Q [] f h = tt
weaker P Q (x ∷ xs) f h = (f x h.0, weaker P Q xs f h.1)

least : (n : ℕ) (marks : List Bool) → AllByRecursion (λ y. n ≤ y) (marked_from n marks)
least n [] = tt
least n (m ∷ ms) = by m (weaker (λ y. suc n ≤ y) (λ y. n ≤ y) (marked_from (suc n) ms) (λ y h. omega (arith, h)) (least (suc n) ms))
  where
    by : (b : Bool) → AllByRecursion (λ y. n ≤ y) (marked_from (suc n) ms) → AllByRecursion (λ y. n ≤ y) (cond b (n ∷ marked_from (suc n) ms) (marked_from (suc n) ms))
    by true h = (omega arith, h)
    by false h = h

ascends : (n : ℕ) (marks : List Bool) → Pairwise (λ a b. a < b) (marked_from n marks)
ascends n [] = tt
ascends n (m ∷ ms) = by m (weaker (λ y. suc n ≤ y) (λ y. n < y) (marked_from (suc n) ms) (λ y h. omega (arith, h)) (least (suc n) ms)) (ascends (suc n) ms)
  where
    by : (b : Bool) → AllByRecursion (λ y. n < y) (marked_from (suc n) ms) → Pairwise (λ a b. a < b) (marked_from (suc n) ms) → Pairwise (λ a b. a < b) (cond b (n ∷ marked_from (suc n) ms) (marked_from (suc n) ms))
    by true l h = (l, h)
    by false l h = h

from-marked : (n : ℕ) (marks : List Bool) (i : ℕ) → In i (marked_from n marks) → (k : ℕ) × (i ≡ k + n) × (is_marked marks k ≡ true)
from-marked n [] i h = absurd h
from-marked n (m ∷ ms) i h = by m refl h (from-marked (suc n) ms i)
  where
    later : ((k : ℕ) × (i ≡ k + suc n) × (is_marked ms k ≡ true)) → (k : ℕ) × (i ≡ k + n) × (is_marked (m ∷ ms) k ≡ true)
    later f = let e = f.1 in (suc f.0, omega (arith, e), f.2)

    by : (b : Bool) → m ≡ b → In i (cond b (n ∷ marked_from (suc n) ms) (marked_from (suc n) ms)) → (In i (marked_from (suc n) ms) → (k : ℕ) × (i ≡ k + suc n) × (is_marked ms k ≡ true)) →
        (k : ℕ) × (i ≡ k + n) × (is_marked (m ∷ ms) k ≡ true)
    by true e (inl f) rest = (0, omega (arith, f), e)
    by true e (inr g) rest = later (rest g)
    by false e g rest = later (rest g)

to-marked : (n : ℕ) (marks : List Bool) (k : ℕ) → is_marked marks k ≡ true → In (k + n) (marked_from n marks)
to-marked n [] k e = cc
to-marked n (m ∷ ms) zero e =
    let same : n ≡ 0 + n = omega arith in
    subst (λ k. In k (marked_from n (m ∷ ms))) same (subst (λ (b : Bool). In n (cond b (n ∷ marked_from (suc n) ms) (marked_from (suc n) ms))) (sym e) (inl refl))
to-marked n (m ∷ ms) (suc k) e = by m (subst (λ i. In i (marked_from (suc n) ms)) (omega arith) (to-marked (suc n) ms k e))
  where
    by : (b : Bool) → In (suc k + n) (marked_from (suc n) ms) → In (suc k + n) (cond b (n ∷ marked_from (suc n) ms) (marked_from (suc n) ms))
    by true h = inr h
    by false h = h

pub is-marked : (marks : List Bool) (i : ℕ) → Contains (marked marks) i → is_marked marks i ≡ true
is-marked marks i h = let found = from-marked 0 marks i (in_from (marked marks) i h) in let same : found.0 ≡ i = (let e = found.1 in omega (arith, e)) in subst (λ k. is_marked marks k ≡ true) same found.2

pub has-place : (marks : List Bool) (i : ℕ) → is_marked marks i ≡ true → Contains (marked marks) i
has-place marks i e = in_to (marked marks) i (subst (λ k. In k (marked marks)) (omega arith) (to-marked 0 marks i e))

-- One mark after another.

pub clash : {X : Type 0} → false ≡ true → X
clash e = cc

pub no-marks : (v : Bool) (Holds : ℕ → Type 0) → AreMarkedUpTo v Holds 0 []
no-marks v Holds = record { size = refl; exactly = λ j less. absurd (omega (arith, less)) }

pub one-mark : (v : Bool) (Holds : ℕ → Type 0) (n : ℕ) (marks : List Bool) (b : Bool) → AreMarkedUpTo v Holds n marks → (b ≡ v) ↔ Holds n → AreMarkedUpTo v Holds (n + 1) (marks ++ b ∷ [])
one-mark v Holds n marks b are is = record {
  size = (let many = length-more marks in let size = are.size in omega (arith, many, size));
  exactly = λ j less. by j less (cases_eq j n);
}
  where
    length-more : (xs : List Bool) → length (xs ++ b ∷ []) ≡ length xs + 1
    length-more [] = refl
    length-more (x ∷ xs) = let rest = length-more xs in omega (arith, rest)

    by : (j : ℕ) → j < n + 1 → (j ≡ n) ⊎ (j ≡ n → ⊥) → (is_marked (marks ++ b ∷ []) j ≡ v) ↔ Holds j
    by j less (inl e) =
        subst (λ k. (is_marked (marks ++ b ∷ []) k ≡ v) ↔ Holds k) (sym e)
        (subst (λ (c : Bool). (c ≡ v) ↔ Holds n) (sym (get_or_push marks b false n are.size)) is)
    by j less (inr other) =
        let before : j < n = (let apart : j ≢ n = other in omega (arith, less, apart)) in
        subst (λ (c : Bool). (c ≡ v) ↔ Holds j) (sym (get_or_append_left marks (b ∷ []) false j (let size = are.size in omega (arith, size, before)))) (are.exactly j before)

pub clear-marks : (chosen : List Bool) (count : ℕ) (marks : List Bool) → marks ≡ replicate count false → AreMarks [] chosen count marks
clear-marks chosen count marks e = subst (AreMarks [] chosen count) (sym e) (record {
  size = many count;
  exactly = λ i. ((λ f. clash (sym (none count i) ∙ f)), (λ m. absurd (in_from [] (contact i m.0) m.1)));
})
  where
    many : (n : ℕ) → length (replicate n false) ≡ n
    many zero = refl
    many (suc n) = ap suc (many n)

    none : (n i : ℕ) → is_marked (replicate n false) i ≡ false
    none zero i = refl
    none (suc n) zero = refl
    none (suc n) (suc i) = none n i

module _ (contacts : List Contact) (c : Contact) (chosen : List Bool) (count : ℕ) (marks : List Bool) (are : AreMarks contacts chosen count marks) where
  still : (i : ℕ) → MeetsChosen contacts chosen i → MeetsChosen (contacts ++ c ∷ []) chosen i
  still i m = (m.0, in_to (contacts ++ c ∷ []) (contact i m.0) (in_append-left contacts (c ∷ []) (contact i m.0) (in_from contacts (contact i m.0) m.1)), m.2)

  last : (i j : ℕ) → Contains (contacts ++ c ∷ []) (contact i j) → Contains contacts (contact i j) ⊎ (contact i j ≡ c)
  last i j h = by (in_append contacts (c ∷ []) (contact i j) (in_from (contacts ++ c ∷ []) (contact i j) h))
    where
      by : In (contact i j) contacts ⊎ In (contact i j) (c ∷ []) → Contains contacts (contact i j) ⊎ (contact i j ≡ c)
      by (inl k) = inl (in_to contacts (contact i j) k)
      by (inr (inl e)) = inr e
      by (inr (inr nothing)) = absurd nothing

  pub same-marks : is_marked chosen c.parent ≡ false → AreMarks (contacts ++ c ∷ []) chosen count marks
  same-marks unchosen = record { size = are.size; exactly = λ i. ((λ e. still i ((are.exactly i).0 e)), (λ m. by i m (last i m.0 m.1))) }
    where
      by : (i : ℕ) (m : MeetsChosen (contacts ++ c ∷ []) chosen i) → Contains contacts (contact i m.0) ⊎ (contact i m.0 ≡ c) → is_marked marks i ≡ true
      by i m (inl h) = (are.exactly i).1 (m.0, h, m.2)
      by i m (inr e) = clash (sym unchosen ∙ (ap (λ (k : Contact). is_marked chosen k.parent) (sym e) ∙ m.2))

  pub more-marks : c.child < count → is_marked chosen c.parent ≡ true → AreMarks (contacts ++ c ∷ []) chosen count (slice_set marks c.child true)
  more-marks inside chosen-one = record {
    size = length-set marks c.child ∙ are.size;
    exactly = λ i. (there i (cases_eq i c.child), (λ m. back i m (last i m.0 m.1) (cases_eq i c.child)));
  }
    where
      length-set : (xs : List Bool) (k : ℕ) → length (slice_set xs k true) ≡ length xs
      length-set [] k = refl
      length-set (x ∷ xs) zero = refl
      length-set (x ∷ xs) (suc k) = ap suc (length-set xs k)

      here : is_marked (slice_set marks c.child true) c.child ≡ true
      here = get_or-set_same marks c.child true false (let size = are.size in omega (arith, size, inside))

      there : (i : ℕ) → (i ≡ c.child) ⊎ (i ≡ c.child → ⊥) → is_marked (slice_set marks c.child true) i ≡ true → MeetsChosen (contacts ++ c ∷ []) chosen i
      there i (inl e) f = (c.parent, subst (λ k. Contains (contacts ++ c ∷ []) (contact k c.parent)) (sym e) (in_to (contacts ++ c ∷ []) c (in_append-right contacts (c ∷ []) c (inl refl))), chosen-one)
      there i (inr apart) f = still i ((are.exactly i).0 (sym (get_or-set_other marks c.child i true false apart) ∙ f))

      back : (i : ℕ) (m : MeetsChosen (contacts ++ c ∷ []) chosen i) → Contains contacts (contact i m.0) ⊎ (contact i m.0 ≡ c) → (i ≡ c.child) ⊎ (i ≡ c.child → ⊥) → is_marked (slice_set marks c.child true) i ≡ true
      back i m known (inl e) = subst (λ k. is_marked (slice_set marks c.child true) k ≡ true) (sym e) here
      back i m (inl h) (inr apart) = get_or-set_other marks c.child i true false apart ∙ (are.exactly i).1 (m.0, h, m.2)
      back i m (inr e) (inr apart) = absurd (apart (ap (λ (k : Contact). k.child) e))

pub step-marks : (contacts : List Contact) (c : Contact) (chosen : List Bool) (count : ℕ) (marks : List Bool) → AreMarks contacts chosen count marks → c.child < count →
    AreMarks (contacts ++ c ∷ []) chosen count (cond (is_marked chosen c.parent) (slice_set marks c.child true) marks)
step-marks contacts c chosen count marks are inside = by (is_marked chosen c.parent) refl
  where
    by : (b : Bool) → is_marked chosen c.parent ≡ b → AreMarks (contacts ++ c ∷ []) chosen count (cond b (slice_set marks c.child true) marks)
    by true e = more-marks contacts c chosen count marks are inside e
    by false e = same-marks contacts c chosen count marks are e

-- The ids of a term, part by part.

dropped-ids : (parts : List Part) (i : ℕ) (part : Part) → i < length parts → part ≡ get_or parts i part → filter_map id_of_part (drop i parts) ≡ cons_option (id_of_part part) (filter_map id_of_part (drop (i + 1) parts))
dropped-ids parts i part less is =
    ap (filter_map id_of_part) (drop_more parts i part less) ∙ ap (λ (p : Part). filter_map id_of_part (p ∷ drop (i + 1) parts)) (sym is)

pub id-here : (parts : List Part) (i : ℕ) (part : Part) (id : List ℕ) → i < length parts → part ≡ get_or parts i part → id_of_part part ≡ Some id → Contains (filter_map id_of_part (drop i parts)) id
id-here parts i part id less is e =
    subst (λ l. Contains l id) (sym (dropped-ids parts i part less is ∙ ap (λ o. cons_option o (filter_map id_of_part (drop (i + 1) parts))) e)) (in_to (id ∷ filter_map id_of_part (drop (i + 1) parts)) id (inl refl))

pub id-later : (parts : List Part) (i : ℕ) (part : Part) (id : List ℕ) → i < length parts → part ≡ get_or parts i part → (id_of_part part ≡ Some id → ⊥) →
    (Contains (filter_map id_of_part (drop i parts)) id) ↔ Contains (filter_map id_of_part (drop (i + 1) parts)) id
id-later parts i part id less is other = subst (λ l. (Contains l id) ↔ Contains rest id) (sym (dropped-ids parts i part less is)) (by (id_of_part part) refl)
  where
    rest : List (List ℕ)
    rest = filter_map id_of_part (drop (i + 1) parts)

    by : (o : Option (List ℕ)) → id_of_part part ≡ o → (Contains (cons_option o rest) id) ↔ Contains rest id
    by None e = ((λ h. h), (λ h. h))
    by (Some x) e = ((λ h. one (in_from (x ∷ rest) id h)), (λ h. in_to (x ∷ rest) id (inr (in_from rest id h))))
      where
        one : In id (x ∷ rest) → Contains rest id
        one (inl f) = absurd (other (e ∙ ap (λ (y : List ℕ). Some y) (sym f)))
        one (inr k) = in_to rest id k

-- What a term bounds.

same-some : {X : Type 0} (x y : X) → Some x ≡ Some y → x ≡ y
same-some x y e = cc

module _ (policy : Policy) (term : Term) (j : ℕ) where
  pub bounds-id : (id : List ℕ) → Some id ≡ slice_get (ids_in policy) j → (Contains (ids_of term) id) ↔ IsIn policy term j
  bounds-id id e = by (slice_get policy.statements j) refl (e ∙ slice_get-map (λ s. s.id) policy.statements j)
    where
      by : (o : Option Statement) → slice_get policy.statements j ≡ o → Some id ≡ option_map (λ s. s.id) (slice_get policy.statements j) → (Contains (ids_of term) id) ↔ IsIn policy term j
      by None at f = let unlike : Some id ≡ None = f ∙ ap (option_map (λ s. s.id)) at in cc
      by (Some s) at f =
          let same : id ≡ s.id = same-some id s.id (f ∙ ap (option_map (λ s. s.id)) at) in
          let is : (other : List ℕ) → bears policy j other ≡ bytes_eq s.id other = λ other. ap (λ (o : Option Statement). option_map_or (λ s. bytes_eq s.id other) o false) at in (
            (λ h. record { id = id; named = h; borne = is id ∙ (bytes_eq-Decides s.id id).1 (sym same) }),
            (λ h. subst (Contains (ids_of term)) (sym ((bytes_eq-Decides s.id h.id).0 (sym (is h.id) ∙ h.borne)) ∙ sym same) h.named),
          )

  pub bounds-none : None ≡ slice_get (ids_in policy) j → ¬ IsIn policy term j
  bounds-none e h = by (slice_get policy.statements j) refl (e ∙ slice_get-map (λ s. s.id) policy.statements j)
    where
      by : (o : Option Statement) → slice_get policy.statements j ≡ o → None ≡ option_map (λ s. s.id) (slice_get policy.statements j) → ⊥
      by None at f = clash (sym (ap (λ (o : Option Statement). option_map_or (λ s. bytes_eq s.id h.id) o false) at) ∙ h.borne)
      by (Some s) at f = let unlike : None ≡ Some s.id = f ∙ ap (option_map (λ s. s.id)) at in cc

-- All together.

module _ (net : Network) (parent child : Policy) (contacts : List Contact) (are : AreContacts net parent child contacts) (inside : AreContactsWithin (length (paths_of child)) (length (paths_of parent)) contacts) where
  pub parent-within : (i j : ℕ) → Contains contacts (contact i j) → j < length (paths_of parent)
  parent-within i j h = (all_in (λ c. (c.child < length (paths_of child)) × (c.parent < length (paths_of parent))) contacts (contact i j) inside (in_from contacts (contact i j) h)).1

  pub touching-by : (term : Term) (bounded marks : List Bool) (count : ℕ) → AreBounded parent term bounded → AreMarks contacts bounded count marks → AreTouching net parent child term (marked marks)
  touching-by term bounded marks count bounds touched = record {
    ascending = pairwise-increasing (marked marks) (ascends 0 marks);
    exactly = λ i. ((λ h. to i ((touched.exactly i).0 (is-marked marks i h))), (λ t. has-place marks i ((touched.exactly i).1 (from i t))));
  }
    where
      to : (i : ℕ) → MeetsChosen contacts bounded i → TouchesTerm net parent child term i
      to i m = record { statement = m.0; bounded = (bounds.exactly m.0 (parent-within i m.0 m.1)).0 m.2; touches = (are i m.0).0 m.1 }

      from : (i : ℕ) → TouchesTerm net parent child term i → MeetsChosen contacts bounded i
      from i t = let known = (are i t.statement).1 t.touches in (t.statement, known, (bounds.exactly t.statement (parent-within i t.statement known)).1 t.bounded)

  -- what a mark on a statement in touch with one that is not reserved says
  module _ (free marks : List Bool) (count : ℕ) (unreserved : AreUnreserved parent free) (outside : AreMarks contacts free count marks) (i : ℕ) where
    pub is-outside : is_marked marks i ≡ true → IsGuaranteed child i → IsOutsideReserves net parent child i
    is-outside e guaranteed =
        let m = (outside.exactly i).0 e in
        record {
          guaranteed = guaranteed;
          touched = m.0;
          touches = (are i m.0).0 m.1;
          unreserved = λ r. clash (sym ((unreserved.exactly m.0 (parent-within i m.0 m.1)).1 r) ∙ m.2);
        }

    pub unmarked-within : is_marked marks i ≡ false → IsWithinReserves net parent child i
    unmarked-within e guaranteed j touches = by (is_marked free j) refl
      where
        known : Contains contacts (contact i j)
        known = (are i j).1 touches

        by : (b : Bool) → is_marked free j ≡ b → IsReserved parent j
        by false f = (unreserved.exactly j (parent-within i j known)).0 f
        by true f = clash (sym e ∙ (outside.exactly i).1 (j, known, f))
