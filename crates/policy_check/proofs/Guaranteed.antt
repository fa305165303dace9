-- The guaranteed statements of a policy, the traffic of each, and their ends.
use Rattle.std.proofs.Common.{◌≡◌, ◌<◌, ◌≤◌, ◌+◌, inl, inr, ℕ, zero, suc, Bool, true, false, cond, List, [], ◌∷◌, length, take, map, get_or, Option, None, Some, slice_get, Contains, refl, sym, ◌∙◌, ap, subst, arith, ltb}
use Rattle.std.proofs.lemmas.Bool.{ltb-false}
use Rattle.std.proofs.lemmas.Bool.Decides.{Decides-ltb}
use Rattle.std.specs.List.{AllByRecursion}
use Rattle.std.specs.List.Sorted.{IsStrictlyIncreasing}
use Rattle.std.specs.Option.{option_map_or}
use Rattle.std.proofs.lemmas.Option.{slice_get_within, slice_get-get_or}
use Rattle.merlin_model.specs.declared.policy.Ends.{Ends}
use Rattle.merlin_model.specs.Packets.{Packet}
use Rattle.merlin_model.specs.Predicates.{holds}
use Rattle.merlin_model.specs.Networks.{Network, Pairwise}
use Rattle.merlin_model.specs.Policies.{Policy, Statement, AreDisjoint, match_among}
use Rattle.merlin_model.specs.Rates.{min_of, IsGuaranteed, greatest_of, min_shares}
use Rattle.merlin_model.specs.Assignments.{HasTraffic, AreTheEnds, AreAllEnds}
use Rattle.merlin_model.proofs.Members.{In, in_from, in_to, in_map, all_in}
use Rattle.merlin_model.proofs.Matching.{match_among-only}
use Rattle.merlin_model.proofs.Ascending.{increasing-pairwise}
use Rattle.rate_formula.specs.Usage.{ids_in}
use Rattle.localise.specs.Localised.{min_for, localised}
use Rattle.policy_check.specs.declared.fault.EndsFault.{EndsFault}
use Rattle.policy_check.specs.declared.fault.EndsFault.TheVariants.{TooManyGuarantees, NoEnds, ManyEnds, OutOfMemory}
use Rattle.policy_check.specs.declared.guarantees.TheConstants.{MAX_GUARANTEES}
use Rattle.policy_check.specs.declared.pairs.Pairs.TheVariants.{NoPair, MorePairs}
use Rattle.policy_check.specs.Traffic.{HasPacket, IsOnlyPair, ArePairs}
use Rattle.policy_check.specs.Ends.{AreGuaranteed, AreEndsOf, HasEnds, BreaksEndsAt, BreaksEnds, IsFirstWithoutEnds, places_above}

-- Places of rates above 0.

pub pairwise-increasing : (xs : List ℕ) → Pairwise (λ a b. a < b) xs → IsStrictlyIncreasing xs
pairwise-increasing [] up k lt = let none : ⊥ = omega arith in absurd none
pairwise-increasing (x ∷ []) up k lt = let none : ⊥ = omega arith in absurd none
pairwise-increasing (x ∷ y ∷ ys) up zero lt = up.0.0
pairwise-increasing (x ∷ y ∷ ys) up (suc k) lt =
    let next = pairwise-increasing (y ∷ ys) up.1 k (omega arith) in
    let more : suc k + 1 ≡ suc (k + 1) = omega arith in
    subst (λ n. get_or (y ∷ ys) k 0 < get_or (x ∷ y ∷ ys) n 0) (sym more) next

each : {X : Type 0} (P Q : X → Type 0) (xs : List X) → ((x : X) → P x → Q x) → AllByRecursion P xs → AllByRecursion Q xs
each P Q [] f h = tt
each P Q (x ∷ xs) f h = (f x h.0, each P Q xs f h.1)

places-least : (n : ℕ) (rates : List ℕ) → AllByRecursion (λ i. n ≤ i) (places_above n rates)
places-least n [] = tt
places-least n (rate ∷ rest) = by (ltb 0 rate) (each (λ i. suc n ≤ i) (λ i. n ≤ i) (places_above (suc n) rest) (λ i up. omega (arith, up)) (places-least (suc n) rest))
  where
    by : (b : Bool) → AllByRecursion (λ i. n ≤ i) (places_above (suc n) rest) → AllByRecursion (λ i. n ≤ i) (cond b (n ∷ places_above (suc n) rest) (places_above (suc n) rest))
    by true later = (omega arith, later)
    by false later = later

places-up : (n : ℕ) (rates : List ℕ) → Pairwise (λ a b. a < b) (places_above n rates)
places-up n [] = tt
places-up n (rate ∷ rest) = by (ltb 0 rate) (each (λ i. suc n ≤ i) (λ i. n < i) (places_above (suc n) rest) (λ i up. omega (arith, up)) (places-least (suc n) rest)) (places-up (suc n) rest)
  where
    by : (b : Bool) → AllByRecursion (λ i. n < i) (places_above (suc n) rest) → Pairwise (λ a b. a < b) (places_above (suc n) rest) → Pairwise (λ a b. a < b) (cond b (n ∷ places_above (suc n) rest) (places_above (suc n) rest))
    by true first later = (first, later)
    by false first later = later

-- the place is that of a rate above 0
record IsPlaceAbove (n : ℕ) (rates : List ℕ) (i : ℕ) : Type 0 where
  place : ℕ
  rate : ℕ
  is : i ≡ n + place
  at : slice_get rates place ≡ Some rate
  above : 0 < rate

places-of : (n : ℕ) (rates : List ℕ) (i : ℕ) → In i (places_above n rates) → IsPlaceAbove n rates i
places-of n [] i m = absurd m
places-of n (rate ∷ rest) i m = by (places-of (suc n) rest i) (ltb 0 rate) refl m
  where
    later : (In i (places_above (suc n) rest) → IsPlaceAbove (suc n) rest i) → In i (places_above (suc n) rest) → IsPlaceAbove n (rate ∷ rest) i
    later rec j = let h = rec j in let e = h.is in record { place = suc h.place; rate = h.rate; is = omega (arith, e); at = h.at; above = h.above }

    by : (In i (places_above (suc n) rest) → IsPlaceAbove (suc n) rest i) → (b : Bool) → ltb 0 rate ≡ b → In i (cond b (n ∷ places_above (suc n) rest) (places_above (suc n) rest)) → IsPlaceAbove n (rate ∷ rest) i
    by rec true e (inl same) = record { place = 0; rate = rate; is = omega (arith, same); at = refl; above = (Decides-ltb 0 rate).0 e }
    by rec true e (inr j) = later rec j
    by rec false e j = later rec j

places-back : (n : ℕ) (rates : List ℕ) (i : ℕ) → IsPlaceAbove n rates i → In i (places_above n rates)
places-back n [] i h = let at = h.at in absurd (none h.rate at)
  where
    none : (r : ℕ) → None ≡ Some r → ⊥
    none r e = cc
places-back n (rate ∷ rest) i h = by (places-back (suc n) rest i) (ltb 0 rate) refl h.place refl
  where
    later : (IsPlaceAbove (suc n) rest i → In i (places_above (suc n) rest)) → (k : ℕ) → h.place ≡ suc k → In i (places_above (suc n) rest)
    later rec k e = let is = h.is in rec (record { place = k; rate = h.rate; is = omega (arith, e, is); at = ap (slice_get (rate ∷ rest)) (sym e) ∙ h.at; above = h.above })

    here : h.place ≡ zero → rate ≡ h.rate
    here e = one (ap (slice_get (rate ∷ rest)) (sym e) ∙ h.at)
      where
        one : Some rate ≡ Some h.rate → rate ≡ h.rate
        one e = cc

    by : (IsPlaceAbove (suc n) rest i → In i (places_above (suc n) rest)) → (b : Bool) → ltb 0 rate ≡ b → (k : ℕ) → h.place ≡ k → In i (cond b (n ∷ places_above (suc n) rest) (places_above (suc n) rest))
    by rec true e zero f = inl (let is = h.is in omega (arith, is, f))
    by rec true e (suc k) f = inr (later rec k f)
    by rec false e zero f = let under = ltb-false 0 rate e in let same = here f in let above = h.above in absurd (omega (arith, under, same, above))
    by rec false e (suc k) f = later rec k f

-- Guaranteed statements.

map-at-back : {X Y : Type 0} (f : X → Y) (xs : List X) (i : ℕ) (y : Y) → slice_get (map f xs) i ≡ Some y → (x : X) × (slice_get xs i ≡ Some x)
map-at-back f [] i y e = cc
map-at-back f (x ∷ xs) zero y e = (x, refl)
map-at-back f (x ∷ xs) (suc i) y e = map-at-back f xs i y e

pub map-at : {X Y : Type 0} (f : X → Y) (xs : List X) (i : ℕ) (x : X) → slice_get xs i ≡ Some x → slice_get (map f xs) i ≡ Some (f x)
map-at f [] i x e = cc
map-at f (y ∷ xs) zero x e = let same : y ≡ x = cc in ap (λ z. Some (f z)) same
map-at f (y ∷ xs) (suc i) x e = map-at f xs i x e

pub all-at : {X : Type 0} (P : X → Type 0) (xs : List X) (i : ℕ) (x : X) → AllByRecursion P xs → slice_get xs i ≡ Some x → P x
all-at P [] i x h e = cc
all-at {X} P (y ∷ xs) zero x h e = let same : y ≡ x = cc in subst P same h.0
all-at P (y ∷ xs) (suc i) x h e = all-at P xs i x h.1 e

same-in : {X : Type 0} (o : Option X) (x y : X) → o ≡ Some x → o ≡ Some y → x ≡ y
same-in o x y e f = by (sym e ∙ f)
  where
    by : Some x ≡ Some y → x ≡ y
    by e = cc

module _ (policy : Policy) where
  pub statement-of : (i : ℕ) → IsGuaranteed policy i → (s : Statement) × (slice_get policy.statements i ≡ Some s)
  statement-of i g = by (slice_get policy.statements i) refl g
    where
      by : (o : Option Statement) → slice_get policy.statements i ≡ o → 0 < option_map_or (λ s. greatest_of (min_shares s.id policy.terms)) o 0 → (s : Statement) × (slice_get policy.statements i ≡ Some s)
      by None at above = absurd (omega (arith, above))
      by (Some s) at above = (s, at)

  pub guaranteed-are : ((i : ℕ) (s : Statement) → slice_get policy.statements i ≡ Some s → slice_get (localised policy.terms (ids_in policy)).min i ≡ Some (min_of policy i)) →
      AreGuaranteed policy (places_above 0 (localised policy.terms (ids_in policy)).min)
  guaranteed-are rate = record {
    ascending = pairwise-increasing (places_above 0 rates) (places-up 0 rates);
    exactly = λ i. (λ m. to i (places-of 0 rates i (in_from (places_above 0 rates) i m)), λ g. in_to (places_above 0 rates) i (places-back 0 rates i (back i g)));
  }
    where
      rates : List ℕ
      rates = (localised policy.terms (ids_in policy)).min

      to : (i : ℕ) → IsPlaceAbove 0 rates i → IsGuaranteed policy i
      to i h =
          let id = map-at-back (min_for policy.terms) (ids_in policy) h.place h.rate h.at in
          let s = map-at-back (λ (s : Statement). s.id) policy.statements h.place id.0 id.1 in
          let same : min_of policy h.place ≡ h.rate = same-in (slice_get rates h.place) (min_of policy h.place) h.rate (rate h.place s.0 s.1) h.at in
          let is : h.place ≡ i = (let e = h.is in omega (arith, e)) in
          let above = h.above in
          subst (λ k. 0 < min_of policy k) is (omega (arith, above, same))

      back : (i : ℕ) → IsGuaranteed policy i → IsPlaceAbove 0 rates i
      back i g = let s = statement-of i g in record { place = i; rate = min_of policy i; is = omega arith; at = rate i s.0 s.1; above = g }

-- Traffic of a statement.

pub match-holds : (ss : List Statement) (p : Packet) (i : ℕ) (s : Statement) → match_among ss p ≡ i → slice_get ss i ≡ Some s → holds s.pred p ≡ true
match-holds [] p i s m e = cc
match-holds (t ∷ ss) p zero s m e = by (holds t.pred p) refl m
  where
    same : t ≡ s
    same = cc

    by : (b : Bool) → holds t.pred p ≡ b → cond b 0 (1 + match_among ss p) ≡ 0 → holds s.pred p ≡ true
    by true h m = subst (λ (u : Statement). holds u.pred p ≡ true) same h
    by false h m = absurd (omega (arith, m))
match-holds (t ∷ ss) p (suc i) s m e = by (λ n. match-holds ss p i s n e) (holds t.pred p) refl m
  where
    by : (match_among ss p ≡ i → holds s.pred p ≡ true) → (b : Bool) → holds t.pred p ≡ b → cond b 0 (1 + match_among ss p) ≡ suc i → holds s.pred p ≡ true
    by rec true h m = absurd (omega (arith, m))
    by rec false h m = rec (omega (arith, m))

module _ (net : Network) (policy : Policy) (disjoint : AreDisjoint policy) (i : ℕ) (s : Statement) (at : slice_get policy.statements i ≡ Some s) where
  packet-of : (a b : ℕ) → HasTraffic net policy i a b → HasPacket net s.pred (a, b)
  packet-of a b t = record { packet = t.packet; is_packet = t.is_packet; proper = t.proper; holds = match-holds policy.statements t.packet i s t.matches at }

  traffic-of : (pair : ℕ × ℕ) → HasPacket net s.pred pair → HasTraffic net policy i pair.0 pair.1
  traffic-of pair h = record {
    packet = h.packet;
    is_packet = h.is_packet;
    proper = h.proper;
    matches = match_among-only policy.statements h.packet i s at h.holds (λ j t at' h'. disjoint h.packet j i t s h.is_packet at' at h' h.holds);
  }

  pub ends-of : (ends : Ends) → IsGuaranteed policy i → ends.statement ≡ i → IsOnlyPair net s.pred (ends.src, ends.dst) → AreEndsOf net policy i ends
  ends-of ends g is only = (
    is,
    record {
      guaranteed = subst (IsGuaranteed policy) (sym is) g;
      traffic = subst (λ k. HasTraffic net policy k ends.src ends.dst) (sym is) (traffic-of (ends.src, ends.dst) only.has);
      only = λ a b t. (let e = only.only (a, b) (packet-of a b (subst (λ k. HasTraffic net policy k a b) is t)) in (ap (λ (p : ℕ × ℕ). p.0) e, ap (λ (p : ℕ × ℕ). p.1) e));
    },
  )

  pub no-ends : (id : List ℕ) → slice_get (ids_in policy) i ≡ Some id → ArePairs net s.pred NoPair → BreaksEndsAt net policy i (NoEnds id)
  no-ends id is none = (is, λ a b t. none (a, b) (packet-of a b t))

  pub many-ends : (id : List ℕ) (first second : ℕ × ℕ) → slice_get (ids_in policy) i ≡ Some id → ArePairs net s.pred (MorePairs first second) → BreaksEndsAt net policy i (ManyEnds id first second)
  many-ends id first second is pairs = (
    is,
    record {
      has_first = traffic-of first pairs.has_first;
      has_second = traffic-of second pairs.has_second;
      before = pairs.before;
      others = λ a b t. pairs.others (a, b) (packet-of a b t);
    },
  )

-- What stands at a place.

pub at-index : {X : Type 0} (xs ys : List X) (i : ℕ) (x y : X) → xs ≡ ys → slice_get ys i ≡ Some y → x ≡ get_or xs i x → x ≡ y
at-index xs ys i x y same at is =
    let there : slice_get xs i ≡ Some y = ap (λ l. slice_get l i) same ∙ at in
    is ∙ same-in (slice_get xs i) (get_or xs i x) y (slice_get-get_or xs i x (slice_get_within xs i y there)) there

at-in : (xs : List ℕ) (i x : ℕ) → slice_get xs i ≡ Some x → In x xs
at-in [] i x e = cc
at-in (y ∷ xs) zero x e = let same : y ≡ x = cc in inl (sym same)
at-in (y ∷ xs) (suc i) x e = inr (at-in xs i x e)

-- All ends.

module _ (net : Network) (policy : Policy) (places : List ℕ) (guaranteed : AreGuaranteed policy places) where
  ends-at : (i : ℕ) (found : List Ends) → AllByRecursion (AreTheEnds net policy) found → In i (map (λ e. e.statement) found) → HasEnds net policy i
  ends-at i found all m = let e = in_map (λ (e : Ends). e.statement) found i m in (e.0, (sym e.2, all_in (AreTheEnds net policy) found e.0 all e.1))

  pub all-ends : (found : List Ends) → map (λ e. e.statement) found ≡ places → AllByRecursion (AreTheEnds net policy) found → AreAllEnds net policy found
  all-ends found are all = record {
    ascending = subst IsStrictlyIncreasing (sym are) guaranteed.ascending;
    each = all;
    all = λ i g. subst (λ l. Contains l i) (sym are) ((guaranteed.exactly i).1 g);
  }

  -- of an ascending list those below the number at a place stand before the place
  before-place : (xs : List ℕ) (k x i : ℕ) → Pairwise (λ a b. a < b) xs → slice_get xs k ≡ Some x → In i xs → i < x → In i (take k xs)
  before-place [] k x i up at m less = absurd m
  before-place (y ∷ xs) zero x i up at m less = let same : y ≡ x = cc in absurd (not-below (subst (λ n. AllByRecursion (λ z. n ≤ z) (y ∷ xs)) same (omega arith, each (λ z. y < z) (λ z. y ≤ z) xs (λ z lt. omega (arith, lt)) up.0)))
    where
      not-below : AllByRecursion (λ z. x ≤ z) (y ∷ xs) → ⊥
      not-below all = let over = all_in (λ z. x ≤ z) (y ∷ xs) i all m in omega (arith, over, less)
  before-place (y ∷ xs) (suc k) x i up at (inl same) less = inl same
  before-place (y ∷ xs) (suc k) x i up at (inr m) less = inr (before-place xs k x i up.1 at m less)

  pub first-at-fault : (found : List Ends) (k statement : ℕ) (fault : EndsFault) → length places ≤ MAX_GUARANTEES → map (λ e. e.statement) found ≡ take k places → AllByRecursion (AreTheEnds net policy) found →
      slice_get places k ≡ Some statement → BreaksEndsAt net policy statement fault → BreaksEnds net policy fault
  first-at-fault found k statement fault few are all at breaks = by fault breaks
    where
      g : IsGuaranteed policy statement
      g = (guaranteed.exactly statement).0 (in_to places statement (at-in places k statement at))

      whole : (f : EndsFault) → BreaksEndsAt net policy statement f → IsFirstWithoutEnds net policy f
      whole f b = record {
        few = (places, guaranteed, few);
        statement = statement;
        guaranteed = g;
        before = λ i less gi.
            ends-at i found all (subst (In i) (sym are) (before-place places k statement i (increasing-pairwise places guaranteed.ascending) at (in_from places i ((guaranteed.exactly i).1 gi)) less));
        at_fault = b;
      }

      by : (f : EndsFault) → BreaksEndsAt net policy statement f → BreaksEnds net policy f
      by (TooManyGuarantees count) b = absurd b
      by (NoEnds id) b = whole (NoEnds id) b
      by (ManyEnds id first second) b = whole (ManyEnds id first second) b
      by OutOfMemory b = tt
