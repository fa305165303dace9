-- Groups, statement by statement.
use Rattle.std.proofs.Common.{◌≡◌, ◌<◌, ◌≤◌, ◌⊎◌, ◌↔◌, inl, inr, ◌+◌, ℕ, suc, zero, Bool, true, false, nat_lt, List, [], ◌∷◌, ◌++◌, length, get_or, slice_get, Contains, Option, None, Some, MatchOption, refl, sym, ◌∙◌, ap, subst, arith}
use Rattle.std.specs.List.{AllByRecursion}
use Rattle.merlin_model.specs.Policies.{Policy, paths_of}
use Rattle.merlin_model.specs.Rates.{IsGuaranteed}
use Rattle.merlin_model.specs.Networks.{Pairwise}
use Rattle.merlin_model.proofs.Members.{In, in_from, in_to, in_append, in_append-left, in_append-right}
use Rattle.path_regex.specs.Normal.{normal_of}
use Rattle.path_automaton.proofs.Building.{get-below, below-get, get-in, in-get, all-from}
use Rattle.path_automaton.proofs.Classing.{get-more, get-end, get-snoc}
use Rattle.policy_check.proofs.Guaranteed.{pairwise-increasing}
use Rattle.configuration_model.specs.Groups.{HaveOneForm, Leads, AreGrouped}
use Rattle.openflow_rules.specs.declared.groups.Grouping.{Grouping}
use Rattle.openflow_rules.specs.Kinds.{AreKinds, IsJoinedTo, IsLeading, IsStatementAdded, AreGroupedBelow}

some-same : {X : Type 0} {a b : X} → Some a ≡ Some b → a ≡ b
some-same e = cc

none-some : {X : Type 0} {a : X} → None ≡ Some a → ⊥
none-some e = cc

below_or_at : (n j : ℕ) → j < n + 1 → (j < n) ⊎ (j ≡ n)
below_or_at n j lt = by (nat_lt j n) refl
  where
    by : (b : Bool) → nat_lt j n ≡ b → (j < n) ⊎ (j ≡ n)
    by true e = inl (grind arith)
    by false e = let ge : n ≤ j = grind arith in inr (omega arith)

length-more : {X : Type 0} (xs : List X) (x : X) → length (xs ++ x ∷ []) ≡ length xs + 1
length-more [] x = refl
length-more (y ∷ xs) x = let rest = length-more xs x in omega (arith, rest)

contains-snoc : (xs : List ℕ) (y x : ℕ) → Contains (xs ++ y ∷ []) x → Contains xs x ⊎ (x ≡ y)
contains-snoc xs y x h = by (in_append xs (y ∷ []) x (in_from (xs ++ y ∷ []) x h))
  where
    by : In x xs ⊎ In x (y ∷ []) → Contains xs x ⊎ (x ≡ y)
    by (inl i) = inl (in_to xs x i)
    by (inr (inl e)) = inr e
    by (inr (inr i)) = absurd i

contains-left : (xs : List ℕ) (y x : ℕ) → Contains xs x → Contains (xs ++ y ∷ []) x
contains-left xs y x h = in_to (xs ++ y ∷ []) x (in_append-left xs (y ∷ []) x (in_from xs x h))

contains-last : (xs : List ℕ) (y : ℕ) → Contains (xs ++ y ∷ []) y
contains-last xs y = in_to (xs ++ y ∷ []) y (in_append-right xs (y ∷ []) y (inl refl))

get-contains : {X : Type 0} (xs : List X) (k : ℕ) (a : X) → slice_get xs k ≡ Some a → Contains xs a
get-contains xs k a e = in_to xs a (get-in xs k a e)

contains-get : {X : Type 0} (xs : List X) (a : X) → Contains xs a → (k : ℕ) × (slice_get xs k ≡ Some a)
contains-get xs a c = in-get xs a (in_from xs a c)

pairwise-snoc : (xs : List ℕ) (x : ℕ) → AllByRecursion (λ y. y < x) xs → Pairwise (λ i j. i < j) xs → Pairwise (λ i j. i < j) (xs ++ x ∷ [])
pairwise-snoc [] x h a = (tt, tt)
pairwise-snoc (y ∷ xs) x h a = (snoc xs a.0, pairwise-snoc xs x h.1 a.1)
  where
    snoc : (zs : List ℕ) → AllByRecursion (λ z. y < z) zs → AllByRecursion (λ z. y < z) (zs ++ x ∷ [])
    snoc [] g = (h.0, tt)
    snoc (z ∷ zs) g = (g.0, snoc zs g.1)

same-form : (policy : Policy) (i j k : ℕ) → HaveOneForm policy i j → HaveOneForm policy i k → HaveOneForm policy j k
same-form policy i j k a b = record {
  path = a.other;
  other = b.other;
  has = a.other_has;
  other_has = b.other_has;
  form = sym a.form ∙ ap normal_of (some-same (sym a.has ∙ b.has)) ∙ b.form;
}

form-on : (policy : Policy) (i j k : ℕ) → HaveOneForm policy i j → HaveOneForm policy j k → HaveOneForm policy i k
form-on policy i j k a b = record {
  path = a.path;
  other = b.other;
  has = a.has;
  other_has = b.other_has;
  form = a.form ∙ ap normal_of (some-same (sym a.other_has ∙ b.has)) ∙ b.form;
}

module _ (policy : Policy) (all : List (Option ℕ)) (kinds : AreKinds policy all) where
  pub grouped-none : (g : Grouping) → g.groups.leaders ≡ [] → g.groups.group_of ≡ [] → g.kinds ≡ [] → AreGroupedBelow policy all 0 g
  grouped-none g el eg ek = record {
    ascending = subst (Pairwise (λ i j. i < j)) (sym el) tt;
    leaders_are = λ j. (λ c. absurd (in_from [] j (subst (λ l. Contains l j) el c)), λ h. let lt : j < 0 = h.0 in absurd (omega (arith, lt)));
    size = ap length eg;
    each = λ i h e. absurd (none-some (sym (ap (λ l. slice_get l i) eg) ∙ e));
    long = ap length ek ∙ sym (ap length el);
    kinds_are = λ h j e. absurd (none-some (sym (ap (λ l. slice_get l h) el) ∙ e));
  }

  module _ (n : ℕ) (old new : Grouping) (s : AreGroupedBelow policy all n old) (kind : Option ℕ) (here : slice_get all n ≡ Some kind) where
    leader-below : (h j : ℕ) → slice_get old.groups.leaders h ≡ Some j → (j < n) × Leads policy j j
    leader-below h j e = (s.leaders_are j).0 (get-contains old.groups.leaders h j e)

    -- the kind of a group is that of its leader
    kind-of-group : (h j : ℕ) (kind : Option ℕ) → slice_get old.groups.leaders h ≡ Some j → slice_get old.kinds h ≡ Some kind → slice_get all j ≡ Some kind
    kind-of-group h j k e ek = sym (s.kinds_are h j e) ∙ ek

    leader-of : (h : ℕ) (kind : Option ℕ) → slice_get old.kinds h ≡ Some kind → (j : ℕ) × (slice_get old.groups.leaders h ≡ Some j)
    leader-of h k e = let lt = get-below old.kinds h k e in let long = s.long in below-get old.groups.leaders h (omega (arith, lt, long))

    -- the statement joins a group
    joined : IsJoinedTo kind old new → AreGroupedBelow policy all (n + 1) new
    joined h =
        let j = leader-of h.group (Some h.form) h.there in
        let at_j = kind-of-group h.group j.0 (Some h.form) j.1 h.there in
        let at_n : slice_get all n ≡ Some (Some h.form) = here ∙ ap Some h.is in
        let alike : HaveOneForm policy n j.0 = (kinds.alike n j.0 h.form h.form at_n at_j).0 refl in
        let below = leader-below h.group j.0 j.1 in
        let first = first-of j.0 (kinds.best_effort j.0 h.form at_j) below.1 in
        let leads : Leads policy n j.0 = inr (kinds.best_effort n h.form at_n, record { best_effort = kinds.best_effort j.0 h.form at_j; alike = alike; first = λ k lt free same. first k lt free (same-form policy n j.0 k alike same) }) in
        record {
          ascending = subst (Pairwise (λ i k. i < k)) (sym h.leaders) s.ascending;
          leaders_are = λ k. (
            λ c. let r = (s.leaders_are k).0 (subst (λ l. Contains l k) h.leaders c) in let lt = r.0 in (omega (arith, lt), r.1),
            λ r. subst (λ l. Contains l k) (sym h.leaders) ((s.leaders_are k).1 (still k (below_or_at n k r.0) r.1 j.0 below.0 alike (kinds.best_effort j.0 h.form at_j) (kinds.best_effort n h.form at_n), r.1)),
          );
          size = ap length h.group_of ∙ length-more old.groups.group_of h.group ∙ ap (λ m. m + 1) s.size;
          each = λ i g e. each i g (get-snoc old.groups.group_of h.group i g (ap (λ l. slice_get l i) (sym h.group_of) ∙ e)) j leads;
          long = ap length h.kinds ∙ s.long ∙ sym (ap length h.leaders);
          kinds_are = λ g k e. ap (λ l. slice_get l g) h.kinds ∙ s.kinds_are g k (ap (λ l. slice_get l g) (sym h.leaders) ∙ e);
        }
      where
        first-of : (j : ℕ) → (¬ IsGuaranteed policy j) → Leads policy j j → (k : ℕ) → k < j → (¬ IsGuaranteed policy k) → ¬ HaveOneForm policy j k
        first-of j free (inl l) k lt fk same = absurd (free l.0)
        first-of j free (inr l) k lt fk same = l.1.first k lt fk same

        -- the statement itself stands for no group
        still : (k : ℕ) → (k < n) ⊎ (k ≡ n) → Leads policy k k → (j : ℕ) → j < n → HaveOneForm policy n j → (¬ IsGuaranteed policy j) → (¬ IsGuaranteed policy n) → k < n
        still k (inl lt) l j below alike fj fn = lt
        still k (inr e) (inl l) j below alike fj fn = absurd (fn (subst (IsGuaranteed policy) e l.0))
        still k (inr e) (inr l) j below alike fj fn = absurd (l.1.first j (let b = below in omega (arith, b, e)) fj (subst (λ m. HaveOneForm policy m j) (sym e) alike))

        each : (i g : ℕ) → (slice_get old.groups.group_of i ≡ Some g) ⊎ ((i ≡ length old.groups.group_of) × (h.group ≡ g)) → (j : (x : ℕ) × (slice_get old.groups.leaders h.group ≡ Some x)) → Leads policy n j.0 → (x : ℕ) × (slice_get new.groups.leaders g ≡ Some x) × Leads policy i x
        each i g (inl e) j leads = let r = s.each i g e in (r.0, ap (λ l. slice_get l g) h.leaders ∙ r.1, r.2)
        each i g (inr e) j leads = (j.0, ap (λ l. slice_get l g) h.leaders ∙ ap (slice_get old.groups.leaders) (sym e.1) ∙ j.1, subst (λ m. Leads policy m j.0) (sym (e.0 ∙ s.size)) leads)

    -- the statement stands for a new group
    leading : IsLeading n kind old new → AreGroupedBelow policy all (n + 1) new
    leading h = record {
      ascending = subst (Pairwise (λ i k. i < k)) (sym h.leaders) (pairwise-snoc old.groups.leaders n (all-from (λ y. y < n) old.groups.leaders (λ k a e. (leader-below k a e).0)) s.ascending);
      leaders_are = λ k. (
        λ c. to k (contains-snoc old.groups.leaders n k (subst (λ l. Contains l k) h.leaders c)),
        λ r. subst (λ l. Contains l k) (sym h.leaders) (from k (below_or_at n k r.0) r.1),
      );
      size = ap length h.group_of ∙ length-more old.groups.group_of (length old.groups.leaders) ∙ ap (λ m. m + 1) s.size;
      each = λ i g e. each i g (get-snoc old.groups.group_of (length old.groups.leaders) i g (ap (λ l. slice_get l i) (sym h.group_of) ∙ e));
      long = ap length h.kinds ∙ length-more old.kinds kind ∙ ap (λ m. m + 1) s.long ∙ sym (length-more old.groups.leaders n) ∙ sym (ap length h.leaders);
      kinds_are = λ g k e. kinds-are g k (get-snoc old.groups.leaders n g k (ap (λ l. slice_get l g) (sym h.leaders) ∙ e));
    }
      where
        -- no earlier statement of best effort has the form
        none : (form : ℕ) → kind ≡ Some form → (k : ℕ) → k < n → (¬ IsGuaranteed policy k) → ¬ HaveOneForm policy n k
        none form is k lt free same = by (below-get old.groups.group_of k (let size = s.size in omega (arith, size, lt)))
          where
            not_there : ¬ Contains old.kinds (Some form)
            not_there = subst (λ o. MatchOption o (Unit {0}) (λ f. ¬ Contains old.kinds (Some f))) is h.new_kind

            at_n : slice_get all n ≡ Some (Some form)
            at_n = here ∙ ap Some is

            known : (g j : ℕ) → slice_get old.groups.leaders g ≡ Some j → HaveOneForm policy k j → (¬ IsGuaranteed policy j) → (q : Option ℕ) → slice_get all j ≡ Some q → ⊥
            known g j at_g alike fj None e = fj (kinds.guaranteed j e)
            known g j at_g alike fj (Some b) e =
                let one : form ≡ b = (kinds.alike n j form b at_n e).1 (form-on policy n k j same alike) in
                not_there (get-contains old.kinds g (Some form) (s.kinds_are g j at_g ∙ e ∙ ap (λ m. Some (Some m)) (sym one)))

            on : (g j : ℕ) → slice_get old.groups.leaders g ≡ Some j → Leads policy k j → ⊥
            on g j at_g (inl l) = free l.0
            on g j at_g (inr l) =
                let lt = (leader-below g j at_g).0 in
                let end = get-below all n kind here in
                let q = below-get all j (omega (arith, lt, end)) in
                known g j at_g l.1.alike l.1.best_effort q.0 q.1

            by : (g : ℕ) × (slice_get old.groups.group_of k ≡ Some g) → ⊥
            by g = let r = s.each k g.0 g.1 in on g.0 r.0 r.1 r.2

        lead : Leads policy n n
        lead = by kind refl
          where
            by : (o : Option ℕ) → kind ≡ o → Leads policy n n
            by None e = inl (kinds.guaranteed n (here ∙ ap Some e), refl)
            by (Some form) e = inr (
              kinds.best_effort n form (here ∙ ap Some e),
              record {
                best_effort = kinds.best_effort n form (here ∙ ap Some e);
                alike = (kinds.alike n n form form (here ∙ ap Some e) (here ∙ ap Some e)).0 refl;
                first = λ k lt free same. none form e k lt free same;
              },
            )

        to : (k : ℕ) → Contains old.groups.leaders k ⊎ (k ≡ n) → (k < n + 1) × Leads policy k k
        to k (inl c) = let r = (s.leaders_are k).0 c in let lt = r.0 in (omega (arith, lt), r.1)
        to k (inr e) = (omega (arith, e), subst (λ m. Leads policy m m) (sym e) lead)

        from : (k : ℕ) → (k < n) ⊎ (k ≡ n) → Leads policy k k → Contains (old.groups.leaders ++ n ∷ []) k
        from k (inl lt) l = contains-left old.groups.leaders n k ((s.leaders_are k).1 (lt, l))
        from k (inr e) l = subst (Contains (old.groups.leaders ++ n ∷ [])) (sym e) (contains-last old.groups.leaders n)

        each : (i g : ℕ) → (slice_get old.groups.group_of i ≡ Some g) ⊎ ((i ≡ length old.groups.group_of) × (length old.groups.leaders ≡ g)) → (x : ℕ) × (slice_get new.groups.leaders g ≡ Some x) × Leads policy i x
        each i g (inl e) = let r = s.each i g e in (r.0, ap (λ l. slice_get l g) h.leaders ∙ get-more old.groups.leaders (n ∷ []) g r.0 r.1, r.2)
        each i g (inr e) = (n, ap (λ l. slice_get l g) h.leaders ∙ ap (slice_get (old.groups.leaders ++ n ∷ [])) (sym e.1) ∙ get-end old.groups.leaders n, subst (λ m. Leads policy m n) (sym (e.0 ∙ s.size)) lead)

        kinds-are : (g k : ℕ) → (slice_get old.groups.leaders g ≡ Some k) ⊎ ((g ≡ length old.groups.leaders) × (n ≡ k)) → slice_get new.kinds g ≡ slice_get all k
        kinds-are g k (inl e) =
            let lt = get-below old.groups.leaders g k e in
            let long = s.long in
            let q = below-get old.kinds g (omega (arith, lt, long)) in
            ap (λ l. slice_get l g) h.kinds ∙ get-more old.kinds (kind ∷ []) g q.0 q.1 ∙ sym q.1 ∙ s.kinds_are g k e
        kinds-are g k (inr e) = ap (λ l. slice_get l g) h.kinds ∙ ap (slice_get (old.kinds ++ kind ∷ [])) (e.0 ∙ sym s.long) ∙ get-end old.kinds kind ∙ sym here ∙ ap (slice_get all) e.1

    pub added : IsStatementAdded n kind old new → AreGroupedBelow policy all (n + 1) new
    added (inl h) = joined h
    added (inr h) = leading h

-- all statements are grouped
pub grouped : (policy : Policy) (all : List (Option ℕ)) → AreKinds policy all → (n : ℕ) → n ≡ length (paths_of policy) → (g : Grouping) → AreGroupedBelow policy all n g → AreGrouped policy g.groups.leaders g.groups.group_of
grouped policy all kinds n whole g s = record {
  ascending = pairwise-increasing g.groups.leaders s.ascending;
  leaders_are = λ j. subst (λ m. Contains g.groups.leaders j ↔ ((j < m) × Leads policy j j)) whole (s.leaders_are j);
  size = s.size ∙ whole;
  each = λ i h e. s.each i h e;
}

pub get-at : {X : Type 0} (xs : List X) (i : ℕ) (d : X) → i < length xs → slice_get xs i ≡ Some (get_or xs i d)
get-at [] i d lt = absurd (omega (arith, lt))
get-at (x ∷ xs) zero d lt = refl
get-at (x ∷ xs) (suc i) d lt = get-at xs i d (omega arith)
