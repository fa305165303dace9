-- The search, step by step.
use Rattle.std.proofs.Common.{◌≡◌, ◌<◌, ◌≤◌, ◌⊎◌, inl, inr, ◌+◌, ℕ, suc, zero, Bool, true, false, List, [], ◌∷◌, ◌++◌, nat_lt, length, slice_get, Contains, None, Some, length-append, append_assoc, refl, sym, ◌∙◌, ap, ap₂, subst, arith}
use Rattle.std.specs.List.{AllByRecursion, slice_index_or}
use Rattle.merlin_model.proofs.Members.{In, in_from, in_to, all_in, in_append, in_append-left, in_append-right}
use Rattle.path_automaton.specs.Automata.{step}
use Rattle.path_automaton.proofs.Building.{get-below, below-get}
use Rattle.path_automaton.proofs.Classing.{get-more, get-end, get-snoc}
use Rattle.language_check.specs.declared.search.Triple.{Triple}
use Rattle.language_check.specs.Trails.{Grounds, IsTrail, triple_at, Strays, IsLessTrail, IsNoMoreTrail, IsLeastTrail, IsWayBack, IsInside, IsFoundFrom, IsSearching, IsNoted}
use Rattle.language_check.proofs.Trailing.{no_more-trans, no_more-cons, no_more-longer}

some-same : {X : Type 0} {a b : X} → Some a ≡ Some b → a ≡ b
some-same e = cc

none-in : {X : Type 0} (x : X) → Contains [] x → ⊥
none-in x h = in_from [] x h

contains-more : (xs : List ℕ) (k x : ℕ) → Contains xs x → Contains (xs ++ k ∷ []) x
contains-more xs k x h = in_to (xs ++ k ∷ []) x (in_append-left xs (k ∷ []) x (in_from xs x h))

contains-last : (xs : List ℕ) (k : ℕ) → Contains (xs ++ k ∷ []) k
contains-last xs k = in_to (xs ++ k ∷ []) k (in_append-right xs (k ∷ []) k (inl refl))

contains-snoc : (xs : List ℕ) (k x : ℕ) → Contains (xs ++ k ∷ []) x → Contains xs x ⊎ (x ≡ k)
contains-snoc xs k x h = by (in_append xs (k ∷ []) x (in_from (xs ++ k ∷ []) x h))
  where
    by : In x xs ⊎ In x (k ∷ []) → Contains xs x ⊎ (x ≡ k)
    by (inl i) = inl (in_to xs x i)
    by (inr (inl e)) = inr e
    by (inr (inr i)) = absurd i

all-snoc : {X : Type 0} (P : X → Type 0) (xs : List X) (x : X) → AllByRecursion P xs → P x → AllByRecursion P (xs ++ x ∷ [])
all-snoc P [] x h p = (p, tt)
all-snoc P (y ∷ xs) x h p = (h.0, all-snoc P xs x h.1 p)

-- Ways back.

front : (xs : List ℕ) (k i : ℕ) → i < length xs → slice_index_or (xs ++ k ∷ []) i 0 ≡ slice_index_or xs i 0
front [] k i lt = absurd (omega (arith, lt))
front (x ∷ xs) k zero lt = refl
front (x ∷ xs) k (suc i) lt = front xs k i (omega arith)

last : (xs : List ℕ) (k : ℕ) → slice_index_or (xs ++ k ∷ []) (length xs) 0 ≡ k
last [] k = refl
last (x ∷ xs) k = last xs k

way-more : (found : List Triple) (from : List ℕ) (t : Triple) (k i : ℕ) (u : List ℕ) → length from ≡ length found → IsWayBack found from i u → IsWayBack (found ++ t ∷ []) (from ++ k ∷ []) i u
way-more found from t k i [] long h = absurd h
way-more found from t k i (x ∷ []) long h = (h.0, (h.1.0, get-more found (t ∷ []) i h.1.0 h.1.1, h.1.2))
way-more found from t k i (x ∷ y ∷ u) long h =
    let below = get-below found i h.1.0 h.1.1 in (
      h.0,
      (h.1.0, get-more found (t ∷ []) i h.1.0 h.1.1, h.1.2),
      subst (λ p. IsWayBack (found ++ t ∷ []) (from ++ k ∷ []) p (y ∷ u)) (sym (front from k i (omega arith))) (way-more found from t k (slice_index_or from i 0) (y ∷ u) long h.2),
    )

pub one-way : (found : List Triple) (from : List ℕ) (i : ℕ) (u v : List ℕ) → IsWayBack found from i u → IsWayBack found from i v → u ≡ v
one-way found from i [] v h g = absurd h
one-way found from i (x ∷ u) [] h g = absurd g
one-way found from i (x ∷ []) (y ∷ []) h g = ap (λ k. k ∷ []) (sym h.1.2 ∙ ap (λ t. t.symbol) (some-same (sym h.1.1 ∙ g.1.1)) ∙ g.1.2)
one-way found from i (x ∷ []) (y ∷ z ∷ v) h g = let zero_at : i ≡ 0 = h.0 in let above : 0 < i = g.0 in absurd (omega (arith, zero_at, above))
one-way found from i (x ∷ z ∷ u) (y ∷ []) h g = let zero_at : i ≡ 0 = g.0 in let above : 0 < i = h.0 in absurd (omega (arith, zero_at, above))
one-way found from i (x ∷ z ∷ u) (y ∷ r ∷ v) h g =
    ap₂ (λ k l. k ∷ l) (sym h.1.2 ∙ ap (λ t. t.symbol) (some-same (sym h.1.1 ∙ g.1.1)) ∙ g.1.2) (one-way found from (slice_index_or from i 0) (z ∷ u) (r ∷ v) h.2 g.2)

-- The first place.

pub below_or_at : (n j : ℕ) → j < n + 1 → (j < n) ⊎ (j ≡ n)
below_or_at n j lt = by (nat_lt j n) refl
  where
    by : (b : Bool) → nat_lt j n ≡ b → (j < n) ⊎ (j ≡ n)
    by true e = inl (grind arith)
    by false e = let ge : n ≤ j = grind arith in inr (omega arith)

pub begin : (g : Grounds) (n : ℕ) (t : Triple) → t ≡ triple_at g (g.start ∷ []) → IsInside g n t → IsSearching g n (t ∷ []) (0 ∷ []) 0 []
begin g n t is inside = record {
  trails = (g.start ∷ []) ∷ [];
  lead = record {
    long = refl;
    back = record { long = refl; earlier = λ i above below. absurd (omega (arith, above, below)) };
    inside = (inside, tt);
    begins = refl;
    each = each;
    ordered = λ i j u v lt ei ej. let below = get-below ((g.start ∷ []) ∷ []) j v ej in absurd (omega (arith, lt, below));
  };
  recent = recent;
  closed = λ i h u k e c. absurd (never i k c);
  harmless = λ i u lt e. absurd (omega (arith, lt));
}
  where
    each : (i : ℕ) (u : List ℕ) → slice_get ((g.start ∷ []) ∷ []) i ≡ Some u → IsTrail g u × (slice_get (t ∷ []) i ≡ Some (triple_at g u)) × IsWayBack (t ∷ []) (0 ∷ []) i u
    each zero u e = subst (λ w. IsTrail g w × (Some t ≡ Some (triple_at g w)) × IsWayBack (t ∷ []) (0 ∷ []) 0 w) (some-same e) (refl, ap Some is, (refl, (t, refl, ap (λ s. s.symbol) is)))
    each (suc i) u e = cc

    recent : (i : ℕ) (u : List ℕ) → slice_get ((g.start ∷ []) ∷ []) i ≡ Some u → (u ≡ g.start ∷ []) ⊎ IsFoundFrom ((g.start ∷ []) ∷ []) 0 [] u
    recent zero u e = inl (sym (some-same e))
    recent (suc i) u e = cc

    never : {P : Type 0} (i k : ℕ) → ((i < 0) × P) ⊎ ((i ≡ 0) × Contains [] k) → ⊥
    never i k (inl c) = let lt : i < 0 = c.0 in omega (arith, lt)
    never i k (inr c) = none-in k c.1

-- One step.

module _ (g : Grounds) (n : ℕ) (found : List Triple) (from : List ℕ) (turn : ℕ) (done : List ℕ) (s : IsSearching g n found from turn done)
    (h : ℕ) (w : List ℕ) (here : slice_get s.trails turn ≡ Some (h ∷ w)) where
  -- all that was found is less than what the next number gives
  newer : (k : ℕ) → AllByRecursion (λ d. d < k) done → (i : ℕ) (u : List ℕ) → slice_get s.trails i ≡ Some u → IsLessTrail u (k ∷ h ∷ w)
  newer k above i u e = by u (s.recent i u e)
    where
      by : (u : List ℕ) → (u ≡ g.start ∷ []) ⊎ IsFoundFrom s.trails turn done u → IsLessTrail u (k ∷ h ∷ w)
      by u (inl same) = subst (λ v. IsLessTrail v (k ∷ h ∷ w)) (sym same) (inl tt)
      by [] (inr f) = absurd f
      by (x ∷ v) (inr f) = on f.2
        where
          on : (f.0 < turn) ⊎ ((f.0 ≡ turn) × Contains done x) → IsLessTrail v (h ∷ w) ⊎ ((v ≡ h ∷ w) × (x < k))
          on (inl lt) = inl (s.lead.ordered f.0 turn v (h ∷ w) lt f.1 here)
          on (inr c) = inr (some-same (sym f.1 ∙ ap (slice_get s.trails) c.0 ∙ here), all_in (λ d. d < k) done x above (in_from done x c.1))

  found-more : (k : ℕ) (trails more : List (List ℕ)) → trails ≡ s.trails ++ more → (u : List ℕ) → IsFoundFrom s.trails turn done u → IsFoundFrom trails turn (done ++ k ∷ []) u
  found-more k trails more is [] f = absurd f
  found-more k trails more is (x ∷ v) f = (f.0, subst (λ l. slice_get l f.0 ≡ Some v) (sym is) (get-more s.trails more f.0 v f.1), on f.2)
    where
      on : (f.0 < turn) ⊎ ((f.0 ≡ turn) × Contains done x) → (f.0 < turn) ⊎ ((f.0 ≡ turn) × Contains (done ++ k ∷ []) x)
      on (inl lt) = inl lt
      on (inr c) = inr (c.0, contains-more done k x c.1)

  recent-more : (k : ℕ) (trails more : List (List ℕ)) → trails ≡ s.trails ++ more → (u : List ℕ) → (u ≡ g.start ∷ []) ⊎ IsFoundFrom s.trails turn done u → (u ≡ g.start ∷ []) ⊎ IsFoundFrom trails turn (done ++ k ∷ []) u
  recent-more k trails more is u (inl e) = inl e
  recent-more k trails more is u (inr f) = inr (found-more k trails more is u f)

  abbrev Follows : List (List ℕ) → ℕ → List ℕ → Type 0
  Follows trails k u = (j : ℕ) × (v : List ℕ) × (slice_get trails j ≡ Some v) × (triple_at g v ≡ triple_at g (k ∷ u)) × IsNoMoreTrail v (k ∷ u)

  -- what the next number gives was found before
  pub step-old : (k j : ℕ) → AllByRecursion (λ d. d < k) done → slice_get found j ≡ Some (triple_at g (k ∷ h ∷ w)) → IsSearching g n found from turn (done ++ k ∷ [])
  step-old k j above at = record {
    trails = s.trails;
    lead = s.lead;
    recent = λ i u e. recent-more k s.trails [] (sym (append-none s.trails)) u (s.recent i u e);
    closed = closed;
    harmless = s.harmless;
  }
    where
      append-none : {X : Type 0} (xs : List X) → xs ++ [] ≡ xs
      append-none [] = refl
      append-none (x ∷ xs) = ap (λ l. x ∷ l) (append-none xs)

      there : Follows s.trails k (h ∷ w)
      there =
          let below = get-below found j (triple_at g (k ∷ h ∷ w)) at in
          let long = s.lead.long in
          let v = below-get s.trails j (omega arith) in
          let each = s.lead.each j v.0 v.1 in
          (j, v.0, v.1, some-same (sym each.1 ∙ at), inr (newer k above j v.0 v.1))

      closed : (i : ℕ) (m : ℕ) (u : List ℕ) (x : ℕ) → slice_get s.trails i ≡ Some (m ∷ u) → ((i < turn) × Contains (g.followers m) x) ⊎ ((i ≡ turn) × Contains (done ++ k ∷ []) x) → Follows s.trails x (m ∷ u)
      closed i m u x e (inl c) = s.closed i m u x e (inl c)
      closed i m u x e (inr c) = on (contains-snoc done k x c.1)
        where
          on : Contains done x ⊎ (x ≡ k) → Follows s.trails x (m ∷ u)
          on (inl d) = s.closed i m u x e (inr (c.0, d))
          on (inr same) = subst (λ t. Follows s.trails x t) (some-same (sym here ∙ ap (slice_get s.trails) (sym c.0) ∙ e)) (subst (λ y. Follows s.trails y (h ∷ w)) (sym same) there)

  -- it is new
  pub step-new : (k : ℕ) (t : Triple) → AllByRecursion (λ d. d < k) done → Contains (g.followers h) k → t ≡ triple_at g (k ∷ h ∷ w) → IsInside g n t →
      IsSearching g n (found ++ t ∷ []) (from ++ turn ∷ []) turn (done ++ k ∷ [])
  step-new k t above follows is inside = record {
    trails = trails;
    lead = record {
      long = length-append s.trails (new ∷ []) ∙ ap (λ m. m + 1) s.lead.long ∙ sym (length-append found (t ∷ []));
      back = record { long = length-append from (turn ∷ []) ∙ ap (λ m. m + 1) s.lead.back.long ∙ sym (length-append found (t ∷ [])); earlier = earlier };
      inside = all-snoc (IsInside g n) found t s.lead.inside inside;
      begins = get-more s.trails (new ∷ []) 0 (g.start ∷ []) s.lead.begins;
      each = λ i u e. each i u (get-snoc s.trails new i u e);
      ordered = λ i j u v lt ei ej. ordered i j u v lt ei (get-snoc s.trails new j v ej);
    };
    recent = λ i u e. recent i u (get-snoc s.trails new i u e);
    closed = λ i m u x e c. closed i m u x (get-snoc s.trails new i (m ∷ u) e) c;
    harmless = λ i u lt e. harmless i u lt (get-snoc s.trails new i u e);
  }
    where
      new : List ℕ
      new = k ∷ h ∷ w

      trails : List (List ℕ)
      trails = s.trails ++ new ∷ []

      turn-below : turn < length s.trails
      turn-below = get-below s.trails turn (h ∷ w) here

      earlier : (i : ℕ) → 0 < i → i < length (from ++ turn ∷ []) → slice_index_or (from ++ turn ∷ []) i 0 < i
      earlier i above below = by (nat_lt i (length from)) refl
        where
          by : (b : Bool) → nat_lt i (length from) ≡ b → slice_index_or (from ++ turn ∷ []) i 0 < i
          by true e = let lt : i < length from = grind arith in subst (λ p. p < i) (sym (front from turn i lt)) (s.lead.back.earlier i above lt)
          by false e =
              let more = length-append from (turn ∷ []) in
              let ge : length from ≤ i = grind arith in
              let same : i ≡ length from = omega arith in
              let lt = turn-below in let l1 = s.lead.long in let l2 = s.lead.back.long in
              let less : turn < i = omega arith in
              subst (λ p. p < i) (sym (ap (λ m. slice_index_or (from ++ turn ∷ []) m 0) same ∙ last from turn)) less

      each : (i : ℕ) (u : List ℕ) → (slice_get s.trails i ≡ Some u) ⊎ ((i ≡ length s.trails) × (new ≡ u)) →
          IsTrail g u × (slice_get (found ++ t ∷ []) i ≡ Some (triple_at g u)) × IsWayBack (found ++ t ∷ []) (from ++ turn ∷ []) i u
      each i u (inl e) = let old = s.lead.each i u e in (old.0, get-more found (t ∷ []) i (triple_at g u) old.1, way-more found from t turn i u s.lead.back.long old.2)
      each i u (inr e) =
          subst (λ v. IsTrail g v × (slice_get (found ++ t ∷ []) i ≡ Some (triple_at g v)) × IsWayBack (found ++ t ∷ []) (from ++ turn ∷ []) i v) e.1
          ((follows, old.0), place ∙ ap Some is, (above_zero, (t, place, ap (λ x. x.symbol) is), subst (λ p. IsWayBack (found ++ t ∷ []) (from ++ turn ∷ []) p (h ∷ w)) (sym back) (way-more found from t turn turn (h ∷ w) s.lead.back.long old.2)))
        where
          old : IsTrail g (h ∷ w) × (slice_get found turn ≡ Some (triple_at g (h ∷ w))) × IsWayBack found from turn (h ∷ w)
          old = s.lead.each turn (h ∷ w) here

          place : slice_get (found ++ t ∷ []) i ≡ Some t
          place = ap (slice_get (found ++ t ∷ [])) (e.0 ∙ s.lead.long) ∙ get-end found t

          above_zero : 0 < i
          above_zero = let lt = turn-below in let same : i ≡ length s.trails = e.0 in omega arith

          back : slice_index_or (from ++ turn ∷ []) i 0 ≡ turn
          back = ap (λ m. slice_index_or (from ++ turn ∷ []) m 0) (e.0 ∙ s.lead.long ∙ sym s.lead.back.long) ∙ last from turn

      ordered : (i j : ℕ) (u v : List ℕ) → i < j → slice_get trails i ≡ Some u → (slice_get s.trails j ≡ Some v) ⊎ ((j ≡ length s.trails) × (new ≡ v)) → IsLessTrail u v
      ordered i j u v lt ei cj = by (get-snoc s.trails new i u ei) cj
        where
          by : (slice_get s.trails i ≡ Some u) ⊎ ((i ≡ length s.trails) × (new ≡ u)) → (slice_get s.trails j ≡ Some v) ⊎ ((j ≡ length s.trails) × (new ≡ v)) → IsLessTrail u v
          by (inl a) (inl b) = s.lead.ordered i j u v lt a b
          by (inl a) (inr b) = subst (IsLessTrail u) b.1 (newer k above i u a)
          by (inr a) (inl b) = let below = get-below s.trails j v b in let same : i ≡ length s.trails = a.0 in absurd (omega (arith, below, same, lt))
          by (inr a) (inr b) = let si : i ≡ length s.trails = a.0 in let sj : j ≡ length s.trails = b.0 in absurd (omega (arith, si, sj, lt))

      recent : (i : ℕ) (u : List ℕ) → (slice_get s.trails i ≡ Some u) ⊎ ((i ≡ length s.trails) × (new ≡ u)) → (u ≡ g.start ∷ []) ⊎ IsFoundFrom trails turn (done ++ k ∷ []) u
      recent i u (inl e) = recent-more k trails (new ∷ []) refl u (s.recent i u e)
      recent i u (inr e) = inr (subst (IsFoundFrom trails turn (done ++ k ∷ [])) e.1 (turn, get-more s.trails (new ∷ []) turn (h ∷ w) here, inr (refl, contains-last done k)))

      kept : (x : ℕ) (u : List ℕ) → Follows s.trails x u → Follows trails x u
      kept x u f = (f.0, f.1, get-more s.trails (new ∷ []) f.0 f.1 f.2, f.3, f.4)

      closed : (i : ℕ) (m : ℕ) (u : List ℕ) (x : ℕ) → (slice_get s.trails i ≡ Some (m ∷ u)) ⊎ ((i ≡ length s.trails) × (new ≡ m ∷ u)) →
          ((i < turn) × Contains (g.followers m) x) ⊎ ((i ≡ turn) × Contains (done ++ k ∷ []) x) → Follows trails x (m ∷ u)
      closed i m u x (inl e) (inl c) = kept x (m ∷ u) (s.closed i m u x e (inl c))
      closed i m u x (inl e) (inr c) = on (contains-snoc done k x c.1)
        where
          on : Contains done x ⊎ (x ≡ k) → Follows trails x (m ∷ u)
          on (inl d) = kept x (m ∷ u) (s.closed i m u x e (inr (c.0, d)))
          on (inr same) =
              subst (λ v. Follows trails x v) (some-same (sym here ∙ ap (slice_get s.trails) (sym c.0) ∙ e))
              (subst (λ y. Follows trails y (h ∷ w)) (sym same) (length s.trails, new, get-end s.trails new, refl, inl refl))
      closed i m u x (inr e) (inl c) = let same : i ≡ length s.trails = e.0 in let lt : i < turn = c.0 in let below = turn-below in absurd (omega (arith, same, lt, below))
      closed i m u x (inr e) (inr c) = let same : i ≡ length s.trails = e.0 in let at : i ≡ turn = c.0 in let below = turn-below in absurd (omega (arith, same, at, below))

      harmless : (i : ℕ) (u : List ℕ) → i < turn → (slice_get s.trails i ≡ Some u) ⊎ ((i ≡ length s.trails) × (new ≡ u)) → ¬ Strays g (triple_at g u)
      harmless i u lt (inl e) = s.harmless i u lt e
      harmless i u lt (inr e) = let same : i ≡ length s.trails = e.0 in let below = turn-below in absurd (omega (arith, same, lt, below))

  -- all numbers were taken
  pub next-turn : done ≡ g.followers h → (¬ Strays g (triple_at g (h ∷ w))) → IsSearching g n found from (turn + 1) []
  next-turn whole safe = record {
    trails = s.trails;
    lead = s.lead;
    recent = λ i u e. recent u (s.recent i u e);
    closed = closed;
    harmless = harmless;
  }
    where
      recent : (u : List ℕ) → (u ≡ g.start ∷ []) ⊎ IsFoundFrom s.trails turn done u → (u ≡ g.start ∷ []) ⊎ IsFoundFrom s.trails (turn + 1) [] u
      recent u (inl e) = inl e
      recent [] (inr f) = absurd f
      recent (x ∷ v) (inr f) = inr (f.0, f.1, inl (on f.2))
        where
          on : (f.0 < turn) ⊎ ((f.0 ≡ turn) × Contains done x) → f.0 < turn + 1
          on (inl lt) = omega arith
          on (inr c) = let at : f.0 ≡ turn = c.0 in omega arith

      closed : (i : ℕ) (m : ℕ) (u : List ℕ) (x : ℕ) → slice_get s.trails i ≡ Some (m ∷ u) → ((i < turn + 1) × Contains (g.followers m) x) ⊎ ((i ≡ turn + 1) × Contains [] x) → Follows s.trails x (m ∷ u)
      closed i m u x e (inl c) = on (below_or_at turn i c.0)
        where
          on : (i < turn) ⊎ (i ≡ turn) → Follows s.trails x (m ∷ u)
          on (inl lt) = s.closed i m u x e (inl (lt, c.1))
          on (inr at) =
              let same : m ≡ h = head-same (some-same (sym e ∙ ap (slice_get s.trails) at ∙ here)) in
              s.closed i m u x e (inr (at, subst (λ l. Contains l x) (sym whole) (subst (λ y. Contains (g.followers y) x) same c.1)))
            where
              head-same : m ∷ u ≡ h ∷ w → m ≡ h
              head-same f = cc
      closed i m u x e (inr c) = absurd (none-in x c.1)

      harmless : (i : ℕ) (u : List ℕ) → i < turn + 1 → slice_get s.trails i ≡ Some u → ¬ Strays g (triple_at g u)
      harmless i u lt e = on (below_or_at turn i lt)
        where
          on : (i < turn) ⊎ (i ≡ turn) → ¬ Strays g (triple_at g u)
          on (inl l) = s.harmless i u l e
          on (inr at) = subst (λ v. ¬ Strays g (triple_at g v)) (some-same (sym here ∙ ap (slice_get s.trails) (sym at) ∙ e)) safe

-- What was found.

module _ (g : Grounds) (n : ℕ) (found : List Triple) (from : List ℕ) (turn : ℕ) (s : IsSearching g n found from turn []) where
  abbrev IsMet : List ℕ → Type 0
  IsMet u = (j : ℕ) × (v : List ℕ) × (slice_get s.trails j ≡ Some v) × (triple_at g v ≡ triple_at g u) × IsNoMoreTrail v u

  abbrev IsLater : List ℕ → Type 0
  IsLater u = (w : List ℕ) × (slice_get s.trails turn ≡ Some w) × IsNoMoreTrail w u

  from-turn : (i : ℕ) (v : List ℕ) → turn ≤ i → slice_get s.trails i ≡ Some v → IsLater v
  from-turn i v le e =
      let below = get-below s.trails i v e in
      let w = below-get s.trails turn (omega arith) in
      (w.0, w.1, by (nat_lt turn i) refl w.0 w.1)
    where
      by : (b : Bool) → nat_lt turn i ≡ b → (w : List ℕ) → slice_get s.trails turn ≡ Some w → IsNoMoreTrail w v
      by true f w e2 = let lt : turn < i = grind arith in inr (s.lead.ordered turn i w v lt e2 e)
      by false f w e2 = let ge : i ≤ turn = grind arith in let same : turn ≡ i = omega arith in inl (some-same (sym e2 ∙ ap (slice_get s.trails) same ∙ e))

  -- each trail is met among what was found, or is not less than the one at the turn
  complete : (u : List ℕ) → IsTrail g u → IsMet u ⊎ IsLater u
  complete [] h = absurd h
  complete (k ∷ []) h = inl (0, g.start ∷ [], s.lead.begins, ap (λ x. triple_at g (x ∷ [])) (sym h), inl (ap (λ x. x ∷ []) (sym h)))
  complete (k ∷ j ∷ rest) h = by (complete (j ∷ rest) h.1)
    where
      later : (v : List ℕ) → IsNoMoreTrail v (j ∷ rest) → IsLater v → IsLater (k ∷ j ∷ rest)
      later v le l = (l.0, l.1, no_more-longer k l.0 (j ∷ rest) (no_more-trans l.0 v (j ∷ rest) l.2 le))

      met : (i : ℕ) (v : List ℕ) → slice_get s.trails i ≡ Some v → triple_at g v ≡ triple_at g (j ∷ rest) → IsNoMoreTrail v (j ∷ rest) → i < turn → IsMet (k ∷ j ∷ rest)
      met i [] e same le lt = absurd (s.lead.each i [] e).0
      met i (m ∷ v) e same le lt =
          let head : m ≡ j = ap (λ t. t.symbol) same in
          let next = s.closed i m v k e (inl (lt, subst (λ y. Contains (g.followers y) k) (sym head) h.0)) in
          let states : triple_at g (k ∷ m ∷ v) ≡ triple_at g (k ∷ j ∷ rest) =
          ap (λ t. record { symbol = k; first = step g.a t.first k; second = step g.b t.second k }) same in
          (next.0, next.1, next.2, next.3 ∙ states, no_more-trans next.1 (k ∷ m ∷ v) (k ∷ j ∷ rest) next.4 (no_more-cons k (m ∷ v) (j ∷ rest) le))

      by : IsMet (j ∷ rest) ⊎ IsLater (j ∷ rest) → IsMet (k ∷ j ∷ rest) ⊎ IsLater (k ∷ j ∷ rest)
      by (inr l) = inr (later (j ∷ rest) (inl refl) l)
      by (inl m) = on (nat_lt m.0 turn) refl
        where
          on : (b : Bool) → nat_lt m.0 turn ≡ b → IsMet (k ∷ j ∷ rest) ⊎ IsLater (k ∷ j ∷ rest)
          on true f = let lt : m.0 < turn = grind arith in inl (met m.0 m.1 m.2 m.3 m.4 lt)
          on false f = let ge : turn ≤ m.0 = grind arith in inr (later m.1 m.4 (from-turn m.0 m.1 ge m.2))

  -- the trail at the turn is the least that strays
  pub least : (w : List ℕ) → slice_get s.trails turn ≡ Some w → Strays g (triple_at g w) → IsLeastTrail g (Some w)
  least w here strays = ((s.lead.each turn w here).0, strays, λ u trail bad. by u bad (complete u trail))
    where
      by : (u : List ℕ) → Strays g (triple_at g u) → IsMet u ⊎ IsLater u → IsNoMoreTrail w u
      by u bad (inr l) = subst (λ v. IsNoMoreTrail v u) (some-same (sym l.1 ∙ here)) l.2
      by u bad (inl m) = on (nat_lt m.0 turn) refl
        where
          on : (b : Bool) → nat_lt m.0 turn ≡ b → IsNoMoreTrail w u
          on true f = let lt : m.0 < turn = grind arith in absurd (s.harmless m.0 m.1 lt m.2 (subst (Strays g) (sym m.3) bad))
          on false f =
              let ge : turn ≤ m.0 = grind arith in
              let l = from-turn m.0 m.1 ge m.2 in
              no_more-trans w m.1 u (subst (λ v. IsNoMoreTrail v m.1) (some-same (sym l.1 ∙ here)) l.2) m.4

  -- where all were followed, none strays
  pub none : length found ≤ turn → IsLeastTrail g None
  none all u trail bad = by (complete u trail)
    where
      by : IsMet u ⊎ IsLater u → ⊥
      by (inl m) =
          let below = get-below s.trails m.0 m.1 m.2 in
          let long = s.lead.long in
          s.harmless m.0 m.1 (omega arith) m.2 (subst (Strays g) (sym m.3) bad)
      by (inr l) = let below = get-below s.trails turn l.0 l.1 in let long = s.lead.long in omega (arith, below, long, all)

-- The steps of the code.

pub head-at : (g : Grounds) (n : ℕ) (found : List Triple) (from : List ℕ) (turn : ℕ) (done : List ℕ) (s : IsSearching g n found from turn done) (t : Triple) → slice_get found turn ≡ Some t →
    (w : List ℕ) × (slice_get s.trails turn ≡ Some (t.symbol ∷ w)) × (t ≡ triple_at g (t.symbol ∷ w))
head-at g n found from turn done s t e =
    let below = get-below found turn t e in
    let long = s.lead.long in
    let u = below-get s.trails turn (omega arith) in
    by u.0 u.1 (s.lead.each turn u.0 u.1)
  where
    by : (u : List ℕ) → slice_get s.trails turn ≡ Some u → IsTrail g u × (slice_get found turn ≡ Some (triple_at g u)) × IsWayBack found from turn u →
        (w : List ℕ) × (slice_get s.trails turn ≡ Some (t.symbol ∷ w)) × (t ≡ triple_at g (t.symbol ∷ w))
    by [] f each = absurd each.0
    by (k ∷ w) f each =
        let same : t ≡ triple_at g (k ∷ w) = some-same (sym e ∙ each.1) in
        let head : t.symbol ≡ k = ap (λ x. x.symbol) same in
        (w, f ∙ ap (λ x. Some (x ∷ w)) (sym head), same ∙ ap (λ x. triple_at g (x ∷ w)) (sym head))

abbrev pub next_of : Grounds → Triple → ℕ → Triple
next_of g t k = record { symbol = k; first = step g.a t.first k; second = step g.b t.second k }

pub noted : (g : Grounds) (n : ℕ) (found new : List Triple) (from new_from : List ℕ) (turn : ℕ) (done : List ℕ) → IsSearching g n found from turn done →
    (t : Triple) → slice_get found turn ≡ Some t → (k : ℕ) → AllByRecursion (λ d. d < k) done → Contains (g.followers t.symbol) k → IsInside g n (next_of g t k) →
    IsNoted (next_of g t k) turn found new from new_from → IsSearching g n new new_from turn (done ++ k ∷ []) × (slice_get new turn ≡ Some t)
noted g n found new from new_from turn done s t e k above follows inside how = by how
  where
    here : (w : List ℕ) × (slice_get s.trails turn ≡ Some (t.symbol ∷ w)) × (t ≡ triple_at g (t.symbol ∷ w))
    here = head-at g n found from turn done s t e

    same : next_of g t k ≡ triple_at g (k ∷ t.symbol ∷ here.0)
    same = ap (λ x. record { symbol = k; first = step g.a x.first k; second = step g.b x.second k }) here.2

    by : IsNoted (next_of g t k) turn found new from new_from → IsSearching g n new new_from turn (done ++ k ∷ []) × (slice_get new turn ≡ Some t)
    by (inl c) = (
      subst (λ l. IsSearching g n l new_from turn (done ++ k ∷ [])) (sym c.2)
          (subst (λ l. IsSearching g n found l turn (done ++ k ∷ [])) (sym c.3)
          (step-old g n found from turn done s t.symbol here.0 here.1 k c.0 above (c.1 ∙ ap Some same))),
      ap (λ l. slice_get l turn) c.2 ∙ e,
    )
    by (inr c) = (
      subst (λ l. IsSearching g n l new_from turn (done ++ k ∷ [])) (sym c.0)
          (subst (λ l. IsSearching g n (found ++ next_of g t k ∷ []) l turn (done ++ k ∷ [])) (sym c.1)
          (step-new g n found from turn done s t.symbol here.0 here.1 k (next_of g t k) above follows same inside)),
      ap (λ l. slice_get l turn) c.0 ∙ get-more found (next_of g t k ∷ []) turn t e,
    )

pub turned : (g : Grounds) (n : ℕ) (found : List Triple) (from : List ℕ) (turn : ℕ) (done : List ℕ) → IsSearching g n found from turn done →
    (t : Triple) → slice_get found turn ≡ Some t → done ≡ g.followers t.symbol → (¬ Strays g t) → IsSearching g n found from (turn + 1) []
turned g n found from turn done s t e whole safe =
    let here = head-at g n found from turn done s t e in
    next-turn g n found from turn done s t.symbol here.0 here.1 whole (subst (λ x. ¬ Strays g x) here.2 safe)

-- what leads back from a place that strays is the least trail
pub least-at : (g : Grounds) (n : ℕ) (found : List Triple) (from : List ℕ) (turn : ℕ) → IsSearching g n found from turn [] →
    (t : Triple) → slice_get found turn ≡ Some t → Strays g t → (w : List ℕ) × IsWayBack found from turn w × IsLeastTrail g (Some w)
least-at g n found from turn s t e strays =
    let here = head-at g n found from turn [] s t e in
    let w = t.symbol ∷ here.0 in
    (w, (s.lead.each turn w here.1).2, least g n found from turn s w here.1 (subst (Strays g) here.2 strays))

pub way-step : (found : List Triple) (from : List ℕ) (turn i k : ℕ) (trail : List ℕ) → 0 < i → (t : Triple) → slice_get found i ≡ Some t → k ≡ t.symbol →
    ((u : List ℕ) → IsWayBack found from turn u → (rest : List ℕ) × IsWayBack found from i rest × (u ≡ trail ++ rest)) →
    (u : List ℕ) → IsWayBack found from turn u → (rest : List ℕ) × IsWayBack found from (slice_index_or from i 0) rest × (u ≡ (trail ++ k ∷ []) ++ rest)
way-step found from turn i k trail above t e is h u w = by (h u w).0 (h u w).1 (h u w).2
  where
    by : (rest : List ℕ) → IsWayBack found from i rest → u ≡ trail ++ rest → (rest : List ℕ) × IsWayBack found from (slice_index_or from i 0) rest × (u ≡ (trail ++ k ∷ []) ++ rest)
    by [] b f = absurd b
    by (x ∷ []) b f = let zero_at : i ≡ 0 = b.0 in absurd (omega (arith, zero_at, above))
    by (x ∷ y ∷ rest) b f =
        let same : x ≡ k = sym b.1.2 ∙ ap (λ s. s.symbol) (some-same (sym b.1.1 ∙ e)) ∙ sym is in
        (y ∷ rest, b.2, f ∙ ap (λ z. trail ++ z ∷ y ∷ rest) same ∙ sym (append_assoc trail (k ∷ []) (y ∷ rest)))

pub way-end : (found : List Triple) (from : List ℕ) (turn i k : ℕ) (trail : List ℕ) → i ≡ 0 → (t : Triple) → slice_get found i ≡ Some t → k ≡ t.symbol →
    ((u : List ℕ) → IsWayBack found from turn u → (rest : List ℕ) × IsWayBack found from i rest × (u ≡ trail ++ rest)) →
    (u : List ℕ) → IsWayBack found from turn u → trail ++ k ∷ [] ≡ u
way-end found from turn i k trail first t e is h u w = by (h u w).0 (h u w).1 (h u w).2
  where
    by : (rest : List ℕ) → IsWayBack found from i rest → u ≡ trail ++ rest → trail ++ k ∷ [] ≡ u
    by [] b f = absurd b
    by (x ∷ []) b f = ap (λ z. trail ++ z ∷ []) (is ∙ ap (λ s. s.symbol) (some-same (sym e ∙ b.1.1)) ∙ b.1.2) ∙ sym f
    by (x ∷ y ∷ rest) b f = let above : 0 < i = b.0 in absurd (omega (arith, first, above))

-- the first triple that is noted
pub first-noted : (g : Grounds) (n : ℕ) (t : Triple) (old new : List Triple) (old_from new_from : List ℕ) → old ≡ [] → old_from ≡ [] → IsNoted t 0 old new old_from new_from → t ≡ triple_at g (g.start ∷ []) → IsInside g n t → IsSearching g n new new_from 0 []
first-noted g n t old new old_from new_from eo ef how is inside = by how
  where
    by : IsNoted t 0 old new old_from new_from → IsSearching g n new new_from 0 []
    by (inl c) = let e : slice_get [] c.0 ≡ Some t = ap (λ l. slice_get l c.0) (sym eo) ∙ c.1 in absurd (empty c.0 e)
      where
        empty : (j : ℕ) → slice_get [] j ≡ Some t → ⊥
        empty j f = cc
    by (inr c) =
        subst (λ l. IsSearching g n l new_from 0 []) (sym (c.0 ∙ ap (λ l. l ++ t ∷ []) eo))
        (subst (λ l. IsSearching g n (t ∷ []) l 0 []) (sym (c.1 ∙ ap (λ l. l ++ 0 ∷ []) ef)) (begin g n t is inside))

pub get-none : (xs : List Triple) (i : ℕ) → slice_get xs i ≡ None → length xs ≤ i
get-none [] i e = omega arith
get-none (x ∷ xs) zero e = cc
get-none (x ∷ xs) (suc i) e = let le = get-none xs i e in omega arith
