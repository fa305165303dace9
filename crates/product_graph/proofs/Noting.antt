-- The search, step by step.
use Rattle.std.proofs.Common.{◌≡◌, ◌<◌, ◌≤◌, ◌⊎◌, ◌↔◌, inl, inr, ◌+◌, ℕ, List, [], ◌∷◌, ◌++◌, length, slice_get, Contains, Some, refl, sym, ◌∙◌, ap, subst, arith}
use Rattle.std.specs.List.{AllByRecursion}
use Rattle.product_graph.specs.declared.vertex_set.NumberedVertex.{NumberedVertex}
use Rattle.product_graph.specs.declared.search.Found.{Found}
use Rattle.product_graph.specs.Followers.{follower_numbers}
use Rattle.product_graph.specs.Numbered.{IsPut, Ground, IsOnGround, next_of, GoesOnBy, PassesTo, IsReachable}
use Rattle.product_graph.specs.Finding.{IsNotedAfter, JoinsFound, IsFollowedThere, IsFinding}
use Rattle.product_graph.proofs.Lists.{some-same, below_or_at, all-contained, contained-all, get-below, get-contains, contains-get, get-more, get-snoc, contains-left, contains-last, contains-snoc, contains-none}

passes-on : (g : Ground) (p : NumberedVertex) (ks : List ℕ) (q : NumberedVertex) (k : ℕ) → PassesTo g p ks q → GoesOnBy g q k → PassesTo g p (ks ++ k ∷ []) (next_of g q k)
passes-on g p [] q k h goes = (subst (λ x. GoesOnBy g x k) (sym h) goes, ap (λ x. next_of g x k) h)
passes-on g p (j ∷ ks) q k h goes = (h.0, passes-on g (next_of g p j) ks q k h.1 goes)

pub reach-on : (g : Ground) (starts : List NumberedVertex) (q : NumberedVertex) (k : ℕ) → IsReachable g starts q → GoesOnBy g q k → IsReachable g starts (next_of g q k)
reach-on g starts q k h goes = (h.0, h.1, (h.2.0 ++ k ∷ [], passes-on g h.0 h.2.0 q k h.2.1 goes))

pub begun : (g : Ground) (starts : List NumberedVertex) (found : Found) → AllByRecursion (IsOnGround g) starts → ((p : NumberedVertex) → Contains found.vertices p ↔ Contains starts p) → found.edges ≡ [] → IsFinding g starts found 0 []
begun g starts found on same none = record {
  on = all-contained (IsOnGround g) found.vertices (λ p c. contained-all (IsOnGround g) starts p on ((same p).0 c));
  begun = λ p c. (same p).1 c;
  reached = λ p c. (p, (same p).0 c, ([], refl));
  sound = λ e c. absurd (contains-none e (subst (λ l. Contains l e) none c));
  closed = λ i p k e c. absurd (never i k c);
}
  where
    never : {P : Type 0} (i k : ℕ) → ((i < 0) × P) ⊎ ((i ≡ 0) × Contains [] k) → ⊥
    never i k (inl c) = let lt : i < 0 = c.0 in omega (arith, lt)
    never i k (inr c) = contains-none k c.1

module _ (g : Ground) (starts : List NumberedVertex) (found new : Found) (turn : ℕ) (done : List ℕ) (s : IsFinding g starts found turn done)
    (p : NumberedVertex) (here : slice_get found.vertices turn ≡ Some p) (k : ℕ) (goes : GoesOnBy g p k) (on : IsOnGround g (next_of g p k))
    (h : IsNotedAfter turn (next_of g p k) found new) where
  abbrev next : NumberedVertex
  next = next_of g p k

  grown : (i : ℕ) (q : NumberedVertex) → slice_get found.vertices i ≡ Some q → slice_get new.vertices i ≡ Some q
  grown i q e = by h.1.1
    where
      by : (new.vertices ≡ found.vertices) ⊎ (new.vertices ≡ found.vertices ++ next ∷ []) → slice_get new.vertices i ≡ Some q
      by (inl same) = ap (λ l. slice_get l i) same ∙ e
      by (inr more) = ap (λ l. slice_get l i) more ∙ get-more found.vertices (next ∷ []) i q e

  back : (i : ℕ) (q : NumberedVertex) → slice_get new.vertices i ≡ Some q → (slice_get found.vertices i ≡ Some q) ⊎ ((i ≡ length found.vertices) × (next ≡ q))
  back i q e = by h.1.1
    where
      by : (new.vertices ≡ found.vertices) ⊎ (new.vertices ≡ found.vertices ++ next ∷ []) → (slice_get found.vertices i ≡ Some q) ⊎ ((i ≡ length found.vertices) × (next ≡ q))
      by (inl same) = inl (ap (λ l. slice_get l i) (sym same) ∙ e)
      by (inr more) = get-snoc found.vertices next i q (ap (λ l. slice_get l i) (sym more) ∙ e)

  contained : (q : NumberedVertex) → Contains new.vertices q → Contains found.vertices q ⊎ (q ≡ next)
  contained q c = by h.1.1
    where
      by : (new.vertices ≡ found.vertices) ⊎ (new.vertices ≡ found.vertices ++ next ∷ []) → Contains found.vertices q ⊎ (q ≡ next)
      by (inl same) = inl (subst (λ l. Contains l q) same c)
      by (inr more) = contains-snoc found.vertices next q (subst (λ l. Contains l q) more c)

  kept : (q : NumberedVertex) → Contains found.vertices q → Contains new.vertices q
  kept q c = by h.1.1
    where
      by : (new.vertices ≡ found.vertices) ⊎ (new.vertices ≡ found.vertices ++ next ∷ []) → Contains new.vertices q
      by (inl same) = subst (λ l. Contains l q) (sym same) c
      by (inr more) = subst (λ l. Contains l q) (sym more) (contains-left found.vertices (next ∷ []) q c)

  edge-kept : (e : ℕ × ℕ) → Contains found.edges e → Contains new.edges e
  edge-kept e c = subst (λ l. Contains l e) (sym h.2) (contains-left found.edges ((turn, h.0) ∷ []) e c)

  followed-kept : (i : ℕ) (q : NumberedVertex) (m : ℕ) → IsFollowedThere g found i q m → IsFollowedThere g new i q m
  followed-kept i q m f = (f.0, grown f.0 (next_of g q m) f.1, edge-kept (i, f.0) f.2)

  there : IsFollowedThere g new turn p k
  there = (h.0, h.1.0, subst (λ l. Contains l (turn, h.0)) (sym h.2) (contains-last found.edges (turn, h.0)))

  pub noted : IsFinding g starts new turn (done ++ k ∷ [])
  noted = record {
    on = all-contained (IsOnGround g) new.vertices (λ q c. on-each q (contained q c));
    begun = λ q c. kept q (s.begun q c);
    reached = λ q c. reached q (contained q c);
    sound = λ e c. sound e (contains-snoc found.edges (turn, h.0) e (subst (λ l. Contains l e) h.2 c));
    closed = λ i q m e c. closed i q m (back i q e) c;
  }
    where
      on-each : (q : NumberedVertex) → Contains found.vertices q ⊎ (q ≡ next) → IsOnGround g q
      on-each q (inl c) = contained-all (IsOnGround g) found.vertices q s.on c
      on-each q (inr e) = subst (IsOnGround g) (sym e) on

      reached : (q : NumberedVertex) → Contains found.vertices q ⊎ (q ≡ next) → IsReachable g starts q
      reached q (inl c) = s.reached q c
      reached q (inr e) = subst (IsReachable g starts) (sym e) (reach-on g starts p k (s.reached p (get-contains found.vertices turn p here)) goes)

      sound : (e : ℕ × ℕ) → Contains found.edges e ⊎ (e ≡ (turn, h.0)) → JoinsFound g new.vertices e
      sound e (inl c) = let old = s.sound e c in (old.0, grown e.0 old.0 old.1, (old.2.0, old.2.1, grown e.1 (next_of g old.0 old.2.0) old.2.2))
      sound e (inr same) = subst (JoinsFound g new.vertices) (sym same) (p, grown turn p here, (k, goes, h.1.0))

      closed : (i : ℕ) (q : NumberedVertex) (m : ℕ) → (slice_get found.vertices i ≡ Some q) ⊎ ((i ≡ length found.vertices) × (next ≡ q)) →
          ((i < turn) × GoesOnBy g q m) ⊎ ((i ≡ turn) × Contains (done ++ k ∷ []) m) → IsFollowedThere g new i q m
      closed i q m (inl e) (inl c) = followed-kept i q m (s.closed i q m e (inl c))
      closed i q m (inl e) (inr c) = by (contains-snoc done k m c.1)
        where
          by : Contains done m ⊎ (m ≡ k) → IsFollowedThere g new i q m
          by (inl d) = followed-kept i q m (s.closed i q m e (inr (c.0, d)))
          by (inr same) =
              let vertex : p ≡ q = some-same (sym here ∙ ap (slice_get found.vertices) (sym c.0) ∙ e) in
              subst (λ n. IsFollowedThere g new i q n) (sym same) (subst (λ n. IsFollowedThere g new n q k) (sym c.0) (subst (λ x. IsFollowedThere g new turn x k) vertex there))
      closed i q m (inr e) (inl c) = let lt = get-below found.vertices turn p here in let at = e.0 in let less = c.0 in absurd (omega (arith, lt, at, less))
      closed i q m (inr e) (inr c) = let lt = get-below found.vertices turn p here in let at = e.0 in let same = c.0 in absurd (omega (arith, lt, at, same))

pub turned : (g : Ground) (starts : List NumberedVertex) (found : Found) (turn : ℕ) (done : List ℕ) (p : NumberedVertex) → slice_get found.vertices turn ≡ Some p → done ≡ follower_numbers g.followers p.symbol → IsFinding g starts found turn done → IsFinding g starts found (turn + 1) []
turned g starts found turn done p here all s = record {
  on = s.on;
  begun = s.begun;
  reached = s.reached;
  sound = s.sound;
  closed = closed;
}
  where
    closed : (i : ℕ) (q : NumberedVertex) (k : ℕ) → slice_get found.vertices i ≡ Some q → ((i < turn + 1) × GoesOnBy g q k) ⊎ ((i ≡ turn + 1) × Contains [] k) → IsFollowedThere g found i q k
    closed i q k e (inr c) = absurd (contains-none k c.1)
    closed i q k e (inl c) = by (below_or_at turn i c.0)
      where
        by : (i < turn) ⊎ (i ≡ turn) → IsFollowedThere g found i q k
        by (inl lt) = s.closed i q k e (inl (lt, c.1))
        by (inr same) =
            let vertex : q ≡ p = some-same (sym e ∙ ap (slice_get found.vertices) same ∙ here) in
            s.closed i q k e (inr (same, subst (λ l. Contains l k) (ap (λ x. follower_numbers g.followers x.symbol) vertex ∙ sym all) c.1))

pub finished : (g : Ground) (starts : List NumberedVertex) (found : Found) (turn : ℕ) → length found.vertices ≤ turn → IsFinding g starts found turn [] → IsFinding g starts found (length found.vertices) []
finished g starts found turn past s = record {
  on = s.on;
  begun = s.begun;
  reached = s.reached;
  sound = s.sound;
  closed = closed;
}
  where
    closed : (i : ℕ) (q : NumberedVertex) (k : ℕ) → slice_get found.vertices i ≡ Some q → ((i < length found.vertices) × GoesOnBy g q k) ⊎ ((i ≡ length found.vertices) × Contains [] k) → IsFollowedThere g found i q k
    closed i q k e (inr c) = absurd (contains-none k c.1)
    closed i q k e (inl c) = let lt = c.0 in s.closed i q k e (inl (omega (arith, lt, past), c.1))

-- what can be reached was found
pub reach-all : (g : Ground) (starts : List NumberedVertex) (found : Found) → IsFinding g starts found (length found.vertices) [] → (q : NumberedVertex) → IsReachable g starts q → Contains found.vertices q
reach-all g starts found s q h = by h.0 h.2.0 (s.begun h.0 h.1) h.2.1
  where
    by : (p : NumberedVertex) (ks : List ℕ) → Contains found.vertices p → PassesTo g p ks q → Contains found.vertices q
    by p [] c e = subst (Contains found.vertices) e c
    by p (k ∷ ks) c e =
        let place = contains-get found.vertices p c in
        let next = s.closed place.0 p k place.1 (inl (get-below found.vertices place.0 p place.1, e.0)) in
        by (next_of g p k) ks (get-contains found.vertices next.0 (next_of g p k) next.1) e.1

-- what is put among others joins them
pub put-joins : (p : NumberedVertex) (place : ℕ) (old new : List NumberedVertex) → IsPut p place old new → (q : NumberedVertex) → Contains new q ↔ (Contains old q ⊎ (q ≡ p))
put-joins p place old new h q = (to h.1, from h.1)
  where
    to : (new ≡ old) ⊎ (new ≡ old ++ p ∷ []) → Contains new q → Contains old q ⊎ (q ≡ p)
    to (inl same) c = inl (subst (λ l. Contains l q) same c)
    to (inr more) c = contains-snoc old p q (subst (λ l. Contains l q) more c)

    from : (new ≡ old) ⊎ (new ≡ old ++ p ∷ []) → Contains old q ⊎ (q ≡ p) → Contains new q
    from how (inr e) = subst (Contains new) (sym e) (get-contains new place p h.0)
    from (inl same) (inl c) = subst (λ l. Contains l q) (sym same) c
    from (inr more) (inl c) = subst (λ l. Contains l q) (sym more) (contains-left old (p ∷ []) q c)

-- the same list has one element more
pub put-next : (p : NumberedVertex) (place : ℕ) (old new done next : List NumberedVertex) → ((q : NumberedVertex) → Contains old q ↔ Contains done q) → IsPut p place old new → next ≡ done ++ p ∷ [] → (q : NumberedVertex) → Contains new q ↔ Contains next q
put-next p place old new done then same h e q = (λ c. subst (λ l. Contains l q) (sym e) (to ((put-joins p place old new h q).0 c)), λ c. from (contains-snoc done p q (subst (λ l. Contains l q) e c)))
  where
    to : Contains old q ⊎ (q ≡ p) → Contains (done ++ p ∷ []) q
    to (inl c) = contains-left done (p ∷ []) q ((same q).0 c)
    to (inr at) = subst (Contains (done ++ p ∷ [])) (sym at) (contains-last done p)

    from : Contains done q ⊎ (q ≡ p) → Contains new q
    from (inl c) = (put-joins p place old new h q).1 (inl ((same q).1 c))
    from (inr at) = (put-joins p place old new h q).1 (inr at)

pub put-keeps : (p : NumberedVertex) (place : ℕ) (old new : List NumberedVertex) → IsPut p place old new → (i : ℕ) (q : NumberedVertex) → slice_get old i ≡ Some q → slice_get new i ≡ Some q
put-keeps p place old new h i q e = by h.1
  where
    by : (new ≡ old) ⊎ (new ≡ old ++ p ∷ []) → slice_get new i ≡ Some q
    by (inl same) = ap (λ l. slice_get l i) same ∙ e
    by (inr more) = ap (λ l. slice_get l i) more ∙ get-more old (p ∷ []) i q e
