-- The vertices that are kept, in order.
use Rattle.std.proofs.Common.{◌≡◌, ◌<◌, ◌≤◌, ◌⊎◌, ◌↔◌, inl, inr, ◌+◌, ℕ, List, [], ◌∷◌, ◌++◌, length, slice_get, Contains, Some, refl, sym, ◌∙◌, ap, subst, arith}
use Rattle.merlin_model.specs.declared.policy.Symbol.{Symbol}
use Rattle.merlin_model.specs.Networks.{Network}
use Rattle.product_graph.specs.declared.vertex_set.NumberedVertex.{NumberedVertex}
use Rattle.product_graph.specs.declared.leading.Leading.{Leading}
use Rattle.product_graph.specs.Numbered.{IsNumberedBefore}
use Rattle.product_graph.specs.Finding.{JoinsEnd, IsSeenLeading, AreKeptStarts, AreKeptAmong}
use Rattle.product_graph.specs.Ends.{HasSymbolAndBelow, IsSymbolInside, IsInsideBelow}
use Rattle.product_graph.proofs.Lists.{some-same, below_or_at, all-contained, contained-all, pairwise-snoc, pairwise-append, pairwise-last, contains-none, contains-left, contains-right, contains-either, contains-last, contains-snoc, get-below}

module _ (l : Leading) where
  pub starts-none : AreKeptStarts l [] []
  starts-none = record { each = λ p. (λ c. absurd (contains-none p c), λ h. h.0); ascend = λ h. tt }

  module _ (starts kept : List NumberedVertex) (p : NumberedVertex) (s : AreKeptStarts l starts kept) where
    pub start-with : IsSeenLeading l p → AreKeptStarts l (starts ++ p ∷ []) (kept ++ p ∷ [])
    start-with seen = record {
      each = λ q. (λ c. to q (contains-snoc kept p q c), λ h. from q (contains-snoc starts p q h.0) h.1);
      ascend = λ h. let last = pairwise-last IsNumberedBefore starts p h in pairwise-snoc IsNumberedBefore kept p (all-contained (λ q. IsNumberedBefore q p) kept (λ q c. contained-all (λ q. IsNumberedBefore q p) starts q last.1 ((s.each q).0 c).0)) (s.ascend last.0);
    }
      where
        to : (q : NumberedVertex) → Contains kept q ⊎ (q ≡ p) → Contains (starts ++ p ∷ []) q × IsSeenLeading l q
        to q (inl c) = let old = (s.each q).0 c in (contains-left starts (p ∷ []) q old.0, old.1)
        to q (inr e) = (subst (Contains (starts ++ p ∷ [])) (sym e) (contains-last starts p), subst (IsSeenLeading l) (sym e) seen)

        from : (q : NumberedVertex) → Contains starts q ⊎ (q ≡ p) → IsSeenLeading l q → Contains (kept ++ p ∷ []) q
        from q (inl c) h = contains-left kept (p ∷ []) q ((s.each q).1 (c, h))
        from q (inr e) h = subst (Contains (kept ++ p ∷ [])) (sym e) (contains-last kept p)

    pub start-without : (¬ IsSeenLeading l p) → AreKeptStarts l (starts ++ p ∷ []) kept
    start-without not = record {
      each = λ q. (λ c. let old = (s.each q).0 c in (contains-left starts (p ∷ []) q old.0, old.1), λ h. from q (contains-snoc starts p q h.0) h.1);
      ascend = λ h. s.ascend (pairwise-last IsNumberedBefore starts p h).0;
    }
      where
        from : (q : NumberedVertex) → Contains starts q ⊎ (q ≡ p) → IsSeenLeading l q → Contains kept q
        from q (inl c) h = (s.each q).1 (c, h)
        from q (inr e) h = absurd (not (subst (IsSeenLeading l) e h))

  -- the vertices with one symbol, by state

  pub states-none : (k : ℕ) → AreKeptAmong (HasSymbolAndBelow k 0) l []
  states-none k = record { each = λ p. (λ c. absurd (contains-none p c), λ h. let lt : p.state < 0 = h.0.1 in absurd (omega (arith, lt))); ascend = tt }

  module _ (k n : ℕ) (kept : List NumberedVertex) (s : AreKeptAmong (HasSymbolAndBelow k n) l kept) where
    abbrev vertex : NumberedVertex
    vertex = record { symbol = k; state = n }

    wider : (q : NumberedVertex) → HasSymbolAndBelow k n q → HasSymbolAndBelow k (n + 1) q
    wider q h = let lt : q.state < n = h.1 in (h.0, omega (arith, lt))

    narrow : (q : NumberedVertex) → HasSymbolAndBelow k (n + 1) q → HasSymbolAndBelow k n q ⊎ (q ≡ vertex)
    narrow q h = by (below_or_at n q.state h.1)
      where
        by : (q.state < n) ⊎ (q.state ≡ n) → HasSymbolAndBelow k n q ⊎ (q ≡ vertex)
        by (inl lt) = inl (h.0, lt)
        by (inr e) = let symbol : q.symbol ≡ k = h.0 in inr (λ i. record { symbol = symbol i; state = e i })

    pub state-with : IsSeenLeading l vertex → AreKeptAmong (HasSymbolAndBelow k (n + 1)) l (kept ++ vertex ∷ [])
    state-with seen = record {
      each = λ q. (λ c. to q (contains-snoc kept vertex q c), λ h. from q (narrow q h.0) h.1);
      ascend = pairwise-snoc IsNumberedBefore kept vertex (all-contained (λ q. IsNumberedBefore q vertex) kept (λ q c. inr ((s.each q).0 c).0)) s.ascend;
    }
      where
        to : (q : NumberedVertex) → Contains kept q ⊎ (q ≡ vertex) → HasSymbolAndBelow k (n + 1) q × IsSeenLeading l q
        to q (inl c) = let old = (s.each q).0 c in (wider q old.0, old.1)
        to q (inr e) = (subst (HasSymbolAndBelow k (n + 1)) (sym e) (refl, omega arith), subst (IsSeenLeading l) (sym e) seen)

        from : (q : NumberedVertex) → HasSymbolAndBelow k n q ⊎ (q ≡ vertex) → IsSeenLeading l q → Contains (kept ++ vertex ∷ []) q
        from q (inl c) h = contains-left kept (vertex ∷ []) q ((s.each q).1 (c, h))
        from q (inr e) h = subst (Contains (kept ++ vertex ∷ [])) (sym e) (contains-last kept vertex)

    pub state-without : (¬ IsSeenLeading l vertex) → AreKeptAmong (HasSymbolAndBelow k (n + 1)) l kept
    state-without not = record {
      each = λ q. (λ c. let old = (s.each q).0 c in (wider q old.0, old.1), λ h. from q (narrow q h.0) h.1);
      ascend = s.ascend;
    }
      where
        from : (q : NumberedVertex) → HasSymbolAndBelow k n q ⊎ (q ≡ vertex) → IsSeenLeading l q → Contains kept q
        from q (inl c) h = (s.each q).1 (c, h)
        from q (inr e) h = absurd (not (subst (IsSeenLeading l) e h))

  -- the vertices at no host, by symbol and state

  module _ (net : Network) (symbols : List Symbol) (states : ℕ) where
    pub inside-none : AreKeptAmong (IsInsideBelow net symbols states 0) l []
    inside-none = record { each = λ p. (λ c. absurd (contains-none p c), λ h. let lt : p.symbol < 0 = h.0.0 in absurd (omega (arith, lt))); ascend = tt }

    module _ (n : ℕ) (kept : List NumberedVertex) (s : AreKeptAmong (IsInsideBelow net symbols states n) l kept) where
      wider-inside : (q : NumberedVertex) → IsInsideBelow net symbols states n q → IsInsideBelow net symbols states (n + 1) q
      wider-inside q h = let lt : q.symbol < n = h.0 in (omega (arith, lt), h.1, h.2)

      pub inside-with : (added : List NumberedVertex) → AreKeptAmong (HasSymbolAndBelow n states) l added → IsSymbolInside net symbols n → AreKeptAmong (IsInsideBelow net symbols states (n + 1)) l (kept ++ added)
      inside-with added a inside = record {
        each = λ q. (λ c. to q (contains-either kept added q c), λ h. from q h.0 h.1 (below_or_at n q.symbol h.0.0));
        ascend = pairwise-append IsNumberedBefore kept added s.ascend a.ascend (λ x y cx cy. let lt : x.symbol < n = ((s.each x).0 cx).0.0 in let e : y.symbol ≡ n = ((a.each y).0 cy).0.0 in inl (omega (arith, lt, e)));
      }
        where
          to : (q : NumberedVertex) → Contains kept q ⊎ Contains added q → IsInsideBelow net symbols states (n + 1) q × IsSeenLeading l q
          to q (inl c) = let old = (s.each q).0 c in (wider-inside q old.0, old.1)
          to q (inr c) = let old = (a.each q).0 c in let e : q.symbol ≡ n = old.0.0 in ((omega (arith, e), subst (IsSymbolInside net symbols) (sym e) inside, old.0.1), old.1)

          from : (q : NumberedVertex) → IsInsideBelow net symbols states (n + 1) q → IsSeenLeading l q → (q.symbol < n) ⊎ (q.symbol ≡ n) → Contains (kept ++ added) q
          from q h seen (inl lt) = contains-left kept added q ((s.each q).1 ((lt, h.1, h.2), seen))
          from q h seen (inr e) = contains-right kept added q ((a.each q).1 ((e, h.2), seen))

      pub inside-without : (¬ IsSymbolInside net symbols n) → AreKeptAmong (IsInsideBelow net symbols states (n + 1)) l kept
      inside-without not = record {
        each = λ q. (λ c. let old = (s.each q).0 c in (wider-inside q old.0, old.1), λ h. from q h.0 h.1 (below_or_at n q.symbol h.0.0));
        ascend = s.ascend;
      }
        where
          from : (q : NumberedVertex) → IsInsideBelow net symbols states (n + 1) q → IsSeenLeading l q → (q.symbol < n) ⊎ (q.symbol ≡ n) → Contains kept q
          from q h seen (inl lt) = (s.each q).1 ((lt, h.1, h.2), seen)
          from q h seen (inr e) = absurd (not (subst (IsSymbolInside net symbols) e h.1))

-- edges to the end, vertex by vertex
abbrev pub JoinsEndBelow : (NumberedVertex → Type 0) → List NumberedVertex → ℕ → ℕ × ℕ → Type 0
JoinsEndBelow P vertices bound e = (e.0 < bound) × JoinsEnd P vertices e

module _ (P : NumberedVertex → Type 0) (vertices : List NumberedVertex) (old edges : List (ℕ × ℕ)) (n : ℕ) (p : NumberedVertex) (here : slice_get vertices n ≡ Some p)
    (s : (e : ℕ × ℕ) → Contains edges e ↔ (Contains old e ⊎ JoinsEndBelow P vertices n e)) where
  grow : (e : ℕ × ℕ) → Contains old e ⊎ JoinsEndBelow P vertices n e → Contains old e ⊎ JoinsEndBelow P vertices (n + 1) e
  grow e (inl c) = inl c
  grow e (inr j) = let lt = j.0 in inr (omega (arith, lt), j.1)

  pub end-with : P p → (e : ℕ × ℕ) → Contains (edges ++ (n, length vertices) ∷ []) e ↔ (Contains old e ⊎ JoinsEndBelow P vertices (n + 1) e)
  end-with holds e = (λ c. to (contains-snoc edges (n, length vertices) e c), from)
    where
      to : Contains edges e ⊎ (e ≡ (n, length vertices)) → Contains old e ⊎ JoinsEndBelow P vertices (n + 1) e
      to (inl c) = grow e ((s e).0 c)
      to (inr same) = inr (subst (JoinsEndBelow P vertices (n + 1)) (sym same) (omega arith, (refl, (p, here, holds))))

      from : Contains old e ⊎ JoinsEndBelow P vertices (n + 1) e → Contains (edges ++ (n, length vertices) ∷ []) e
      from (inl c) = contains-left edges ((n, length vertices) ∷ []) e ((s e).1 (inl c))
      from (inr j) = by (below_or_at n e.0 j.0)
        where
          by : (e.0 < n) ⊎ (e.0 ≡ n) → Contains (edges ++ (n, length vertices) ∷ []) e
          by (inl lt) = contains-left edges ((n, length vertices) ∷ []) e ((s e).1 (inr (lt, j.1)))
          by (inr at) = let to : e.1 ≡ length vertices = j.1.0 in subst (Contains (edges ++ (n, length vertices) ∷ [])) (λ i. (sym at i, sym to i)) (contains-last edges (n, length vertices))

  pub end-without : (¬ P p) → (e : ℕ × ℕ) → Contains edges e ↔ (Contains old e ⊎ JoinsEndBelow P vertices (n + 1) e)
  end-without not e = (λ c. grow e ((s e).0 c), from)
    where
      from : Contains old e ⊎ JoinsEndBelow P vertices (n + 1) e → Contains edges e
      from (inl c) = (s e).1 (inl c)
      from (inr j) = by (below_or_at n e.0 j.0)
        where
          by : (e.0 < n) ⊎ (e.0 ≡ n) → Contains edges e
          by (inl lt) = (s e).1 (inr (lt, j.1))
          by (inr at) = absurd (not (subst P (some-same (sym j.1.1.1 ∙ ap (slice_get vertices) at ∙ here)) j.1.1.2))

pub ends-none : (P : NumberedVertex → Type 0) (vertices : List NumberedVertex) (old : List (ℕ × ℕ)) (e : ℕ × ℕ) → Contains old e ↔ (Contains old e ⊎ JoinsEndBelow P vertices 0 e)
ends-none P vertices old e = (λ c. inl c, by)
  where
    by : Contains old e ⊎ JoinsEndBelow P vertices 0 e → Contains old e
    by (inl c) = c
    by (inr j) = let lt = j.0 in absurd (omega (arith, lt))

pub ends-all-from : (P : NumberedVertex → Type 0) (vertices : List NumberedVertex) (old edges : List (ℕ × ℕ)) (n : ℕ) → length vertices ≤ n → ((e : ℕ × ℕ) → Contains edges e ↔ (Contains old e ⊎ JoinsEndBelow P vertices n e)) → (e : ℕ × ℕ) → Contains edges e ↔ (Contains old e ⊎ JoinsEnd P vertices e)
ends-all-from P vertices old edges n past s e = (λ c. to ((s e).0 c), λ h. (s e).1 (from h))
  where
    to : Contains old e ⊎ JoinsEndBelow P vertices n e → Contains old e ⊎ JoinsEnd P vertices e
    to (inl c) = inl c
    to (inr j) = inr j.1

    from : Contains old e ⊎ JoinsEnd P vertices e → Contains old e ⊎ JoinsEndBelow P vertices n e
    from (inl c) = inl c
    from (inr j) = let lt = get-below vertices e.0 j.1.0 j.1.1 in inr (omega (arith, lt, past), j)
