-- The edges of a product, vertex by vertex.
use Rattle.std.proofs.Common.{◌≡◌, ◌≢◌, ◌<◌, ◌≤◌, ◌⊎◌, inl, inr, ◌+◌, ℕ, Bool, true, false, nat_le, List, [], ◌∷◌, ◌++◌, length, get_or, slice_get, Contains, Option, Some, None, append_assoc, cond, refl, sym, ◌∙◌, ap, subst, arith}
use Rattle.merlin_model.specs.Networks.{AreDifferent}
use Rattle.path_automaton.specs.Automata.{AutomatonTables, step}
use Rattle.rules_model.specs.Products.{IsEdgeBefore}
use Rattle.product_graph.specs.declared.vertex_set.NumberedVertex.{NumberedVertex}
use Rattle.product_graph.specs.Followers.{follower_numbers}
use Rattle.product_graph.specs.Numbered.{Ground, next_of, GoesOnBy}
use Rattle.product_graph.specs.Joining.{IsJoinedNext, KeepsOrder, IsEdgeBy, AreEdgesBy, IsEdgeOut, AreEdgesOut, AreEdgesBelow, lowered_by, IsLeastBelow}
use Rattle.product_graph.proofs.Lists.{some-same, false-true, below_or_at, lt-or-ge, all-contained, pairwise-get, pairwise-snoc, pairwise-append, get-below, get-contains, contains-none, contains-left, contains-right, contains-either, contains-last, contains-snoc}

-- each element of a list of different ones stands at one place
pub one-place : {X : Type 0} (xs : List X) → AreDifferent xs → (i j : ℕ) (x : X) → slice_get xs i ≡ Some x → slice_get xs j ≡ Some x → i ≡ j
one-place {X} xs different i j x ei ej = by (lt-or-ge i j) (lt-or-ge j i)
  where
    by : (i < j) ⊎ (j ≤ i) → (j < i) ⊎ (i ≤ j) → i ≡ j
    by (inl lt) o = absurd (pairwise-get (λ u v. u ≢ v) xs i j x x different lt ei ej refl)
    by (inr ge) (inl lt) = absurd (pairwise-get (λ u v. u ≢ v) xs j i x x different lt ej ei refl)
    by (inr ge) (inr le) = omega (arith, ge, le)

module _ (g : Ground) (kept : List NumberedVertex) (different : AreDifferent kept) (place : ℕ) (p : NumberedVertex) (here : slice_get kept place ≡ Some p) where
  pub edges-none : AreEdgesBy g kept place p [] []
  edges-none = record { each = λ e. (λ c. absurd (contains-none e c), λ h. absurd (contains-none h.1.0 h.1.1)); ascend = tt }

  module _ (done : List ℕ) (added : List (ℕ × ℕ)) (s : AreEdgesBy g kept place p done added) (k : ℕ) where
    grow : (e : ℕ × ℕ) → IsEdgeBy g kept place p done e → IsEdgeBy g kept place p (done ++ k ∷ []) e
    grow e h = (h.0, (h.1.0, contains-left done (k ∷ []) h.1.0 h.1.1, h.1.2, h.1.3))

    -- the edge was added
    pub edge-with : (all : (d : ℕ) → Contains done d → (d < k) × GoesOnBy g p d) → GoesOnBy g p k → KeepsOrder g kept → (to : ℕ) → slice_get kept to ≡ Some (next_of g p k) → to ≢ place → AreEdgesBy g kept place p (done ++ k ∷ []) (added ++ (place, to) ∷ [])
    edge-with all goes order to at_to other = record {
      each = λ e. (λ c. into e (contains-snoc added (place, to) e c), λ h. from e h.0 h.1.0 (contains-snoc done k h.1.0 h.1.1) h.1.2 h.1.3);
      ascend = pairwise-snoc IsEdgeBefore added (place, to) (all-contained (λ e. IsEdgeBefore e (place, to)) added earlier) s.ascend;
    }
      where
        turns : p ≢ next_of g p k
        turns same = other (one-place kept different to place p (at_to ∙ ap Some (sym same)) here)

        into : (e : ℕ × ℕ) → Contains added e ⊎ (e ≡ (place, to)) → IsEdgeBy g kept place p (done ++ k ∷ []) e
        into e (inl c) = grow e ((s.each e).0 c)
        into e (inr same) = subst (IsEdgeBy g kept place p (done ++ k ∷ [])) (sym same) (refl, (k, contains-last done k, at_to, turns))

        from : (e : ℕ × ℕ) → e.0 ≡ place → (d : ℕ) → Contains done d ⊎ (d ≡ k) → slice_get kept e.1 ≡ Some (next_of g p d) → p ≢ next_of g p d → Contains (added ++ (place, to) ∷ []) e
        from e at_e d (inl c) there turn = contains-left added ((place, to) ∷ []) e ((s.each e).1 (at_e, (d, c, there, turn)))
        from e at_e d (inr same) there turn =
            let end : e.1 ≡ to = one-place kept different e.1 to (next_of g p k) (there ∙ ap (λ m. Some (next_of g p m)) same) at_to in
            subst (Contains (added ++ (place, to) ∷ [])) (λ i. (sym at_e i, sym end i)) (contains-last added (place, to))

        earlier : (e : ℕ × ℕ) → Contains added e → IsEdgeBefore e (place, to)
        earlier e c =
            let h = (s.each e).0 c in
            let old = all h.1.0 h.1.1 in
            inr (h.0, order p h.1.0 k e.1 to old.1 goes old.0 h.1.2 at_to)

    -- no edge was added
    pub edge-without : (¬ Contains kept (next_of g p k)) ⊎ (slice_get kept place ≡ Some (next_of g p k)) → AreEdgesBy g kept place p (done ++ k ∷ []) added
    edge-without why = record {
      each = λ e. (λ c. grow e ((s.each e).0 c), λ h. from e h.0 h.1.0 (contains-snoc done k h.1.0 h.1.1) h.1.2 h.1.3);
      ascend = s.ascend;
    }
      where
        never : (e : ℕ × ℕ) → slice_get kept e.1 ≡ Some (next_of g p k) → p ≢ next_of g p k → (¬ Contains kept (next_of g p k)) ⊎ (slice_get kept place ≡ Some (next_of g p k)) → ⊥
        never e there turn (inl not) = not (get-contains kept e.1 (next_of g p k) there)
        never e there turn (inr same) = turn (some-same (sym here ∙ same))

        from : (e : ℕ × ℕ) → e.0 ≡ place → (d : ℕ) → Contains done d ⊎ (d ≡ k) → slice_get kept e.1 ≡ Some (next_of g p d) → p ≢ next_of g p d → Contains added e
        from e at_e d (inl c) there turn = (s.each e).1 (at_e, (d, c, there, turn))
        from e at_e d (inr same) there turn = absurd (never e (there ∙ ap (λ m. Some (next_of g p m)) same) (subst (λ m. p ≢ next_of g p m) same turn) why)

    -- one step
    pub edge-next : (all : (d : ℕ) → Contains done d → (d < k) × GoesOnBy g p d) → GoesOnBy g p k → KeepsOrder g kept → (old base new : List (ℕ × ℕ)) → old ≡ base ++ added → IsJoinedNext kept place (next_of g p k) old new →
        (more : List (ℕ × ℕ)) × (new ≡ base ++ more) × AreEdgesBy g kept place p (done ++ k ∷ []) more
    edge-next all goes order old base new is (inl h) = (added ++ (place, h.0) ∷ [], h.3 ∙ ap (λ l. l ++ (place, h.0) ∷ []) is ∙ append_assoc base added ((place, h.0) ∷ []), edge-with all goes order h.0 h.1 h.2)
    edge-next all goes order old base new is (inr h) = (added, h.0 ∙ is, edge-without h.1)

-- the edge to the end
module _ (g : Ground) (kept : List NumberedVertex) (lasts : List Bool) (place : ℕ) (p : NumberedVertex) (here : slice_get kept place ≡ Some p) (added : List (ℕ × ℕ)) (s : AreEdgesBy g kept place p (follower_numbers g.followers p.symbol) added) where
  out-old : (e : ℕ × ℕ) → Contains added e → IsEdgeOut g kept lasts place e
  out-old e c = inl (p, here, (s.each e).0 c)

  by-out : (e : ℕ × ℕ) → (q : NumberedVertex) → slice_get kept place ≡ Some q → IsEdgeBy g kept place q (follower_numbers g.followers q.symbol) e → Contains added e
  by-out e q at_q h = (s.each e).1 (subst (λ x. IsEdgeBy g kept place x (follower_numbers g.followers x.symbol) e) (some-same (sym at_q ∙ here)) h)

  pub out-with : get_or lasts place false ≡ true → AreEdgesOut g kept lasts place (added ++ (place, length kept) ∷ [])
  out-with last = record {
    each = λ e. (λ c. to e (contains-snoc added (place, length kept) e c), from e);
    ascend = pairwise-snoc IsEdgeBefore added (place, length kept) (all-contained (λ e. IsEdgeBefore e (place, length kept)) added (λ e c. let h = (s.each e).0 c in inr (h.0, get-below kept e.1 (next_of g p h.1.0) h.1.2))) s.ascend;
  }
    where
      to : (e : ℕ × ℕ) → Contains added e ⊎ (e ≡ (place, length kept)) → IsEdgeOut g kept lasts place e
      to e (inl c) = out-old e c
      to e (inr same) = subst (IsEdgeOut g kept lasts place) (sym same) (inr (refl, refl, last))

      from : (e : ℕ × ℕ) → IsEdgeOut g kept lasts place e → Contains (added ++ (place, length kept) ∷ []) e
      from e (inl h) = contains-left added ((place, length kept) ∷ []) e (by-out e h.0 h.1 h.2)
      from e (inr h) = let a : e.0 ≡ place = h.0 in let b : e.1 ≡ length kept = h.1 in subst (Contains (added ++ (place, length kept) ∷ [])) (λ i. (sym a i, sym b i)) (contains-last added (place, length kept))

  pub out-without : get_or lasts place false ≡ false → AreEdgesOut g kept lasts place added
  out-without last = record { each = λ e. (out-old e, from e); ascend = s.ascend }
    where
      from : (e : ℕ × ℕ) → IsEdgeOut g kept lasts place e → Contains added e
      from e (inl h) = by-out e h.0 h.1 h.2
      from e (inr h) = absurd (false-true (sym last ∙ h.2))

-- where an edge from a place leads away it does so from that place
out-place : (g : Ground) (kept : List NumberedVertex) (lasts : List Bool) (place : ℕ) (e : ℕ × ℕ) → IsEdgeOut g kept lasts place e → e.0 ≡ place
out-place g kept lasts place e (inl h) = h.2.0
out-place g kept lasts place e (inr h) = h.0

module _ (g : Ground) (kept : List NumberedVertex) (lasts : List Bool) where
  pub below-none : AreEdgesBelow g kept lasts 0 []
  below-none = record { each = λ e. (λ c. absurd (contains-none e c), λ h. let lt : e.0 < 0 = h.0 in absurd (omega (arith, lt))); ascend = tt }

  pub below-next : (n : ℕ) (edges added : List (ℕ × ℕ)) → AreEdgesBelow g kept lasts n edges → AreEdgesOut g kept lasts n added → AreEdgesBelow g kept lasts (n + 1) (edges ++ added)
  below-next n edges added s a = record {
    each = λ e. (λ c. to e (contains-either edges added e c), λ h. from e h.1 (below_or_at n e.0 h.0));
    ascend = pairwise-append IsEdgeBefore edges added s.ascend a.ascend (λ e f ce cf. let lt : e.0 < n = ((s.each e).0 ce).0 in let same : f.0 ≡ n = out-place g kept lasts n f ((a.each f).0 cf) in inl (omega (arith, lt, same)));
  }
    where
      to : (e : ℕ × ℕ) → Contains edges e ⊎ Contains added e → (e.0 < n + 1) × IsEdgeOut g kept lasts e.0 e
      to e (inl c) = let old = (s.each e).0 c in let lt : e.0 < n = old.0 in (omega (arith, lt), old.1)
      to e (inr c) = let h = (a.each e).0 c in let same : e.0 ≡ n = out-place g kept lasts n e h in (omega (arith, same), subst (λ m. IsEdgeOut g kept lasts m e) (sym same) h)

      from : (e : ℕ × ℕ) → IsEdgeOut g kept lasts e.0 e → (e.0 < n) ⊎ (e.0 ≡ n) → Contains (edges ++ added) e
      from e h (inl lt) = contains-left edges added e ((s.each e).1 (lt, h))
      from e h (inr same) = contains-right edges added e ((a.each e).1 (subst (λ m. IsEdgeOut g kept lasts m e) same h))

-- The least state in which the end is entered.
module _ (t : AutomatonTables) (symbol : ℕ) (vertices : List NumberedVertex) (lasts : List Bool) where
  pub least-none : IsLeastBelow t symbol vertices lasts 0 None
  least-none = λ i lt last. omega (arith, lt)

  pub least-next : (n : ℕ) (p : NumberedVertex) → slice_get vertices n ≡ Some p → (known : Option ℕ) → IsLeastBelow t symbol vertices lasts n known → (b : Bool) → get_or lasts n false ≡ b → IsLeastBelow t symbol vertices lasts (n + 1) (lowered_by known b (step t p.state symbol))
  least-next n p here None s false e = λ i lt last. by i last (below_or_at n i lt)
    where
      by : (i : ℕ) → get_or lasts i false ≡ true → (i < n) ⊎ (i ≡ n) → ⊥
      by i last (inl l) = s i l last
      by i last (inr same) = false-true (sym e ∙ ap (λ m. get_or lasts m false) (sym same) ∙ last)
  least-next n p here (Some q) s false e = (
    let lt = s.0.1 in (s.0.0, omega (arith, lt), s.0.2, s.0.3),
    λ i x lt last at_i. by i x last at_i (below_or_at n i lt),
  )
    where
      by : (i : ℕ) (x : NumberedVertex) → get_or lasts i false ≡ true → slice_get vertices i ≡ Some x → (i < n) ⊎ (i ≡ n) → q ≤ step t x.state symbol
      by i x last at_i (inl l) = s.1 i x l last at_i
      by i x last at_i (inr same) = absurd (false-true (sym e ∙ ap (λ m. get_or lasts m false) (sym same) ∙ last))
  least-next n p here None s true e = (
    (n, omega arith, e, (p, here, refl)),
    λ i x lt last at_i. by i x last at_i (below_or_at n i lt),
  )
    where
      by : (i : ℕ) (x : NumberedVertex) → get_or lasts i false ≡ true → slice_get vertices i ≡ Some x → (i < n) ⊎ (i ≡ n) → step t p.state symbol ≤ step t x.state symbol
      by i x last at_i (inl l) = absurd (s i l last)
      by i x last at_i (inr same) = let vertex : p ≡ x = some-same (sym here ∙ ap (slice_get vertices) (sym same) ∙ at_i) in let equal : step t p.state symbol ≡ step t x.state symbol = ap (λ y. step t y.state symbol) vertex in omega (arith, equal)
  least-next n p here (Some q) s true e = choose (nat_le q (step t p.state symbol)) refl
    where
      here-le : (m : ℕ) → m ≤ step t p.state symbol → (i : ℕ) (x : NumberedVertex) → slice_get vertices i ≡ Some x → i ≡ n → m ≤ step t x.state symbol
      here-le m le i x at_i same = let vertex : p ≡ x = some-same (sym here ∙ ap (slice_get vertices) (sym same) ∙ at_i) in subst (λ y. m ≤ step t y.state symbol) vertex le

      choose : (b : Bool) → nat_le q (step t p.state symbol) ≡ b → IsLeastBelow t symbol vertices lasts (n + 1) (cond b (Some q) (Some (step t p.state symbol)))
      choose true le = (
        let lt = s.0.1 in (s.0.0, omega (arith, lt), s.0.2, s.0.3),
        λ i x lt last at_i. by i x last at_i (below_or_at n i lt),
      )
        where
          by : (i : ℕ) (x : NumberedVertex) → get_or lasts i false ≡ true → slice_get vertices i ≡ Some x → (i < n) ⊎ (i ≡ n) → q ≤ step t x.state symbol
          by i x last at_i (inl l) = s.1 i x l last at_i
          by i x last at_i (inr same) = here-le q (grind arith) i x at_i same
      choose false gt = (
        (n, omega arith, e, (p, here, refl)),
        λ i x lt last at_i. by i x last at_i (below_or_at n i lt),
      )
        where
          less : step t p.state symbol ≤ q
          less = grind arith

          by : (i : ℕ) (x : NumberedVertex) → get_or lasts i false ≡ true → slice_get vertices i ≡ Some x → (i < n) ⊎ (i ≡ n) → step t p.state symbol ≤ step t x.state symbol
          by i x last at_i (inl l) = let le = s.1 i x l last at_i in let down = less in omega (arith, le, down)
          by i x last at_i (inr same) = here-le (step t p.state symbol) (omega arith) i x at_i same
