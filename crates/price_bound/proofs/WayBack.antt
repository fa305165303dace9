-- The way back from a vertex is one list of edges, and comes to no vertex twice.
use Rattle.std.proofs.Common.{◌≡◌, ℕ, ◌<◌, List, [], ◌∷◌, ◌++◌, length, reverse, Option, None, Some, slice_get, refl, sym, ◌∙◌, ap, subst, arith}
use Rattle.std.proofs.lemmas.Grind.{reverse_onto}
use Rattle.graph_search.specs.declared.graph.Edge.{Edge}
use Rattle.graph_search.specs.Graphs.{known_at, GoesBack}
use Rattle.graph_search.proofs.Places.{some-same, none-some, known-below}

pub reverse-cons : {X : Type 0} (x : X) (xs : List X) → reverse (x ∷ xs) ≡ reverse xs ++ x ∷ []
reverse-cons x xs = reverse_onto xs x []

module _ (edges : List Edge) (before : List (Option ℕ)) (source : ℕ) where
  -- from a vertex there is one way back
  pub one-way : (ks js : List ℕ) (v : ℕ) → GoesBack edges before source ks v → GoesBack edges before source js v → ks ≡ js
  one-way [] [] v g h = refl
  one-way [] (j ∷ js) v g h = absurd (none-some (sym g.1 ∙ h.1))
  one-way (k ∷ ks) [] v g h = absurd (none-some (sym h.1 ∙ g.1))
  one-way (k ∷ ks) (j ∷ js) v g h =
      let same : k ≡ j = some-same (sym g.1 ∙ h.1) in
      let edge : g.0 ≡ h.0 = some-same (sym g.2 ∙ ap (slice_get edges) same ∙ h.2) in
      let rest : GoesBack edges before source js g.0.from = subst (λ (e : Edge). GoesBack edges before source js e.from) (sym edge) h.4 in
      ap (λ x. x ∷ ks) same ∙ ap (λ xs. j ∷ xs) (one-way ks js g.0.from g.4 rest)

  -- where no edge is known the way has ended
  pub ended : (ks : List ℕ) (v : ℕ) → GoesBack edges before source ks v → known_at before v ≡ None → ks ≡ []
  ended [] v g e = refl
  ended (k ∷ ks) v g e = absurd (none-some (sym e ∙ g.1))

  -- where an edge is known the way goes on over it
  pub record GoesOn (rest : List ℕ) (k : ℕ) : Type 0 where
    pub ks : List ℕ
    pub is : rest ≡ k ∷ ks
    pub e : Edge
    pub stands : slice_get edges k ≡ Some e
    pub goes : GoesBack edges before source ks e.from

  pub next-step : (rest : List ℕ) (v k : ℕ) → GoesBack edges before source rest v → known_at before v ≡ Some k → GoesOn rest k
  next-step [] v k g h = absurd (none-some (sym g.1 ∙ h))
  next-step (j ∷ ks) v k g h =
      let same : j ≡ k = some-same (sym g.1 ∙ h) in
      record { ks = ks; is = ap (λ i. i ∷ ks) same; e = g.0; stands = ap (slice_get edges) (sym same) ∙ g.2; goes = g.4 }

  pub goes-within : (rest : List ℕ) (v : ℕ) → source < length before → GoesBack edges before source rest v → v < length before
  goes-within [] v h g = let e = g.0 in omega arith
  goes-within (k ∷ ks) v h g = known-below before v k g.1
