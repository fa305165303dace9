-- The edges by the vertices that they leave, one edge more.
use Rattle.std.proofs.Common.{◌≡◌, ◌≢◌, ◌<◌, ◌+◌, ◌⊎◌, inl, inr, ℕ, suc, zero, List, [], ◌∷◌, ◌++◌, length, get_or, set, slice_get, replicate, Option, None, Some, refl, sym, ◌∙◌, ap, subst, arith}
use Rattle.std.proofs.lemmas.List.{length-set, get_or_append_left, get_or_push}
use Rattle.graph_search.specs.declared.graph.Edge.{Edge}
use Rattle.graph_search.specs.Graphs.{known_at}
use Rattle.graph_search.specs.Departures.{Leaves, IsLastToLeave, AreDepartures}
use Rattle.graph_search.proofs.Places.{some-same, same-or-not, set-here, set-there}

length-more : {X : Type 0} (xs : List X) (x : X) → length (xs ++ x ∷ []) ≡ length xs + 1
length-more [] x = refl
length-more (y ∷ xs) x = let more = length-more xs x in omega (arith, more)

-- no edge at the bound leaves the vertex
not-at : (edges : List Edge) (v k : ℕ) (e : Edge) → slice_get edges k ≡ Some e → e.from ≢ v → (j : ℕ) → j ≡ k → ¬ Leaves edges v j
not-at edges v k e at other j same leaves = other (ap (λ x. x.from) (some-same (sym at ∙ ap (slice_get edges) (sym same) ∙ leaves.1)) ∙ leaves.2)

last-kept : (edges : List Edge) (v k : ℕ) (e : Edge) → slice_get edges k ≡ Some e → e.from ≢ v → (o : Option ℕ) → IsLastToLeave edges v k o → IsLastToLeave edges v (k + 1) o
last-kept edges v k e at other None h = λ j lt. by j lt (same-or-not j k)
  where
    by : (j : ℕ) → j < k + 1 → (j ≡ k) ⊎ (j ≢ k) → ¬ Leaves edges v j
    by j lt (inl same) = not-at edges v k e at other j same
    by j lt (inr ne) = h j (omega (arith, lt, ne))
last-kept edges v k e at other (Some i) h = (let lt = h.0 in omega (arith, lt), h.1, λ j above lt. by j above lt (same-or-not j k))
  where
    by : (j : ℕ) → i < j → j < k + 1 → (j ≡ k) ⊎ (j ≢ k) → ¬ Leaves edges v j
    by j above lt (inl same) = not-at edges v k e at other j same
    by j above lt (inr ne) = h.2 j above (omega (arith, lt, ne))

last-new : (edges : List Edge) (v k : ℕ) (e : Edge) → slice_get edges k ≡ Some e → e.from ≡ v → IsLastToLeave edges v (k + 1) (Some k)
last-new edges v k e at from = (omega arith, (e, at, from), λ j above lt leaves. omega (arith, above, lt))

pub departs : (n : ℕ) (edges : List Edge) (k : ℕ) (e : Edge) (last previous : List (Option ℕ)) → slice_get edges k ≡ Some e → e.from < n → AreDepartures n edges k (record { last = last; previous = previous }) →
    AreDepartures n edges (k + 1) (record { last = set last e.from (Some k); previous = previous ++ get_or last e.from None ∷ [] })
departs n edges k e last previous at lt h = record {
  size = length-set last e.from (Some k) ∙ h.size;
  long = length-more previous (get_or last e.from None) ∙ ap (λ m. m + 1) h.long;
  last = lasts;
  previous = before;
}
  where
    within : e.from < length last
    within = let size = h.size in omega (arith, size, lt)

    lasts : (v : ℕ) → v < n → IsLastToLeave edges v (k + 1) (known_at (set last e.from (Some k)) v)
    lasts v below = by (same-or-not v e.from)
      where
        by : (v ≡ e.from) ⊎ (v ≢ e.from) → IsLastToLeave edges v (k + 1) (known_at (set last e.from (Some k)) v)
        by (inl same) = subst (IsLastToLeave edges v (k + 1)) (sym (set-here last e.from v (Some k) None within same)) (last-new edges v k e at (sym same))
        by (inr other) = subst (IsLastToLeave edges v (k + 1)) (sym (set-there last e.from v (Some k) None other)) (last-kept edges v k e at (λ s. other (sym s)) (known_at last v) (h.last v below))

    before : (j : ℕ) (f : Edge) → j < k + 1 → slice_get edges j ≡ Some f → IsLastToLeave edges f.from j (known_at (previous ++ get_or last e.from None ∷ []) j)
    before j f below at_f = by (same-or-not j k)
      where
        by : (j ≡ k) ⊎ (j ≢ k) → IsLastToLeave edges f.from j (known_at (previous ++ get_or last e.from None ∷ []) j)
        by (inl same) =
            let one : e ≡ f = some-same (sym at ∙ ap (slice_get edges) (sym same) ∙ at_f) in
            let there : known_at (previous ++ get_or last e.from None ∷ []) j ≡ get_or last e.from None = get_or_push previous (get_or last e.from None) None j (h.long ∙ sym same) in
            subst (IsLastToLeave edges f.from j) (sym there) (subst (λ (i : ℕ). IsLastToLeave edges f.from i (known_at last e.from)) (sym same) (subst (λ (x : Edge). IsLastToLeave edges x.from k (known_at last e.from)) one (h.last e.from lt)))
        by (inr ne) =
            let size = h.long in
            let there : known_at (previous ++ get_or last e.from None ∷ []) j ≡ known_at previous j = get_or_append_left previous (get_or last e.from None ∷ []) None j (omega (arith, below, ne, size)) in
            subst (IsLastToLeave edges f.from j) (sym there) (h.previous j f (omega (arith, below, ne)) at_f)

same-nothing : (n v : ℕ) → known_at (replicate n None) v ≡ None
same-nothing zero v = refl
same-nothing (suc n) zero = refl
same-nothing (suc n) (suc v) = same-nothing n v

same-length : (n : ℕ) → length {A = Option ℕ} (replicate n None) ≡ n
same-length zero = refl
same-length (suc n) = ap suc (same-length n)

pub departs-none : (n : ℕ) (edges : List Edge) → AreDepartures n edges 0 (record { last = replicate n None; previous = [] })
departs-none n edges = record {
  size = same-length n;
  long = refl;
  last = λ v lt. subst (IsLastToLeave edges v 0) (sym (same-nothing n v)) (λ k below. absurd (omega (arith, below)));
  previous = λ k e below. absurd (omega (arith, below));
}
