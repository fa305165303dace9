-- From a place the vertices lead on to the end: one way, and past no place twice.
use Rattle.std.proofs.Common.{◌≡◌, ℕ, suc, ◌<◌, ◌≤◌, ◌==◌, Bool, true, false, ◌||◌, List, [], ◌∷◌, length, Option, None, Some, option_map, slice_get, refl, sym, ◌∙◌, ap, ap₂, subst, arith}
use Rattle.std.proofs.lemmas.Bool.{eqb-true, eq-eqb}
use Rattle.std.proofs.lemmas.Option.{slice_get_within}
use Rattle.std.proofs.lemmas.Map.Steps.{length-le_from_distinct_below}
use Rattle.std.specs.List.{AllByRecursion, IsDistinct, list_any}
use Rattle.rules_model.specs.Products.{Vertex}
use Rattle.rule_tables.specs.declared.branches.Step.{Step}
use Rattle.rule_tables.specs.Branches.{vertex_at, next_step_at, LeadsOn}

pub some-same : {X : Type 0} {a b : X} → Some a ≡ Some b → a ≡ b
some-same e = cc

pub none-some : {X : Type 0} {a : X} → None ≡ Some a → ⊥
none-some e = cc

module _ (steps : List Step) where
  -- what follows a place is one list
  pub leads-one : (k : ℕ) (us vs : List Vertex) → LeadsOn steps k us → LeadsOn steps k vs → us ≡ vs
  leads-one k [] [] h j = refl
  leads-one k [] (v ∷ vs) h j = absurd (none-some (some-same (sym h ∙ j.1)))
  leads-one k (u ∷ us) [] h j = absurd (none-some (some-same (sym j ∙ h.1)))
  leads-one k (u ∷ us) (v ∷ vs) h j =
      let place : h.0 ≡ j.0 = some-same (some-same (sym h.1 ∙ j.1)) in
      ap₂ (λ x xs. x ∷ xs) (some-same (sym h.2 ∙ ap (vertex_at steps) place ∙ j.2))
      (leads-one j.0 us vs (subst (λ p. LeadsOn steps p us) place h.3) j.3)

  -- the places that are passed
  abbrev pub passed : (k : ℕ) (us : List Vertex) → LeadsOn steps k us → List ℕ
  passed k [] h = k ∷ []
  passed k (u ∷ us) h = k ∷ passed h.0 us h.3

  pub length-passed : (k : ℕ) (us : List Vertex) (h : LeadsOn steps k us) → length (passed k us h) ≡ suc (length us)
  length-passed k [] h = refl
  length-passed k (u ∷ us) h = ap suc (length-passed h.0 us h.3)

  next-within : (k : ℕ) (n : Option ℕ) → next_step_at steps k ≡ Some n → k < length steps
  next-within k n e = by (slice_get steps k) refl e
    where
      by : (o : Option Step) → slice_get steps k ≡ o → option_map (λ step. step.next) o ≡ Some n → k < length steps
      by None here h = absurd (none-some h)
      by (Some step) here h = slice_get_within steps k step here

  leads-within : (k : ℕ) (us : List Vertex) → LeadsOn steps k us → k < length steps
  leads-within k [] h = next-within k None h
  leads-within k (u ∷ us) h = next-within k (Some h.0) h.1

  -- from each of them no more follows than from the first
  passed-shorter : (k : ℕ) (us : List Vertex) (h : LeadsOn steps k us) (q : ℕ) → list_any (λ x. q == x) (passed k us h) ≡ true → (vs : List Vertex) × LeadsOn steps q vs × (length vs ≤ length us)
  passed-shorter k [] h q e = by (q == k) refl e
    where
      by : (b : Bool) → (q == k) ≡ b → (b || false) ≡ true → (vs : List Vertex) × LeadsOn steps q vs × (length vs ≤ 0)
      by true s t = ([], subst (λ p. LeadsOn steps p []) (sym (eqb-true q k s)) h, omega arith)
      by false s t = absurd (apart t)
        where
          apart : false ≡ true → ⊥
          apart x = cc
  passed-shorter k (u ∷ us) h q e = by (q == k) refl e (passed-shorter h.0 us h.3 q)
    where
      by : (b : Bool) → (q == k) ≡ b → (b || list_any (λ x. q == x) (passed h.0 us h.3)) ≡ true →
          (list_any (λ x. q == x) (passed h.0 us h.3) ≡ true → (vs : List Vertex) × LeadsOn steps q vs × (length vs ≤ length us)) → (vs : List Vertex) × LeadsOn steps q vs × (length vs ≤ suc (length us))
      by true s t ih = (u ∷ us, subst (λ p. LeadsOn steps p (u ∷ us)) (sym (eqb-true q k s)) h, omega arith)
      by false s t ih = let m = ih t in let le = m.2 in (m.0, m.1, omega arith)

  not-passed : (k : ℕ) (u : Vertex) (us : List Vertex) (h : LeadsOn steps k (u ∷ us)) (q : ℕ) → list_any (λ x. q == x) (passed h.0 us h.3) ≡ true → (k == q) ≡ false
  not-passed k u us h q e = by (k == q) refl
    where
      by : (b : Bool) → (k == q) ≡ b → b ≡ false
      by false s = refl
      by true s =
          let m = passed-shorter h.0 us h.3 q e in
          let same : m.0 ≡ u ∷ us = leads-one k m.0 (u ∷ us) (subst (λ p. LeadsOn steps p m.0) (sym (eqb-true k q s)) m.1) h in
          let long : length m.0 ≡ suc (length us) = ap length same in
          let le = m.2 in
          let no_way : ⊥ = omega arith in
          absurd no_way

  others : (k : ℕ) (xs : List ℕ) → ((q : ℕ) → list_any (λ x. q == x) xs ≡ true → (k == q) ≡ false) → AllByRecursion (λ y. (k == y) ≡ false) xs
  others k [] h = tt
  others k (x ∷ xs) h = (h x (ap (λ b. b || list_any (λ y. x == y) xs) (eq-eqb x x refl)), others k xs (λ q e. h q (or-right (q == x) _ e)))
    where
      or-right : (a b : Bool) → b ≡ true → (a || b) ≡ true
      or-right true b e = refl
      or-right false b e = e

  passed-distinct : (k : ℕ) (us : List Vertex) (h : LeadsOn steps k us) → IsDistinct (λ a b. a == b) (passed k us h)
  unfolding IsDistinct
  passed-distinct k [] h = (tt, tt)
  passed-distinct k (u ∷ us) h = (others k (passed h.0 us h.3) (not-passed k u us h), passed-distinct h.0 us h.3)

  -- so fewer vertices follow than there are places
  pub leads-short : (k : ℕ) (us : List Vertex) → LeadsOn steps k us → length us < length steps
  leads-short k us h =
      let few : length (passed k us h) ≤ length steps = length-le_from_distinct_below (passed k us h) (length steps) (passed-distinct k us h) below in
      let long = length-passed k us h in
      omega arith
    where
      below : (q : ℕ) → list_any (λ x. q == x) (passed k us h) ≡ true → q < length steps
      below q e = let m = passed-shorter k us h q e in leads-within q m.0 m.1
