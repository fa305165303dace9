-- Places that are marked one after the other.
use Rattle.std.proofs.Common.{◌≡◌, ◌≢◌, ℕ, ◌<◌, nat_eq, ◌⊎◌, inl, inr, Bool, true, false, List, [], ◌∷◌, ◌++◌, length, get_or, Contains, slice_get, slice_set, length-set, get_or-set_same, get_or-set_other, refl, sym, ◌∙◌, ap, subst, arith}
use Rattle.merlin_model.specs.Programs.{is_chosen}
use Rattle.merlin_model.proofs.Members.{In, in_from, in_to, in_append, in_append-left, in_append-right}
use Rattle.std.proofs.lemmas.Option.{slice_get-get_or}
use Rattle.std.specs.List.{AllByRecursion}
use Rattle.graph_search.proofs.Places.{all-get}
use Rattle.price_bound.specs.declared.flow_graph.FlowStep.{FlowStep}
use Rattle.price_bound.specs.Spreads.{IsMarked, variable_of_step, variables_along}
use Rattle.price_bound.proofs.Permitting.{no_step}

pub none-marked : (point : List Bool) → IsMarked [] point point
none-marked point = record { size = refl; chosen = λ k. (λ e. inl e, λ h. by k h) }
  where
    by : (k : ℕ) → (is_chosen point k ≡ true) ⊎ Contains [] k → is_chosen point k ≡ true
    by k (inl e) = e
    by k (inr c) = absurd (in_from [] k c)

pub one-marked : (ks : List ℕ) (old new : List Bool) (k : ℕ) → k < length old → IsMarked ks old new → IsMarked (ks ++ k ∷ []) old (slice_set new k true)
one-marked ks old new k h marked = record {
  size = length-set new k true ∙ marked.size;
  chosen = λ j. (λ e. to j e (nat_eq j k) refl, λ e. from j e (nat_eq j k) refl);
}
  where
    within : k < length new
    within = let s = marked.size in omega arith

    more : (j : ℕ) → (is_chosen old j ≡ true) ⊎ Contains ks j → (is_chosen old j ≡ true) ⊎ Contains (ks ++ k ∷ []) j
    more j (inl e) = inl e
    more j (inr c) = inr (in_to (ks ++ k ∷ []) j (in_append-left ks (k ∷ []) j (in_from ks j c)))

    less : (j : ℕ) → j ≢ k → (is_chosen old j ≡ true) ⊎ Contains (ks ++ k ∷ []) j → (is_chosen old j ≡ true) ⊎ Contains ks j
    less j other (inl e) = inl e
    less j other (inr c) = by (in_append ks (k ∷ []) j (in_from (ks ++ k ∷ []) j c))
      where
        by : In j ks ⊎ In j (k ∷ []) → (is_chosen old j ≡ true) ⊎ Contains ks j
        by (inl i) = inr (in_to ks j i)
        by (inr (inl e)) = absurd (other e)
        by (inr (inr b)) = absurd b

    to : (j : ℕ) → is_chosen (slice_set new k true) j ≡ true → (b : Bool) → nat_eq j k ≡ b → (is_chosen old j ≡ true) ⊎ Contains (ks ++ k ∷ []) j
    to j e true s = let at : j ≡ k = grind arith in inr (in_to (ks ++ k ∷ []) j (in_append-right ks (k ∷ []) j (inl at)))
    to j e false s = let other : j ≢ k = grind arith in more j ((marked.chosen j).0 (sym (get_or-set_other new k j true false other) ∙ e))

    from : (j : ℕ) → (is_chosen old j ≡ true) ⊎ Contains (ks ++ k ∷ []) j → (b : Bool) → nat_eq j k ≡ b → is_chosen (slice_set new k true) j ≡ true
    from j e true s = let at : j ≡ k = grind arith in ap (is_chosen (slice_set new k true)) at ∙ get_or-set_same new k true false within
    from j e false s = let other : j ≢ k = grind arith in get_or-set_other new k j true false other ∙ (marked.chosen j).1 (less j other e)

-- The steps of a way back.

along-more : (steps : List FlowStep) (done : List ℕ) (k : ℕ) → variables_along steps (done ++ k ∷ []) ≡ variables_along steps done ++ variable_of_step (slice_get steps k) ∷ []
along-more steps [] k = refl
along-more steps (x ∷ done) k = ap (λ l. variable_of_step (slice_get steps x) ∷ l) (along-more steps done k)

pub step-marked : (steps : List FlowStep) (done : List ℕ) (old new after : List Bool) (k : ℕ) → k < length steps → AllByRecursion (λ s. s.variable < length old) steps → IsMarked (variables_along steps done) old new → after ≡ slice_set new (get_or steps k no_step).variable true →
    IsMarked (variables_along steps (done ++ k ∷ [])) old after
step-marked steps done old new after k h within marked is =
    let s = slice_get-get_or steps k no_step h in
    let low = all-get (λ (s : FlowStep). s.variable < length old) steps k (get_or steps k no_step) within s in
    let more = one-marked (variables_along steps done) old new (get_or steps k no_step).variable low marked in
    let list = along-more steps done k ∙ ap (λ o. variables_along steps done ++ variable_of_step o ∷ []) s in
    subst (λ l. IsMarked l old after) (sym list) (subst (IsMarked (variables_along steps done ++ (get_or steps k no_step).variable ∷ []) old) (sym is) more)
