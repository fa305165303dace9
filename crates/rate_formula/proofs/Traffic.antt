-- The rates of a policy's ids by some traffic.
use Rattle.std.proofs.Common.{◌≡◌, ℕ, zero, suc, ◌⊎◌, inl, inr, Bool, true, false, List, [], ◌∷◌, map, filter, sum_by, slice_get, bytes_eq, refl, sym, ◌∙◌, ap, subst}
use Rattle.std.specs.List.{AllByRecursion}
use Rattle.std.specs.Option.{option_map_or}
use Rattle.std.proofs.lemmas.Slice.Eq.{bytes_eq-Decides}
use Rattle.merlin_model.specs.Packets.{Packet}
use Rattle.merlin_model.specs.Policies.{Policy, Statement, match_of}
use Rattle.merlin_model.specs.Rates.{bears, rate_of_id, Meets, KeepsFormula}
use Rattle.rate_formula.specs.Usage.{rate_among, ids_in, rates_of}

-- no id of the list is this one
abbrev NoneIs : List ℕ → List (List ℕ) → Type 0
NoneIs id ids = AllByRecursion (λ other. bytes_eq other id ≡ false) ids

-- an id has its own rate, or it is none of them and has no rate
among : (f : List ℕ → ℕ) (ids : List (List ℕ)) (id : List ℕ) → (rate_among ids (map f ids) id ≡ f id) ⊎ ((rate_among ids (map f ids) id ≡ 0) × NoneIs id ids)
among f [] id = inr (refl, tt)
among f (other ∷ ids) id = by (bytes_eq other id) refl (among f ids id)
  where
    by : (b : Bool) → bytes_eq other id ≡ b → (rate_among ids (map f ids) id ≡ f id) ⊎ ((rate_among ids (map f ids) id ≡ 0) × NoneIs id ids)
        → (rate_among (other ∷ ids) (map f (other ∷ ids)) id ≡ f id) ⊎ ((rate_among (other ∷ ids) (map f (other ∷ ids)) id ≡ 0) × NoneIs id (other ∷ ids))
    by true e later = inl (rw e (ap f ((bytes_eq-Decides other id).0 e)))
    by false e (inl h) = inl (rw e h)
    by false e (inr (h, none)) = inr (rw e h, (e, none))

none_bears : (statements : List Statement) (i : ℕ) (id : List ℕ) → NoneIs id (map (λ (s : Statement). s.id) statements) → option_map_or (λ (s : Statement). bytes_eq s.id id) (slice_get statements i) false ≡ false
none_bears [] i id none = refl
none_bears (s ∷ statements) zero id none = none.0
none_bears (s ∷ statements) (suc i) id none = none_bears statements i id none.1

nothing : {X : Type 0} (f : X → ℕ) (test : X → Bool) (xs : List X) → ((x : X) → test x ≡ false) → sum_by f (filter test xs) ≡ 0
nothing f test [] h = refl
nothing f test (x ∷ xs) h = rw (h x) (nothing f test xs h)

pub by_traffic : (policy : Policy) (traffic : List (Packet × ℕ)) (id : List ℕ) → rate_among (ids_in policy) (rates_of policy traffic) id ≡ rate_of_id policy traffic id
by_traffic policy traffic id = by (among (rate_of_id policy traffic) (ids_in policy) id)
  where
    by : (rate_among (ids_in policy) (rates_of policy traffic) id ≡ rate_of_id policy traffic id) ⊎ ((rate_among (ids_in policy) (rates_of policy traffic) id ≡ 0) × NoneIs id (ids_in policy))
        → rate_among (ids_in policy) (rates_of policy traffic) id ≡ rate_of_id policy traffic id
    by (inl e) = e
    by (inr (e, none)) = e ∙ sym (nothing (λ (u : Packet × ℕ). u.1) (λ (u : Packet × ℕ). bears policy (match_of policy u.0) id) traffic (λ u. none_bears policy.statements (match_of policy u.0) id none))

same_rates : (policy : Policy) (traffic : List (Packet × ℕ)) → rate_among (ids_in policy) (rates_of policy traffic) ≡ rate_of_id policy traffic
same_rates policy traffic = λ i id. by_traffic policy traffic id i

pub keeps : (policy : Policy) (traffic : List (Packet × ℕ)) → Meets (rate_among (ids_in policy) (rates_of policy traffic)) policy.terms → KeepsFormula policy traffic
keeps policy traffic h = subst (λ (rates : List ℕ → ℕ). Meets rates policy.terms) (same_rates policy traffic) h

pub kept : (policy : Policy) (traffic : List (Packet × ℕ)) → KeepsFormula policy traffic → Meets (rate_among (ids_in policy) (rates_of policy traffic)) policy.terms
kept policy traffic h = subst (λ (rates : List ℕ → ℕ). Meets rates policy.terms) (sym (same_rates policy traffic)) h
