-- Uses that keep to localised rates meet the terms.
use Rattle.std.proofs.Common.{◌≡◌, ◌≢◌, ◌+◌, ◌-◌, ◌≤◌, ◌<◌, ◌||◌, ◌&&◌, inl, inr, ℕ, zero, suc, min, max, nat_lt, Bool, true, false, not, cond, List, [], ◌∷◌, map, filter, Option, None, Some, slice_get, sum_by, refl, sym, ◌∙◌, ap, subst, arith}
use Rattle.std.specs.Prelude.{bytes_eq, filter_map}
use Rattle.std.specs.List.{AllByRecursion, cons_option, range_with_len}
use Rattle.std.specs.Option.{option_map, option_map_or}
use Rattle.std.proofs.lemmas.Slice.Eq.{bytes_eq-Decides}
use Rattle.std.proofs.lemmas.Option.{slice_get-map}
use Rattle.merlin_model.specs.declared.policy.Bound.{Bound}
use Rattle.merlin_model.specs.declared.policy.Bound.TheVariants.{Max, Min}
use Rattle.merlin_model.specs.declared.policy.Term.{Term}
use Rattle.merlin_model.specs.Policies.{Policy, Statement}
use Rattle.merlin_model.specs.Rates.{share, share_in, ids_of, amount_of, constant_of_part, total_of, least_of, greatest_of, max_shares, min_shares, is_max, KeepsBound, Meets, max_of, min_of, HasRoomForGuarantees}
use Rattle.rate_formula.specs.Usage.{ids_in}
use Rattle.localise.specs.declared.fault.RateFault.{RateFault}
use Rattle.localise.specs.declared.fault.RateFault.TheVariants.{LocalisedConflict}
use Rattle.localise.specs.Localised.{min_for, max_for, localised}
use Rattle.localise.specs.Faults.{is_among, repeats_in, has_large_constants, conflict_of, conflicts_among, faults}
use Rattle.localise.specs.Usage.{share_of, max_terms, min_terms, HaveIds, IsWithinCap, KeepsMaxima, KeepsMinima}
use Rattle.localise.proofs.Clear.{In, all_at, all_from, all_filtered, IsClear, clear_from, known_in}
use Rattle.localise.proofs.Summed.{sum_below, total_is, has_share}

-- one of the shares is not below the least, nor above the greatest
least_below : (xs : List ℕ) (s : ℕ) → In s xs → (cap : ℕ) × (least_of xs ≡ Some cap) × (cap ≤ s)
least_below [] s at = absurd at
least_below (x ∷ xs) s (inl e) = by (least_of xs)
  where
    by : (o : Option ℕ) → (cap : ℕ) × (Some (option_map_or (min x) o x) ≡ Some cap) × (cap ≤ s)
    by None = (x, refl, omega arith)
    by (Some y) = (min x y, refl, omega arith)
least_below (x ∷ xs) s (inr at) =
    let rest = least_below xs s at in
    (min x rest.0, ap (λ o. Some (option_map_or (min x) o x)) rest.1, omega (arith, rest.2))

greatest_above : (xs : List ℕ) (s : ℕ) → In s xs → s ≤ greatest_of xs
greatest_above [] s at = absurd at
greatest_above (x ∷ xs) s (inl e) = omega arith
greatest_above (x ∷ xs) s (inr at) = let rest = greatest_above xs s at in omega arith

-- the share of an id in one of the terms is among its shares
among_shares : (test : Term → Bool) (h : Term → Option ℕ) (terms : List Term) (term : Term) (s : ℕ) → In term terms → test term ≡ true → h term ≡ Some s → In s (filter_map h (filter test terms))
among_shares test h [] term s at passes is = absurd at
among_shares test h (other ∷ terms) term s (inl e) passes is =
    subst (λ (b : Bool). In s (filter_map h (cond b (other ∷ filter test terms) (filter test terms)))) (sym passes ∙ ap test e)
    (subst (λ (o : Option ℕ). In s (cons_option o (filter_map h (filter test terms)))) (sym is ∙ ap h e) (inl refl))
among_shares test h (other ∷ terms) term s (inr at) passes is = by (test other) (among_shares test h terms term s at passes is)
  where
    by : (b : Bool) → In s (filter_map h (filter test terms)) → In s (filter_map h (cond b (other ∷ filter test terms) (filter test terms)))
    by true rest = one (h other)
      where
        one : (o : Option ℕ) → In s (cons_option o (filter_map h (filter test terms)))
        one None = rest
        one (Some t) = inr rest
    by false rest = rest

-- what holds of all ids holds of one among them
at_among : (P : List ℕ → Type 0) (ids : List (List ℕ)) (id : List ℕ) → AllByRecursion P ids → is_among ids id ≡ true → P id
at_among P [] id all among = let no : ⊥ = cc in absurd no
at_among P (other ∷ ids) id all among = by (bytes_eq other id) refl among (at_among P ids id all.1)
  where
    by : (b : Bool) → bytes_eq other id ≡ b → (b || is_among ids id) ≡ true → (is_among ids id ≡ true → P id) → P id
    by true e among rest = subst P ((bytes_eq-Decides other id).0 e) all.0
    by false e among rest = rest among

within : (cap : Option ℕ) (rate n : ℕ) → cap ≡ Some n → IsWithinCap cap rate → rate ≤ n
within None rate n e h = cc
within (Some m) rate n e h = let same : m ≡ n = cc in omega (arith, h)

abbrev SharesSum : Type 0
SharesSum = (term : Term) → ids_of term ≢ [] → repeats_in (ids_of term) ≡ [] → sum_by (share_of term) (ids_of term) ≡ amount_of term

module _ (terms : List Term) (ids : List (List ℕ)) (usage : List ℕ → ℕ) (clear : IsClear terms ids) (law : SharesSum) where
  -- within the maxima
  module _ (keeps : KeepsMaxima terms ids usage) (term : Term) (at : In term terms) (is : is_max term.bound ≡ true) where
    use_below : (id : List ℕ) → In id (ids_of term) → usage id ≤ share_of term id
    use_below id stands =
        let among = among_shares (λ t. is_max t.bound) (share_in id) terms term (share_of term id) at is (has_share term id stands) in
        let least = least_below (max_shares id terms) (share_of term id) among in
        let used = within (max_for terms id) (usage id) least.0 least.1 (at_among (λ name. IsWithinCap (max_for terms name) (usage name)) ids id keeps (known_in terms ids term clear at id stands)) in
        omega (arith, used, least.2)

    constants_fit : sum_by constant_of_part term.parts ≤ term.rate
    constants_fit = by (nat_lt term.rate (sum_by constant_of_part term.parts)) refl (all_at (λ t. has_large_constants t ≡ false) terms term clear.small at)
      where
        by : (b : Bool) → nat_lt term.rate (sum_by constant_of_part term.parts) ≡ b → (is_max term.bound && nat_lt term.rate (sum_by constant_of_part term.parts)) ≡ false → sum_by constant_of_part term.parts ≤ term.rate
        by true e small = let no : true ≡ false = sym (λ k. is k && e k) ∙ small in cc
        by false e small = grind arith

    pub below_rate : total_of usage term ≤ term.rate
    below_rate = by (ids_of term) refl
      where
        by : (names : List (List ℕ)) → ids_of term ≡ names → total_of usage term ≤ term.rate
        by [] none =
            let total = total_is usage term.parts in
            let nothing : sum_by usage (ids_of term) ≡ 0 = ap (sum_by usage) none in
            omega (arith, constants_fit)
        by (name ∷ names) some =
            let total = total_is usage term.parts in
            let uses = sum_below usage (share_of term) (ids_of term) (all_from (λ id. usage id ≤ share_of term id) (ids_of term) use_below) in
            let shares = law term (λ none. let no : name ∷ names ≡ [] = sym some ∙ none in cc) (all_at (λ t. repeats_in (ids_of t) ≡ []) terms term clear.different at) in
            omega (arith, constants_fit)

  -- at least the minima
  module _ (keeps : KeepsMinima terms ids usage) (term : Term) (at : In term terms) (has : ids_of term ≢ []) (is : not (is_max term.bound) ≡ true) where
    use_above : (id : List ℕ) → In id (ids_of term) → share_of term id ≤ usage id
    use_above id stands =
        let among = among_shares (λ t. not (is_max t.bound)) (share_in id) terms term (share_of term id) at is (has_share term id stands) in
        let greatest = greatest_above (min_shares id terms) (share_of term id) among in
        let used : min_for terms id ≤ usage id = at_among (λ name. min_for terms name ≤ usage name) ids id keeps (known_in terms ids term clear at id stands) in
        omega (arith, used, greatest)

    pub above_rate : term.rate ≤ total_of usage term
    above_rate =
        let total = total_is usage term.parts in
        let uses = sum_below (share_of term) usage (ids_of term) (all_from (λ id. share_of term id ≤ usage id) (ids_of term) use_above) in
        let shares = law term has (all_at (λ t. repeats_in (ids_of t) ≡ []) terms term clear.different at) in
        omega arith

keeps_max : (b : Bound) (total rate : ℕ) → is_max b ≡ true → total ≤ rate → KeepsBound b total rate
keeps_max Max total rate is h = h
keeps_max Min total rate is h = cc

keeps_min : (b : Bound) (total rate : ℕ) → not (is_max b) ≡ true → rate ≤ total → KeepsBound b total rate
keeps_min Max total rate is h = cc
keeps_min Min total rate is h = h

module _ (law : SharesSum) (terms : List Term) (ids : List (List ℕ)) (usage : List ℕ → ℕ) (none : faults terms ids ≡ []) where
  meets_max : KeepsMaxima terms ids usage → (term : Term) → In term terms → is_max term.bound ≡ true → KeepsBound term.bound (total_of usage term) term.rate
  meets_max keeps term at is = keeps_max term.bound (total_of usage term) term.rate is (below_rate terms ids usage (clear_from terms ids none) law keeps term at is)

  meets_min : HaveIds terms → KeepsMinima terms ids usage → (term : Term) → In term terms → not (is_max term.bound) ≡ true → KeepsBound term.bound (total_of usage term) term.rate
  meets_min have keeps term at is = keeps_min term.bound (total_of usage term) term.rate is (above_rate terms ids usage (clear_from terms ids none) law keeps term at (all_at (λ t. ids_of t ≢ []) terms term have at) is)

  pub within_maxima : KeepsMaxima terms ids usage → Meets usage (max_terms terms)
  within_maxima keeps = all_filtered (λ term. KeepsBound term.bound (total_of usage term) term.rate) (λ term. is_max term.bound) terms (meets_max keeps)

  pub within_minima : HaveIds terms → KeepsMinima terms ids usage → Meets usage (min_terms terms)
  within_minima have keeps = all_filtered (λ term. KeepsBound term.bound (total_of usage term) term.rate) (λ term. not (is_max term.bound)) terms (meets_min have keeps)

  pub within_both : HaveIds terms → KeepsMaxima terms ids usage → KeepsMinima terms ids usage → Meets usage terms
  within_both have below above = all_from (λ term. KeepsBound term.bound (total_of usage term) term.rate) terms one
    where
      one : (term : Term) → In term terms → KeepsBound term.bound (total_of usage term) term.rate
      one term at = by (is_max term.bound) refl
        where
          by : (b : Bool) → is_max term.bound ≡ b → KeepsBound term.bound (total_of usage term) term.rate
          by true e = meets_max below term at e
          by false e = meets_min have above term at (ap not e)

-- Of a policy.

statement_at : (policy : Policy) (i : ℕ) (s : Statement) → slice_get policy.statements i ≡ Some s → slice_get (ids_in policy) i ≡ Some s.id
statement_at policy i s at = slice_get-map (λ s. s.id) policy.statements i ∙ ap (λ o. option_map (λ s. s.id) o) at

pub min_at : (policy : Policy) (i : ℕ) (s : Statement) → slice_get policy.statements i ≡ Some s → slice_get (localised policy.terms (ids_in policy)).min i ≡ Some (min_of policy i)
min_at policy i s at =
    slice_get-map (min_for policy.terms) (ids_in policy) i
    ∙ (ap (λ o. option_map (min_for policy.terms) o) (statement_at policy i s at)
    ∙ ap (λ o. Some (option_map_or (λ s. min_for policy.terms s.id) o 0)) (sym at))

pub max_at : (policy : Policy) (i : ℕ) (s : Statement) → slice_get policy.statements i ≡ Some s → slice_get (localised policy.terms (ids_in policy)).max i ≡ Some (max_of policy i)
max_at policy i s at =
    slice_get-map (max_for policy.terms) (ids_in policy) i
    ∙ (ap (λ o. option_map (max_for policy.terms) o) (statement_at policy i s at)
    ∙ ap (λ o. Some (option_map_or (λ s. max_for policy.terms s.id) o None)) (sym at))

no_conflict : (id : List ℕ) (least cap : ℕ) → conflict_of id least (Some cap) ≡ None → least ≤ cap
no_conflict id least cap none = by (nat_lt cap least) refl none
  where
    by : (b : Bool) → nat_lt cap least ≡ b → cond b (Some (LocalisedConflict id least cap)) None ≡ None → least ≤ cap
    by true e none = cc
    by false e none = grind arith

none_of : {X Y : Type 0} (h : X → Option Y) (xs : List X) → filter_map h xs ≡ [] → (i : ℕ) (x : X) → slice_get xs i ≡ Some x → h x ≡ None
none_of h [] none i x at = let no : ⊥ = cc in absurd no
none_of {X} {Y} h (y ∷ ys) none i x at = by (h y) refl none i at (none_of h ys)
  where
    by : (o : Option Y) → h y ≡ o → cons_option o (filter_map h ys) ≡ [] → (i : ℕ) → slice_get (y ∷ ys) i ≡ Some x → (filter_map h ys ≡ [] → (i : ℕ) (x : X) → slice_get ys i ≡ Some x → h x ≡ None) → h x ≡ None
    by None e clear zero at rest = let same : y ≡ x = cc in ap h (sym same) ∙ e
    by None e clear (suc i) at rest = rest clear i x at
    by (Some z) e clear i at rest = cc

pub room : (policy : Policy) → faults policy.terms (ids_in policy) ≡ [] → HasRoomForGuarantees policy
room policy none i cap is = by (slice_get policy.statements i) refl is
  where
    by : (o : Option Statement) → slice_get policy.statements i ≡ o → option_map_or (λ s. max_for policy.terms s.id) o None ≡ Some cap → option_map_or (λ s. min_for policy.terms s.id) o 0 ≤ cap
    by None at is = cc
    by (Some s) at is =
        let clear = clear_from policy.terms (ids_in policy) none in
        let conflict = none_of (λ id. conflict_of id (min_for policy.terms id) (max_for policy.terms id)) (ids_in policy) clear.room i s.id (statement_at policy i s at) in
        no_conflict s.id (min_for policy.terms s.id) cap (ap (conflict_of s.id (min_for policy.terms s.id)) (sym is) ∙ conflict)
