-- The stages of `localise`, put together: which fault is the first of all, and which rates the table gives in the end.
use Rattle.std.proofs.Common.{◌≡◌, ◌∙◌, ◌||◌, ◌++◌, ℕ, Bool, true, false, cond, List, [], ◌∷◌, map, Option, None, Some, is_some, refl, sym, ap, subst}
use Rattle.std.specs.Prelude.{bytes_eq, filter_map}
use Rattle.std.specs.List.{list_any, cons_option}
use Rattle.std.specs.Option.{option_map}
use Rattle.std.proofs.lemmas.Slice.Eq.{bytes_eq-Decides}
use Rattle.merlin_model.specs.declared.policy.Term.{Term}
use Rattle.localise.specs.declared.fault.RateFault.{RateFault}
use Rattle.localise.specs.declared.fault.RateFault.TheVariants.{UnknownId, RepeatedId, ConstantTooLarge}
use Rattle.localise.specs.declared.limits.Limits.{Limits}
use Rattle.localise.specs.declared.localising.Rates.{Rates}
use Rattle.localise.specs.Localised.{min_for, max_for, localised}
use Rattle.localise.specs.Faults.{is_among, unknown_ids, repeated_ids, large_terms, conflict_of, conflicts_among, faults, IsFirst}
use Rattle.localise.specs.Limits.{unlimited, together, limits_of, limits_at, rates_at, conflicts_at}
use Rattle.localise.proofs.Through.{first_with_more, first_after_none}
use Rattle.localise.proofs.Divided.{unlimited-joined}

module _ (terms : List Term) (ids : List (List ℕ)) where
  abbrev repeated_on : List RateFault
  repeated_on = map RepeatedId (repeated_ids terms) ++ (map ConstantTooLarge (large_terms terms) ++ conflicts_among (min_for terms) (max_for terms) ids)

  -- With a table of the ids.
  module _ (held : List ℕ → Option Limits) (starts : (name : List ℕ) → held name ≡ cond (is_among ids name) (Some unlimited) None) where
    known : (name : List ℕ) → is_some (held name) ≡ is_among ids name
    known name = ap is_some (starts name) ∙ by (is_among ids name)
      where
        by : (b : Bool) → is_some (cond b (Some unlimited) None) ≡ b
        by true = refl
        by false = refl

    unknown : unknown_ids (λ name. is_some (held name)) terms ≡ unknown_ids (is_among ids) terms
    unknown = (λ k. unknown_ids (λ name. known name k) terms)

    pub by_unknown : (fault : RateFault) → IsFirst (map UnknownId (unknown_ids (λ name. is_some (held name)) terms)) fault → IsFirst (faults terms ids) fault
    by_unknown fault first = first_with_more (map UnknownId (unknown_ids (is_among ids) terms)) repeated_on fault (subst (λ (names : List (List ℕ)). IsFirst (map UnknownId names) fault) unknown first)

    module _ (clear : unknown_ids (λ name. is_some (held name)) terms ≡ []) where
      none_unknown : map UnknownId (unknown_ids (is_among ids) terms) ≡ []
      none_unknown = ap (map UnknownId) (sym unknown ∙ clear)

      pub by_repeated : (fault : RateFault) → IsFirst (map RepeatedId (repeated_ids terms)) fault → IsFirst (faults terms ids) fault
      by_repeated fault first = first_after_none _ repeated_on fault none_unknown (first_with_more (map RepeatedId (repeated_ids terms)) _ fault first)

      module _ (different : repeated_ids terms ≡ []) where
        pub by_constant : (fault : RateFault) → IsFirst (map ConstantTooLarge (large_terms terms)) fault → IsFirst (faults terms ids) fault
        by_constant fault first = first_after_none _ repeated_on fault none_unknown (first_after_none _ _ fault (ap (map RepeatedId) different) (first_with_more (map ConstantTooLarge (large_terms terms)) _ fault first))

        module _ (small : large_terms terms ≡ []) where
          all_conflicts : faults terms ids ≡ conflicts_among (min_for terms) (max_for terms) ids
          all_conflicts = (λ k. none_unknown k ++ (map RepeatedId (different k) ++ (map ConstantTooLarge (small k) ++ conflicts_among (min_for terms) (max_for terms) ids)))

          -- With the table as the terms left it.
          module _ (then : List ℕ → Option Limits) (shared : (name : List ℕ) → then name ≡ option_map (λ l. together l (limits_of terms name)) (held name)) where
            limits_are : (name : List ℕ) → is_among ids name ≡ true → limits_at (then name) ≡ limits_of terms name
            limits_are name among =
                ap limits_at (shared name ∙ ap (option_map (λ l. together l (limits_of terms name))) (starts name ∙ ap (λ b. cond b (Some unlimited) None) among)) ∙ unlimited-joined (limits_of terms name)

            same : (id : List ℕ) → bytes_eq id id ≡ true
            same id = (bytes_eq-Decides id id).1 refl

            here : (id : List ℕ) (others : List (List ℕ)) → is_among (id ∷ others) id ≡ true
            here id others = ap (λ b. b || is_among others id) (same id)

            later : (id : List ℕ) (others : List (List ℕ)) (name : List ℕ) → is_among others name ≡ true → is_among (id ∷ others) name ≡ true
            later id others name among = by (bytes_eq id name) (is_among others name) among
              where
                by : (a b : Bool) → b ≡ true → (a || b) ≡ true
                by true b e = refl
                by false b e = e

            -- what the table gives to ids that it has
            given : (some : List (List ℕ)) → ((name : List ℕ) → is_among some name ≡ true → limits_at (then name) ≡ limits_of terms name)
                → (map (λ id. (limits_at (then id)).floor) some ≡ map (min_for terms) some) × (map (λ id. (limits_at (then id)).cap) some ≡ map (max_for terms) some)
                × (conflicts_among (λ id. (limits_at (then id)).floor) (λ id. (limits_at (then id)).cap) some ≡ conflicts_among (min_for terms) (max_for terms) some)
            given [] are = (refl, refl, refl)
            given (id ∷ some) are =
                let is = are id (here id some) in
                let rest = given some (λ name among. are name (later id some name among)) in
                ((λ k. (is k).floor ∷ rest.0 k), (λ k. (is k).cap ∷ rest.1 k), (λ k. cons_option (conflict_of id (is k).floor (is k).cap) (rest.2 k)))

            pub rates_are : rates_at then ids ≡ localised terms ids
            rates_are = let all = given ids limits_are in (λ k. record { min = all.0 k; max = all.1 k })

            conflicts_are : conflicts_at then ids ≡ faults terms ids
            conflicts_are = (given ids limits_are).2 ∙ sym all_conflicts

            pub by_conflict : (conflict : RateFault) → IsFirst (conflicts_at then ids) conflict → IsFirst (faults terms ids) conflict
            by_conflict conflict first = subst (λ (all : List RateFault). IsFirst all conflict) conflicts_are first

            pub no_fault : conflicts_at then ids ≡ [] → faults terms ids ≡ []
            no_fault clear = sym conflicts_are ∙ clear
