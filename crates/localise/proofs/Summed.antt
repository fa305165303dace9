-- The shares of a term sum to what its constants leave, and what each id uses sums to the total of the term.
use Rattle.std.proofs.Common.{◌≡◌, ◌≢◌, ◌+◌, ◌-◌, ◌≤◌, ◌<◌, inl, inr, ℕ, zero, suc, Bool, true, false, cond, List, [], ◌∷◌, length, Option, None, Some, unwrap_or, sum_by, refl, sym, ◌∙◌, ap, subst, arith}
use Rattle.std.specs.Prelude.{bytes_eq, filter_map, position}
use Rattle.std.specs.List.{AllByRecursion, range_with_len}
use Rattle.std.specs.Option.{option_map}
use Rattle.std.proofs.lemmas.List.Sums.{sum_by-cons}
use Rattle.std.proofs.lemmas.Slice.Eq.{bytes_eq-Decides}
use Rattle.merlin_model.specs.declared.policy.Part.{Part}
use Rattle.merlin_model.specs.declared.policy.Part.TheVariants.{Id, Constant}
use Rattle.merlin_model.specs.declared.policy.Term.{Term}
use Rattle.merlin_model.specs.Networks.{AreDifferent}
use Rattle.merlin_model.specs.Rates.{share, share_in, ids_of, amount_of, id_of_part, constant_of_part, rate_of_part, total_of}
use Rattle.localise.specs.Faults.{repeats_in}
use Rattle.localise.specs.Usage.{share_of}
use Rattle.localise.proofs.Clear.{In}
use Rattle.localise.proofs.Repeated.{differ}
use Rattle.localise.proofs.Divided.{position-cons}

pub sum_same : {X : Type 0} (f g : X → ℕ) (xs : List X) → AllByRecursion (λ x. f x ≡ g x) xs → sum_by f xs ≡ sum_by g xs
sum_same f g [] all = refl
sum_same f g (x ∷ xs) all = let fs = sum_by-cons f x xs in let gs = sum_by-cons g x xs in let rest = sum_same f g xs all.1 in omega (arith, all.0)

pub sum_below : {X : Type 0} (f g : X → ℕ) (xs : List X) → AllByRecursion (λ x. f x ≤ g x) xs → sum_by f xs ≤ sum_by g xs
sum_below f g [] all = omega arith
sum_below f g (x ∷ xs) all = let fs = sum_by-cons f x xs in let gs = sum_by-cons g x xs in let rest = sum_below f g xs all.1 in omega (arith, all.0)

shifted : (g : ℕ → ℕ) (a n : ℕ) → sum_by (λ j. g (suc j)) (range_with_len a n) ≡ sum_by g (range_with_len (a + 1) n)
shifted g a zero = refl
shifted g a (suc n) =
    let fs = sum_by-cons (λ j. g (suc j)) a (range_with_len (a + 1) n) in
    let gs = sum_by-cons g (a + 1) (range_with_len (a + 1 + 1) n) in
    let rest = shifted g (a + 1) n in
    let next : suc a ≡ a + 1 = omega arith in
    let first : g (suc a) ≡ g (a + 1) = ap g next in
    omega arith

weaken : {X : Type 0} {P Q : X → Type 0} → ((x : X) → P x → Q x) → (xs : List X) → AllByRecursion P xs → AllByRecursion Q xs
weaken f [] h = tt
weaken f (x ∷ xs) h = (f x h.0, weaken f xs h.1)

false_from : (a b : List ℕ) → (a ≡ b → ⊥) → bytes_eq a b ≡ false
false_from a b ne = by (bytes_eq a b) refl
  where
    by : (x : Bool) → bytes_eq a b ≡ x → x ≡ false
    by true e = absurd (ne ((bytes_eq-Decides a b).0 e))
    by false e = refl

-- names that differ stand at the places 0, 1 and so on
by_place : (f : Option ℕ → ℕ) (names : List (List ℕ)) → AreDifferent names → sum_by (λ id. f (position (bytes_eq id) names)) names ≡ sum_by (λ j. f (Some j)) (range_with_len 0 (length names))
by_place f [] different = refl
by_place f (name ∷ names) different =
    let here : f (position (bytes_eq name) (name ∷ names)) ≡ f (Some 0) =
    ap f (position-cons (bytes_eq name) name names ∙ ap (λ b. cond b (Some 0) (option_map suc (position (bytes_eq name) names))) ((bytes_eq-Decides name name).1 refl)) in
    let there : AllByRecursion (λ id. f (position (bytes_eq id) (name ∷ names)) ≡ f (option_map suc (position (bytes_eq id) names))) names =
    weaken (λ id apart. ap f (position-cons (bytes_eq id) name names ∙ ap (λ b. cond b (Some 0) (option_map suc (position (bytes_eq id) names))) (false_from id name (λ e. apart (sym e))))) names different.0 in
    let first = sum_by-cons (λ id. f (position (bytes_eq id) (name ∷ names))) name names in
    let others = sum_same (λ id. f (position (bytes_eq id) (name ∷ names))) (λ id. f (option_map suc (position (bytes_eq id) names))) names there in
    let rest = by_place (λ o. f (option_map suc o)) names different.1 in
    let moved = shifted (λ j. f (Some j)) 0 (length names) in
    let all = sum_by-cons (λ j. f (Some j)) 0 (range_with_len (0 + 1) (length names)) in
    omega arith

some_ids : (names : List (List ℕ)) → names ≢ [] → 0 < length names
some_ids [] some = absurd (some refl)
some_ids (name ∷ names) some = omega arith

pub shares_of_term : ((amount parts : ℕ) → 0 < parts → sum_by (share amount parts) (range_with_len 0 parts) ≡ amount) → (term : Term) → ids_of term ≢ [] → repeats_in (ids_of term) ≡ [] → sum_by (share_of term) (ids_of term) ≡ amount_of term
shares_of_term law term some none =
    by_place (λ o. unwrap_or (option_map (share (amount_of term) (length (ids_of term))) o) 0) (ids_of term) (differ (ids_of term) none)
    ∙ law (amount_of term) (length (ids_of term)) (some_ids (ids_of term) some)

-- a term's total: its constants, and what its ids use
pub total_is : (usage : List ℕ → ℕ) (parts : List Part) → sum_by (rate_of_part usage) parts ≡ sum_by constant_of_part parts + sum_by usage (filter_map id_of_part parts)
total_is usage [] = omega arith
total_is usage (Id id ∷ parts) =
    let all = sum_by-cons (rate_of_part usage) (Id id) parts in
    let constants = sum_by-cons constant_of_part (Id id) parts in
    let uses = sum_by-cons usage id (filter_map id_of_part parts) in
    let rest = total_is usage parts in
    omega arith
total_is usage (Constant rate ∷ parts) =
    let all = sum_by-cons (rate_of_part usage) (Constant rate) parts in
    let constants = sum_by-cons constant_of_part (Constant rate) parts in
    let rest = total_is usage parts in
    omega arith

-- an id of a term has a share
pub has_place : (names : List (List ℕ)) (id : List ℕ) → In id names → (j : ℕ) × (position (bytes_eq id) names ≡ Some j)
has_place [] id at = absurd at
has_place (name ∷ names) id (inl e) = (0, position-cons (bytes_eq id) name names ∙ ap (λ b. cond b (Some 0) (option_map suc (position (bytes_eq id) names))) ((bytes_eq-Decides id name).1 e))
has_place (name ∷ names) id (inr at) = by (bytes_eq id name) refl (has_place names id at)
  where
    by : (b : Bool) → bytes_eq id name ≡ b → (j : ℕ) × (position (bytes_eq id) names ≡ Some j) → (j : ℕ) × (position (bytes_eq id) (name ∷ names) ≡ Some j)
    by true e rest = (0, position-cons (bytes_eq id) name names ∙ ap (λ b. cond b (Some 0) (option_map suc (position (bytes_eq id) names))) e)
    by false e rest = (suc rest.0, position-cons (bytes_eq id) name names ∙ ((λ k. cond (e k) (Some 0) (option_map suc (rest.1 k)))))

pub has_share : (term : Term) (id : List ℕ) → In id (ids_of term) → share_in id term ≡ Some (share_of term id)
has_share term id at =
    let place = has_place (ids_of term) id at in
    let is : share_in id term ≡ Some (share (amount_of term) (length (ids_of term)) place.0) = ap (option_map (share (amount_of term) (length (ids_of term)))) place.1 in
    is ∙ ap (λ o. Some (unwrap_or o 0)) (sym is)
