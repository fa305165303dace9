-- Names that stand twice, looked for one after another beside those that were met.
use Rattle.std.proofs.Common.{◌≡◌, ◌≢◌, ◌+◌, ◌<◌, ◌≤◌, ◌||◌, ℕ, Bool, true, false, not, cond, List, [], ◌∷◌, ◌++◌, length, take, drop, get_or, map, filter, Some, slice_get, refl, sym, ◌∙◌, ap, append_assoc, append-nil, length-append}
use Rattle.std.specs.Prelude.{bytes_eq, filter_map}
use Rattle.std.specs.List.{enumerate_from, list_any, AllByRecursion}
use Rattle.std.proofs.lemmas.List.{take_at, take_more, at_drop_all}
use Rattle.std.proofs.lemmas.List.Folds.{list_any-append}
use Rattle.std.proofs.lemmas.Slice.Eq.{bytes_eq-Decides}
use Rattle.merlin_model.specs.declared.policy.Part.{Part}
use Rattle.merlin_model.specs.declared.policy.Part.TheVariants.{Id, Constant}
use Rattle.merlin_model.specs.Networks.{AreDifferent}
use Rattle.merlin_model.specs.Rates.{id_of_part}
use Rattle.localise.specs.Faults.{is_among, is_repeated_at, repeats_in}
use Rattle.localise.proofs.Through.{here}

-- the names among the second that stand among the first, or before their places
abbrev pub later : List (List ℕ) → List (List ℕ) → List (List ℕ)
later met [] = []
later met (name ∷ names) = cond (is_among met name) (name ∷ later (met ++ name ∷ []) names) (later (met ++ name ∷ []) names)

later_are : (met names : List (List ℕ)) → map (λ n. n.1) (filter (is_repeated_at (met ++ names)) (enumerate_from (length met) names)) ≡ later met names
later_are met [] = refl
later_are met (name ∷ names) =
    let behind = step (later_are (met ++ name ∷ []) names) in
    first (found (met ++ name ∷ names) (length met + 1)) ∙ (λ k. cond (before k) (name ∷ behind k) (behind k))
  where
    found : List (List ℕ) → ℕ → List (ℕ × List ℕ)
    found all n = filter (is_repeated_at all) (enumerate_from n names)

    first : (others : List (ℕ × List ℕ)) → map (λ n. n.1) (cond (is_repeated_at (met ++ name ∷ names) (length met, name)) ((length met, name) ∷ others) others)
        ≡ cond (is_repeated_at (met ++ name ∷ names) (length met, name)) (name ∷ map (λ n. n.1) others) (map (λ n. n.1) others)
    first others = by (is_repeated_at (met ++ name ∷ names) (length met, name))
      where
        by : (b : Bool) → map (λ n. n.1) (cond b ((length met, name) ∷ others) others) ≡ cond b (name ∷ map (λ n. n.1) others) (map (λ n. n.1) others)
        by true = refl
        by false = refl

    before : is_repeated_at (met ++ name ∷ names) (length met, name) ≡ is_among met name
    before = ap (λ front. is_among front name) (take_at met (name ∷ names) (length met) refl)

    step : map (λ n. n.1) (found ((met ++ name ∷ []) ++ names) (length (met ++ name ∷ []))) ≡ later (met ++ name ∷ []) names → map (λ n. n.1) (found (met ++ name ∷ names) (length met + 1)) ≡ later (met ++ name ∷ []) names
    step rest =
        (λ k. map (λ n. n.1) (found (sym (append_assoc met (name ∷ []) names) k) (sym (length-append met (name ∷ [])) k)))
        ∙ rest

pub repeats_are : (names : List (List ℕ)) → repeats_in names ≡ later [] names
repeats_are names = later_are [] names

pub bytes_eq-sym : (a b : List ℕ) → bytes_eq a b ≡ bytes_eq b a
bytes_eq-sym a b = by (bytes_eq a b) (bytes_eq b a) refl refl
  where
    by : (x y : Bool) → bytes_eq a b ≡ x → bytes_eq b a ≡ y → x ≡ y
    by true true e f = refl
    by true false e f = sym ((bytes_eq-Decides b a).1 (sym ((bytes_eq-Decides a b).0 e))) ∙ f
    by false true e f = sym e ∙ (bytes_eq-Decides a b).1 (sym ((bytes_eq-Decides b a).0 f))
    by false false e f = refl

weaken : {X : Type 0} {P Q : X → Type 0} → ((x : X) → P x → Q x) → (xs : List X) → AllByRecursion P xs → AllByRecursion Q xs
weaken f [] h = tt
weaken f (x ∷ xs) h = (f x h.0, weaken f xs h.1)

neither : (a b : Bool) → (a || (b || false)) ≡ false → (a ≡ false) × (b ≡ false)
neither true b e = cc
neither false true e = cc
neither false false e = (refl, refl)

-- a name more among those that were met
pub among_more : (met : List (List ℕ)) (name other : List ℕ) → is_among (met ++ name ∷ []) other ≡ (is_among met other || (bytes_eq name other || false))
among_more met name other = list_any-append (λ n. bytes_eq n other) met (name ∷ [])

unlike : (a b : List ℕ) → bytes_eq a b ≡ false → a ≢ b
unlike a b e same = no (sym ((bytes_eq-Decides a b).1 same) ∙ e)
  where
    no : true ≡ false → ⊥
    no e = cc

apart : (met names : List (List ℕ)) → later met names ≡ [] → AllByRecursion (λ name. is_among met name ≡ false) names × AreDifferent names
apart met [] e = (tt, tt)
apart met (name ∷ names) e = by (is_among met name) refl e (apart (met ++ name ∷ []) names)
  where
    by : (b : Bool) → is_among met name ≡ b → cond b (name ∷ later (met ++ name ∷ []) names) (later (met ++ name ∷ []) names) ≡ []
        → (later (met ++ name ∷ []) names ≡ [] → AllByRecursion (λ other. is_among (met ++ name ∷ []) other ≡ false) names × AreDifferent names)
        → AllByRecursion (λ other. is_among met other ≡ false) (name ∷ names) × AreDifferent (name ∷ names)
    by true new e rest = cc
    by false new e rest =
        let others = rest e in
        let told = λ (other : List ℕ) (h : is_among (met ++ name ∷ []) other ≡ false). neither (is_among met other) (bytes_eq name other) (sym (among_more met name other) ∙ h) in
        ((new, weaken (λ other h. (told other h).0) names others.0), (weaken (λ other h. unlike name other (told other h).1) names others.0, others.1))

-- without a repetition the names differ
pub differ : (names : List (List ℕ)) → repeats_in names ≡ [] → AreDifferent names
differ names e = (apart [] names (sym (repeats_are names) ∙ e)).1

-- The ids among the parts of a term, up to a place and from it on.
module _ (parts : List Part) (i : ℕ) (part : Part) (within : i < length parts) (is : part ≡ get_or parts i part) where
  front : filter_map id_of_part (take (i + 1) parts) ≡ filter_map id_of_part (take i parts) ++ filter_map id_of_part (part ∷ [])
  front = ap (filter_map id_of_part) (take_more parts i part within ∙ ap (λ y. take i parts ++ y ∷ []) (sym is)) ∙ both (take i parts)
    where
      both : (ps : List Part) → filter_map id_of_part (ps ++ part ∷ []) ≡ filter_map id_of_part ps ++ filter_map id_of_part (part ∷ [])
      both [] = refl
      both (Id id ∷ ps) = ap (λ names. id ∷ names) (both ps)
      both (Constant rate ∷ ps) = both ps

  back : filter_map id_of_part (drop i parts) ≡ filter_map id_of_part (part ∷ drop (i + 1) parts)
  back = here (filter_map id_of_part) parts i part within is

  pub front_id : (id : List ℕ) → part ≡ Id id → filter_map id_of_part (take (i + 1) parts) ≡ filter_map id_of_part (take i parts) ++ id ∷ []
  front_id id named = front ∙ ap (λ p. filter_map id_of_part (take i parts) ++ filter_map id_of_part (p ∷ [])) named

  pub back_id : (id : List ℕ) → part ≡ Id id → filter_map id_of_part (drop i parts) ≡ id ∷ filter_map id_of_part (drop (i + 1) parts)
  back_id id named = back ∙ ap (λ p. filter_map id_of_part (p ∷ drop (i + 1) parts)) named

  pub front_constant : (rate : ℕ) → part ≡ Constant rate → filter_map id_of_part (take (i + 1) parts) ≡ filter_map id_of_part (take i parts)
  front_constant rate named = front ∙ (ap (λ p. filter_map id_of_part (take i parts) ++ filter_map id_of_part (p ∷ [])) named ∙ append-nil (filter_map id_of_part (take i parts)))

  pub back_constant : (rate : ℕ) → part ≡ Constant rate → filter_map id_of_part (drop i parts) ≡ filter_map id_of_part (drop (i + 1) parts)
  back_constant rate named = back ∙ ap (λ p. filter_map id_of_part (p ∷ drop (i + 1) parts)) named

  -- With the repetitions that are still to come.
  module _ (clear : later (filter_map id_of_part (take i parts)) (filter_map id_of_part (drop i parts)) ≡ later [] (filter_map id_of_part parts)) where
    at_id : (id : List ℕ) → part ≡ Id id → later (filter_map id_of_part (take i parts)) (filter_map id_of_part (drop i parts))
        ≡ cond (is_among (filter_map id_of_part (take i parts)) id) (id ∷ later (filter_map id_of_part (take (i + 1) parts)) (filter_map id_of_part (drop (i + 1) parts))) (later (filter_map id_of_part (take (i + 1) parts)) (filter_map id_of_part (drop (i + 1) parts)))
    at_id id named = ap (later (filter_map id_of_part (take i parts))) (back_id id named) ∙ ap (λ met. cond (is_among (filter_map id_of_part (take i parts)) id) (id ∷ later met (filter_map id_of_part (drop (i + 1) parts))) (later met (filter_map id_of_part (drop (i + 1) parts)))) (sym (front_id id named))

    pub repeated_here : (id : List ℕ) → part ≡ Id id → is_among (filter_map id_of_part (take i parts)) id ≡ true → slice_get (repeats_in (filter_map id_of_part parts)) 0 ≡ Some id
    repeated_here id named met =
        ap (λ names. slice_get names 0) (repeats_are (filter_map id_of_part parts) ∙ (sym clear ∙ (at_id id named ∙ ap (λ b. cond b (id ∷ later (filter_map id_of_part (take (i + 1) parts)) (filter_map id_of_part (drop (i + 1) parts))) (later (filter_map id_of_part (take (i + 1) parts)) (filter_map id_of_part (drop (i + 1) parts)))) met)))

    pub new_here : (id : List ℕ) → part ≡ Id id → is_among (filter_map id_of_part (take i parts)) id ≡ false → later (filter_map id_of_part (take (i + 1) parts)) (filter_map id_of_part (drop (i + 1) parts)) ≡ later [] (filter_map id_of_part parts)
    new_here id named new =
        sym (at_id id named ∙ ap (λ b. cond b (id ∷ later (filter_map id_of_part (take (i + 1) parts)) (filter_map id_of_part (drop (i + 1) parts))) (later (filter_map id_of_part (take (i + 1) parts)) (filter_map id_of_part (drop (i + 1) parts)))) new) ∙ clear

    pub constant_here : (rate : ℕ) → part ≡ Constant rate → later (filter_map id_of_part (take (i + 1) parts)) (filter_map id_of_part (drop (i + 1) parts)) ≡ later [] (filter_map id_of_part parts)
    constant_here rate named = (λ k. later (front_constant rate named k) (sym (back_constant rate named) k)) ∙ clear

pub none_repeated : (parts : List Part) (i : ℕ) → length parts ≤ i → later (filter_map id_of_part (take i parts)) (filter_map id_of_part (drop i parts)) ≡ later [] (filter_map id_of_part parts) → repeats_in (filter_map id_of_part parts) ≡ []
none_repeated parts i past clear = repeats_are (filter_map id_of_part parts) ∙ (sym clear ∙ at_drop_all (λ ps. later (filter_map id_of_part (take i parts)) (filter_map id_of_part ps)) parts i past)

-- what an insertion says of a name
pub was_met : (new met : Bool) → new ≡ not met → new ≡ false → met ≡ true
was_met new true e f = refl
was_met new false e f = cc

pub was_new : (new met : Bool) → new ≡ not met → new ≡ true → met ≡ false
was_new new true e f = cc
was_new new false e f = refl
