-- Names of which none stands before its place differ.
use Rattle.std.proofs.Common.{◌≡◌, ◌≢◌, ◌+◌, ◌≤◌, ℕ, Bool, true, false, cond, ◌||◌, List, [], ◌∷◌, ◌++◌, length, map, Option, None, Some, option_map, refl, sym, ◌∙◌, ap, subst, append_assoc, arith}
use Rattle.std.specs.Prelude.{find, bytes_eq, nat_lt, Ok, Err}
use Rattle.std.specs.List.{enumerate_from, list_any, AllByRecursion}
use Rattle.std.specs.Option.{option_or, option_map_or}
use Rattle.std.proofs.lemmas.List.{take_at, length_push, length-map}
use Rattle.std.proofs.lemmas.List.Folds.{list_any-append}
use Rattle.std.proofs.lemmas.Slice.Eq.{bytes_eq-Decides}
use Rattle.merlin_model.specs.Networks.{AreDifferent}
use Rattle.policy_expansion.specs.declared.limits.TheConstants.{MAX_STATEMENTS}
use Rattle.policy_grammar.specs.declared.written.WrittenPolicy.{WrittenPolicy}
use Rattle.policy_expansion.specs.declared.policy.Policy.{Policy}
use Rattle.policy_expansion.specs.declared.policy.ExpansionFault.{ExpansionFault}
use Rattle.policy_expansion.specs.declared.policy.ExpansionFault.TheVariants.{TooManyStatements, DuplicateId}
use Rattle.policy_expansion.specs.WrittenOut.{known_literals, statements_of}
use Rattle.policy_expansion.specs.Faults.{stands_before, first_repeat, duplicate_set, mixed_set, unknown_set, count_of_default, too_many, duplicate_id, fault_of}
use Rattle.policy_expansion.specs.Expansion.{plain, policy_of, expansion}
use Rattle.policy_expansion.specs.Kept.{IsExpanded}
use Rattle.policy_expansion.proofs.Ordered.{same_ids}

weaken : {X : Type 0} (P Q : X → Type 0) → ((x : X) → P x → Q x) → (xs : List X) → AllByRecursion P xs → AllByRecursion Q xs
weaken P Q step [] h = tt
weaken P Q step (x ∷ xs) h = (step x h.0, weaken P Q step xs h.1)

abbrev stands_in : List (List ℕ) → List ℕ → Bool
stands_in names name = list_any (λ other. bytes_eq other name) names

not_first : {X : Type 0} (b : Bool) (x : X) (rest : Option X) → cond b (Some x) rest ≡ None → (b ≡ false) × (rest ≡ None)
not_first true x rest e = cc
not_first false x rest e = (refl, e)

neither : (a b : Bool) → (a || (b || false)) ≡ false → (a ≡ false) × (b ≡ false)
neither true b e = cc
neither false true e = cc
neither false false e = (refl, refl)

-- with the names before them: none of the others is among these, and they differ
differ_after : (before names : List (List ℕ)) → find (stands_before (before ++ names)) (enumerate_from (length before) names) ≡ None
    → AllByRecursion (λ name. stands_in before name ≡ false) names × AreDifferent names
differ_after before [] e = (tt, tt)
differ_after before (x ∷ names) e = by (differ_after (before ++ x ∷ []) names longer)
  where
    here : (stands_before (before ++ (x ∷ names)) (length before, x) ≡ false) × (find (stands_before (before ++ (x ∷ names))) (enumerate_from (length before + 1) names) ≡ None)
    here = not_first (stands_before (before ++ (x ∷ names)) (length before, x)) (length before, x) (find (stands_before (before ++ (x ∷ names))) (enumerate_from (length before + 1) names)) e

    longer : find (stands_before ((before ++ x ∷ []) ++ names)) (enumerate_from (length (before ++ x ∷ [])) names) ≡ None
    longer = ap (λ all. find (stands_before all) (enumerate_from (length (before ++ x ∷ [])) names)) (append_assoc before (x ∷ []) names) ∙ (ap (λ n. find (stands_before (before ++ (x ∷ names))) (enumerate_from n names)) (length_push before x) ∙ here.1)

    new : stands_in before x ≡ false
    new = ap (λ front. stands_in front x) (sym (take_at before (x ∷ names) (length before) refl)) ∙ here.0

    apart : (name : List ℕ) → stands_in (before ++ x ∷ []) name ≡ false → (stands_in before name ≡ false) × (bytes_eq x name ≡ false)
    apart name h = neither (stands_in before name) (bytes_eq x name) (sym (list_any-append (λ other. bytes_eq other name) before (x ∷ [])) ∙ h)

    unlike_x : (name : List ℕ) → stands_in (before ++ x ∷ []) name ≡ false → x ≢ name
    unlike_x name h same = let t = (bytes_eq-Decides x name).1 same in let f = (apart name h).1 in cc

    by : AllByRecursion (λ name. stands_in (before ++ x ∷ []) name ≡ false) names × AreDifferent names → AllByRecursion (λ name. stands_in before name ≡ false) (x ∷ names) × AreDifferent (x ∷ names)
    by h = ((new, weaken _ _ (λ name k. (apart name k).0) names h.0), (weaken _ _ unlike_x names h.0, h.1))

none_below : {X Y : Type 0} (f : X → Y) (o : Option X) → option_map f o ≡ None → o ≡ None
none_below f None e = refl
none_below f (Some x) e = cc

pub different_names : (names : List (List ℕ)) → first_repeat names ≡ None → AreDifferent names
different_names names e = (differ_after [] names (none_below (λ name. name.1) _ e)).1

later_none : (a b : Option ExpansionFault) → option_or a b ≡ None → b ≡ None
later_none None b e = e
later_none (Some f) b e = cc

first_none : (a b : Option ExpansionFault) → option_or a b ≡ None → a ≡ None
first_none None b e = refl
first_none (Some f) b e = cc

within : (count : ℕ) → too_many count ≡ None → count ≤ MAX_STATEMENTS
within count e = grind (arith, not_first (nat_lt MAX_STATEMENTS count) (TooManyStatements (MAX_STATEMENTS + 1)) None e)

pub told : (o : Option ExpansionFault) (made policy : Policy) → option_map_or Err o (Ok made) ≡ Ok policy → (o ≡ None) × (made ≡ policy)
told None made policy e = (refl, cc)
told (Some f) made policy e = cc

pub is_expanded : (w : WrittenPolicy) (policy : Policy) → expansion w ≡ Ok policy → IsExpanded policy
is_expanded w policy e =
    let t = told (fault_of w) (policy_of w) policy e in
    let count = length (statements_of w) + count_of_default w.default_path in
    let ids_told = duplicate_id (map (λ s. s.id) (statements_of w)) in
    let count_told = option_or (too_many count) ids_told in
    let names_told = option_or (unknown_set (known_literals w.sets) w.items) count_told in
    let kinds_told = option_or (mixed_set w.sets) names_told in
    let counted = later_none (unknown_set (known_literals w.sets) w.items) count_told (later_none (mixed_set w.sets) names_told (later_none (duplicate_set w.sets) kinds_told t.0)) in
    let few : count ≤ MAX_STATEMENTS = within count (first_none (too_many count) ids_told counted) in
    let ids = none_below DuplicateId (first_repeat (map (λ s. s.id) (statements_of w))) (later_none (too_many count) ids_told counted) in
    subst IsExpanded t.1 (record {
      few = subst (λ (n : ℕ). n + count_of_default w.default_path ≤ MAX_STATEMENTS) (sym (length-map (statements_of w) plain)) few;
      ids = subst AreDifferent (sym (same_ids (statements_of w))) (different_names (map (λ s. s.id) (statements_of w)) ids);
    })
