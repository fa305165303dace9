-- Laws of states that are named by places of forms.
use Rattle.std.proofs.Common.{◌≡◌, ◌<◌, ◌||◌, ℕ, suc, zero, nat_eq, Bool, true, false, cond, List, [], ◌∷◌, ◌++◌, length, map, get_or, slice_get, Some, refl, sym, ◌∙◌, ap, ap₂, subst, arith}
use Rattle.std.specs.List.{list_any}
use Rattle.std.proofs.lemmas.Bool.{eqb-true}
use Rattle.merlin_model.specs.declared.policy.Path.{Path, Nothing}
use Rattle.merlin_model.proofs.Members.{all_both}
use Rattle.path_automaton.specs.States.{with_new}
use Rattle.path_regex.specs.Shared.{form_at, AreDistinct, AreFound, AddsForms}
use Rattle.path_automaton.proofs.Places.{is, is-same, is-itself, false-true}
use Rattle.path_regex.proofs.Sharing.{kept, within}

pub found-kept : {old new : List Path} → AddsForms old new → (ks : List ℕ) → AreFound old ks → AreFound new ks
found-kept g [] h = tt
found-kept g (k ∷ ks) h = (within g k h.0, found-kept g ks h.1)

pub forms-kept : {old new : List Path} → AddsForms old new → (ks : List ℕ) → AreFound old ks → map (form_at new) ks ≡ map (form_at old) ks
forms-kept g [] h = refl
forms-kept g (k ∷ ks) h = ap₂ (λ x l. x ∷ l) (kept g k h.0) (forms-kept g ks h.1)

-- the form of a state
pub at-found : (forms : List Path) (ks : List ℕ) (i d : ℕ) → i < length ks → get_or (map (form_at forms) ks) i Nothing ≡ form_at forms (get_or ks i d)
at-found forms [] i d lt = absurd (omega (arith, lt))
at-found forms (k ∷ ks) zero d lt = refl
at-found forms (k ∷ ks) (suc i) d lt = at-found forms ks i d (omega arith)

pub get-found : (forms : List Path) (ks : List ℕ) (i k : ℕ) → slice_get ks i ≡ Some k → slice_get (map (form_at forms) ks) i ≡ Some (form_at forms k)
get-found forms [] i k e = cc
get-found forms (j ∷ ks) zero k e = let same : j ≡ k = cc in ap (λ n. Some (form_at forms n)) same
get-found forms (j ∷ ks) (suc i) k e = get-found forms ks i k e

module _ (forms : List Path) (d : AreDistinct forms) (next : ℕ) (lt : next < length forms) where
  one-test : (k : ℕ) → k < length forms → nat_eq next k ≡ is (form_at forms next) (form_at forms k)
  one-test k ltk = by (nat_eq next k) refl (is (form_at forms next) (form_at forms k)) refl
    where
      by : (s : Bool) → nat_eq next k ≡ s → (t : Bool) → is (form_at forms next) (form_at forms k) ≡ t → s ≡ t
      by true e true f = refl
      by true e false f = absurd (false-true (sym f ∙ subst (λ j. is (form_at forms next) (form_at forms j) ≡ true) (eqb-true next k e) (is-itself (form_at forms next))))
      by false e true f = absurd (false-true (sym e ∙ same (d next k lt ltk (is-same (form_at forms next) (form_at forms k) f))))
        where
          same : next ≡ k → nat_eq next k ≡ true
          same e = grind arith
      by false e false f = refl

  tests : (ks : List ℕ) → AreFound forms ks → list_any (nat_eq next) ks ≡ list_any (λ b. is (form_at forms next) b) (map (form_at forms) ks)
  tests [] h = refl
  tests (k ∷ ks) h = ap₂ (λ s t. s || t) (one-test k h.0) (tests ks h.1)

  snoc-map : (ks : List ℕ) → map (form_at forms) (ks ++ next ∷ []) ≡ map (form_at forms) ks ++ form_at forms next ∷ []
  snoc-map [] = refl
  snoc-map (k ∷ ks) = ap (λ l. form_at forms k ∷ l) (snoc-map ks)

  pub with_new-found : (ks : List ℕ) → AreFound forms ks → map (form_at forms) (cond (list_any (nat_eq next) ks) ks (ks ++ next ∷ [])) ≡ with_new (map (form_at forms) ks) (form_at forms next)
  with_new-found ks h =
      by (list_any (nat_eq next) ks)
      ∙ ap (λ t. cond t (map (form_at forms) ks) (map (form_at forms) ks ++ form_at forms next ∷ [])) (tests ks h)
    where
      by : (t : Bool) → map (form_at forms) (cond t ks (ks ++ next ∷ [])) ≡ cond t (map (form_at forms) ks) (map (form_at forms) ks ++ form_at forms next ∷ [])
      by true = refl
      by false = snoc-map ks

  pub found-more : (ks : List ℕ) → AreFound forms ks → AreFound forms (cond (list_any (nat_eq next) ks) ks (ks ++ next ∷ []))
  found-more ks h = by (list_any (nat_eq next) ks)
    where
      by : (t : Bool) → AreFound forms (cond t ks (ks ++ next ∷ []))
      by true = h
      by false = all_both (λ k. k < length forms) ks (next ∷ []) h (lt, tt)
