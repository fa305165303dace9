-- A path with few states has not many: each form that is reached is among its states.
use Rattle.std.proofs.Common.{◌≡◌, ◌≢◌, ◌≤◌, ◌⊎◌, inl, inr, ℕ, zero, suc, List, [], ◌∷◌, ◌++◌, length, Contains, Some, unwrap_or, slice_get, refl, sym, ap, subst, arith}
use Rattle.std.specs.List.{flat_map}
use Rattle.merlin_model.specs.declared.policy.Symbol.{Symbol}
use Rattle.merlin_model.specs.declared.policy.Path.{Path}
use Rattle.merlin_model.specs.Networks.{AreDifferent}
use Rattle.merlin_model.proofs.Members.{In, in_from, in_append, in_append-left, in_append-right, map_in, flat_map_in, all_in}
use Rattle.path_regex.specs.Normal.{normal_of}
use Rattle.path_regex.specs.Derivatives.{derivative_of}
use Rattle.path_regex.specs.States.{rest_after}
use Rattle.path_automaton.specs.States.{IsMadeOf, IsReached, with_all_new, followers, AreStates, HasStates}
use Rattle.path_automaton.specs.declared.exploring.TheConstants.{MAX_STATES}
use Rattle.path_automaton.proofs.Noting.{with_all_new-keeps, with_all_new-place}
use Rattle.policy_check.specs.Rules.{HasFewStates}

-- Different elements of a list are no more than it has.

around : {X : Type 0} (x : X) (ys : List X) → In x ys → (us : List X) × (vs : List X) × (ys ≡ us ++ x ∷ vs)
around x [] h = absurd h
around x (y ∷ ys) (inl e) = ([], ys, ap (λ z. z ∷ ys) (sym e))
around x (y ∷ ys) (inr h) = let s = around x ys h in (y ∷ s.0, s.1, ap (λ zs. y ∷ zs) s.2)

one-longer : {X : Type 0} (us vs : List X) (x : X) → length (us ++ x ∷ vs) ≡ suc (length (us ++ vs))
one-longer [] vs x = refl
one-longer (u ∷ us) vs x = ap suc (one-longer us vs x)

no-more : {X : Type 0} (xs ys : List X) → AreDifferent xs → ((x : X) → In x xs → In x ys) → length xs ≤ length ys
no-more [] ys different within = omega arith
no-more {X} (x ∷ xs) ys different within = by (λ zs. no-more xs zs different.1) (around x ys (within x (inl refl)))
  where
    by : ((zs : List X) → ((y : X) → In y xs → In y zs) → length xs ≤ length zs) → (us : List X) × (vs : List X) × (ys ≡ us ++ x ∷ vs) → length (x ∷ xs) ≤ length ys
    by shorter (us, vs, is) =
        let rest = shorter (us ++ vs) other in
        let longer = one-longer us vs x in
        let long : length ys ≡ length (us ++ x ∷ vs) = ap length is in
        omega (arith, rest, longer, long)
      where
        side : (y : X) → In y xs → In y us ⊎ In y (x ∷ vs) → In y (us ++ vs)
        side y i (inl j) = in_append-left us vs y j
        side y i (inr (inl e)) = absurd (all_in (λ v. x ≢ v) xs y different.0 i (sym e))
        side y i (inr (inr j)) = in_append-right us vs y j

        other : (y : X) → In y xs → In y (us ++ vs)
        other y i = side y i (in_append us (x ∷ vs) y (subst (In y) is (within y (inr i))))

-- Forms that are reached.

at-in : {X : Type 0} (xs : List X) (k : ℕ) (x : X) → slice_get xs k ≡ Some x → In x xs
at-in [] k x e = let no : ⊥ = cc in absurd no
at-in (y ∷ ys) zero x e = inl (sym (ap (λ o. unwrap_or o y) e))
at-in (y ∷ ys) (suc k) x e = inr (at-in ys k x e)

in-at : {X : Type 0} (xs : List X) (x : X) → In x xs → (k : ℕ) × (slice_get xs k ≡ Some x)
in-at [] x h = absurd h
in-at (y ∷ ys) x (inl e) = (0, ap Some (sym e))
in-at (y ∷ ys) x (inr h) = let r = in-at ys x h in (suc r.0, r.1)

module _ (symbols : List Symbol) (path : Path) (forms : List Path) (are : AreStates path symbols forms) where
  abbrev following : List Path
  following = flat_map (followers symbols) forms

  noted : (k : ℕ) (form : Path) → slice_get (with_all_new (normal_of path ∷ []) following) k ≡ Some form → In form forms
  noted k form e = subst (In form) (sym are.in_order) (at-in (with_all_new (normal_of path ∷ []) following) k form e)

  stays : (form : Path) (x : Symbol) → In form forms → Contains symbols x → In (derivative_of form x) forms
  stays form x i c =
      let at = in-at following (derivative_of form x) (flat_map_in (followers symbols) forms form (derivative_of form x) i (map_in (λ y. derivative_of form y) symbols x (in_from symbols x c))) in
      let found = with_all_new-place (normal_of path ∷ []) following at.0 (derivative_of form x) at.1 in
      noted found.0 (derivative_of form x) found.1

  leads : (w : List Symbol) (form : Path) → In form forms → IsMadeOf symbols w → In (rest_after form w) forms
  leads [] form i h = i
  leads (x ∷ w) form i h = leads w (derivative_of form x) (stays form x i h.0) h.1

  reached-in : (form : Path) → IsReached path symbols form → In form forms
  reached-in form h = subst (λ a. In a forms) (sym h.2) (leads h.0 (normal_of path) (noted 0 (normal_of path) (with_all_new-keeps (normal_of path ∷ []) following 0 (normal_of path) refl)) h.1)

pub not-many : (symbols : List Symbol) (path : Path) (count : ℕ) → HasFewStates symbols path → HasStates path symbols count → count ≤ MAX_STATES
not-many symbols path count f h =
    by (length h.forms) (length f.forms) (no-more h.forms f.forms h.different (λ a i. reached-in symbols path f.forms f.states a (all_in (IsReached path symbols) h.forms a h.reached i))) f.few h.many
  where
    by : (m n : ℕ) → m ≤ n → n ≤ MAX_STATES → count ≡ m → count ≤ MAX_STATES
    by m n few within many = omega (arith, few, within, many)
