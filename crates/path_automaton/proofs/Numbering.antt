-- A path has one list of states over a list of symbols.
use Rattle.std.proofs.Common.{◌≡◌, inl, inr, append_assoc, ◌<◌, ◌≤◌, ℕ, suc, zero, Bool, true, false, List, [], ◌∷◌, ◌++◌, nat_lt, length, take, get_or, slice_get, Contains, Some, refl, sym, ◌∙◌, ap, subst, arith}
use Rattle.std.specs.List.{flat_map}
use Rattle.std.proofs.lemmas.List.{take_all}
use Rattle.std.proofs.Math.Seq.{take-suc}
use Rattle.merlin_model.specs.declared.policy.Symbol.{Symbol}
use Rattle.merlin_model.specs.declared.policy.Path.{Path, Nothing}
use Rattle.merlin_model.proofs.Members.{In, in_from, map_in, flat_map_in}
use Rattle.path_regex.specs.Normal.{normal_of}
use Rattle.path_regex.specs.Derivatives.{derivative_of}
use Rattle.path_regex.specs.States.{rest_after}
use Rattle.path_automaton.specs.States.{IsMadeOf, IsReached, with_all_new, followers, AreStates}
use Rattle.path_automaton.specs.Followed.{AreApart}
use Rattle.path_automaton.proofs.Noting.{with_all_new-more, with_all_new-append, with_all_new-place}
use Rattle.path_automaton.proofs.Building.{get-below, below-get, in-get, all-get, one-place}
use Rattle.path_automaton.proofs.Following.{with_all_new-different}

-- Fronts of lists.

take-in : (xs : List Path) (k j : ℕ) (a : Path) → j < k → slice_get xs j ≡ Some a → In a (take k xs)
take-in [] k j a lt e = cc
take-in (x ∷ xs) zero j a lt e = absurd (omega (arith, lt))
take-in (x ∷ xs) (suc k) zero a lt e = inl cc
take-in (x ∷ xs) (suc k) (suc j) a lt e = inr (take-in xs k j a (omega arith) e)

in-take : (xs : List Path) (k : ℕ) (a : Path) → In a (take k xs) → (j : ℕ) × (j < k) × (slice_get xs j ≡ Some a)
in-take [] zero a i = absurd i
in-take [] (suc k) a i = absurd i
in-take (x ∷ xs) zero a i = absurd i
in-take (x ∷ xs) (suc k) a (inl e) = (0, omega arith, ap Some (sym e))
in-take (x ∷ xs) (suc k) a (inr i) = let rest = in-take xs k a i in let lt : rest.0 < k = rest.1 in (suc rest.0, omega arith, rest.2)

flat-front : (f : Path → List Path) (xs : List Path) (k : ℕ) → (more : List Path) × (flat_map f xs ≡ flat_map f (take k xs) ++ more)
flat-front f [] zero = ([], refl)
flat-front f [] (suc k) = ([], refl)
flat-front f (x ∷ xs) zero = (flat_map f (x ∷ xs), refl)
flat-front f (x ∷ xs) (suc k) = let rest = flat-front f xs k in (rest.0, ap (λ l. f x ++ l) rest.1 ∙ sym (append_assoc (f x) (flat_map f (take k xs)) rest.0))

get-front : (xs ys : List Path) (k : ℕ) → k < length xs → slice_get (xs ++ ys) k ≡ slice_get xs k
get-front [] ys k lt = absurd (omega (arith, lt))
get-front (x ∷ xs) ys zero lt = refl
get-front (x ∷ xs) ys (suc k) lt = get-front xs ys k (omega arith)

module _ (path : Path) (symbols : List Symbol) where
  abbrev first : Path
  first = normal_of path

  -- what is found by following these
  abbrev found : List Path → List Path
  found xs = with_all_new (first ∷ []) (flat_map (followers symbols) xs)

  -- what is found by the first of the states begins the states
  found-front : (forms : List Path) → AreStates path symbols forms → (k : ℕ) → (more : List Path) × (forms ≡ found (take k forms) ++ more)
  found-front forms h k =
      let front = flat-front (followers symbols) forms k in
      let more = with_all_new-more (found (take k forms)) front.0 in
      (more.0, h.in_order ∙ ap (with_all_new (first ∷ [])) front.1 ∙ with_all_new-append (first ∷ []) (flat_map (followers symbols) (take k forms)) front.0 ∙ more.1)

  pub states-differ : (forms : List Path) → AreStates path symbols forms → AreApart forms
  states-differ forms h = subst AreApart (sym h.in_order) (with_all_new-different (first ∷ []) (flat_map (followers symbols) forms) single)
    where
      single : AreApart (first ∷ [])
      single i j d lt long same = let no : ⊥ = omega (arith, lt, long) in no

  -- what follows stays among paths that are followed by none but themselves
  stays-among : (all : List Path) → ((a : Path) (x : Symbol) → In a all → Contains symbols x → In (derivative_of a x) all) → (w : List Symbol) → IsMadeOf symbols w → (a : Path) → In a all → In (rest_after a w) all
  stays-among all f [] h a i = i
  stays-among all f (x ∷ w) h a i = stays-among all f w h.1 (derivative_of a x) (f a x i h.0)

  -- while a state is left, the states before it are followed by more than themselves
  found-more : (forms : List Path) → AreStates path symbols forms → (k : ℕ) → k < length forms → k < length (found (take k forms))
  found-more forms h k lt = by (nat_lt k (length (found (take k forms)))) refl
    where
      -- what is found stands among the states before
      among : length (found (take k forms)) ≤ k → (j : ℕ) (a : Path) → slice_get (found (take k forms)) j ≡ Some a → In a (take k forms)
      among few j a e =
          let front = found-front forms h k in
          let inside = get-below (found (take k forms)) j a e in
          take-in forms k j a (omega arith) (ap (λ l. slice_get l j) front.1 ∙ get-front (found (take k forms)) front.0 j inside ∙ e)

      closed : length (found (take k forms)) ≤ k → (a : Path) (x : Symbol) → In a (take k forms) → Contains symbols x → In (derivative_of a x) (take k forms)
      closed few a x i s =
          let there : In (derivative_of a x) (flat_map (followers symbols) (take k forms)) = flat_map_in (followers symbols) (take k forms) a (derivative_of a x) i (map_in (λ y. derivative_of a y) symbols x (in_from symbols x s)) in
          let at = in-get (flat_map (followers symbols) (take k forms)) (derivative_of a x) there in
          let place = with_all_new-place (first ∷ []) (flat_map (followers symbols) (take k forms)) at.0 (derivative_of a x) at.1 in
          among few place.0 (derivative_of a x) place.1

      start : length (found (take k forms)) ≤ k → In first (take k forms)
      start few =
          let more = with_all_new-more (first ∷ []) (flat_map (followers symbols) (take k forms)) in
          among few 0 first (ap (λ l. slice_get l 0) more.1)

      by : (t : Bool) → nat_lt k (length (found (take k forms))) ≡ t → k < length (found (take k forms))
      by true e = grind arith
      by false e =
          let few : length (found (take k forms)) ≤ k = grind arith in
          let form = below-get forms k lt in
          let way = all-get (IsReached path symbols) forms k form.0 h.reached form.1 in
          let there : In form.0 (take k forms) = subst (λ a. In a (take k forms)) (sym way.2) (stays-among (take k forms) (closed few) way.0 way.1 first (start few)) in
          let at = in-take forms k form.0 there in
          let below : at.0 < k = at.1 in
          let same : at.0 ≡ k = one-place forms (states-differ forms h) at.0 k form.0 at.2 form.1 in
          absurd (omega (arith, below, same))

  same-fronts : (forms others : List Path) → AreStates path symbols forms → AreStates path symbols others → (k : ℕ) → k ≤ length forms → k ≤ length others → take k forms ≡ take k others
  same-fronts forms others h g zero le1 le2 = refl
  same-fronts forms others h g (suc k) le1 le2 =
      let same : take k forms ≡ take k others = same-fronts forms others h g k (omega arith) (omega arith) in
      let long = found-more forms h k (omega arith) in
      let one = found-front forms h k in
      let two = found-front others g k in
      let long2 : k < length (found (take k others)) = subst (λ l. k < length (found l)) same long in
      let last : get_or forms k Nothing ≡ get_or others k Nothing =
      ap (λ l. get_or l k Nothing) one.1 ∙ get_or-front (found (take k forms)) one.0 k long ∙ ap (λ l. get_or (found l) k Nothing) same
      ∙ sym (ap (λ l. get_or l k Nothing) two.1 ∙ get_or-front (found (take k others)) two.0 k long2) in
      take-suc forms k Nothing (omega arith) ∙ ap (λ l. l ++ get_or forms k Nothing ∷ []) same ∙ ap (λ a. take k others ++ a ∷ []) last ∙ sym (take-suc others k Nothing (omega arith))
    where
      get_or-front : (xs ys : List Path) (i : ℕ) → i < length xs → get_or (xs ++ ys) i Nothing ≡ get_or xs i Nothing
      get_or-front [] ys i lt = absurd (omega (arith, lt))
      get_or-front (x ∷ xs) ys zero lt = refl
      get_or-front (x ∷ xs) ys (suc i) lt = get_or-front xs ys i (omega arith)

  one-by-length : (forms others : List Path) → AreStates path symbols forms → AreStates path symbols others → length forms ≤ length others → forms ≡ others
  one-by-length forms others h g le = by (nat_lt (length forms) (length others)) refl
    where
      begins : take (length forms) others ≡ forms
      begins = sym (same-fronts forms others h g (length forms) (omega arith) le) ∙ take_all (length forms) forms (omega arith)

      by : (t : Bool) → nat_lt (length forms) (length others) ≡ t → forms ≡ others
      by true e =
          let lt : length forms < length others = grind arith in
          let more : length forms < length (found (take (length forms) others)) = found-more others g (length forms) lt in
          let same : length (found (take (length forms) others)) ≡ length forms = ap (λ l. length (found l)) begins ∙ ap length (sym h.in_order) in
          absurd (omega (arith, more, same))
      by false e = let long : length others ≤ length forms = grind arith in sym begins ∙ take_all (length forms) others long

  pub one-numbering : (forms others : List Path) → AreStates path symbols forms → AreStates path symbols others → forms ≡ others
  one-numbering forms others h g = by (nat_lt (length others) (length forms)) refl
    where
      by : (t : Bool) → nat_lt (length others) (length forms) ≡ t → forms ≡ others
      by true e = let le : length others ≤ length forms = grind arith in sym (one-by-length others forms g h le)
      by false e = let le : length forms ≤ length others = grind arith in one-by-length forms others h g le
