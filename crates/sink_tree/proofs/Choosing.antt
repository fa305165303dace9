-- One edge more among which the best is chosen.
use Rattle.std.proofs.Common.{◌≡◌, ◌≢◌, ◌<◌, ◌≤◌, ◌+◌, ◌⊎◌, inl, inr, ℕ, suc, zero, Bool, true, false, nat_lt, List, [], ◌∷◌, ◌++◌, length, take, get_or, set, replicate, Contains, Option, None, Some, MatchOption, add-one, refl, sym, ◌∙◌, ap, subst, arith}
use Rattle.std.specs.Prelude.{⊤}
use Rattle.std.specs.List.{AllByRecursion}
use Rattle.std.proofs.lemmas.List.{length-set, get_or-set_same, get_or-set_other}
use Rattle.merlin_model.proofs.Members.{In, in_from, in_to, in_append, in_append-left, in_append-right}
use Rattle.sink_tree.specs.Nearest.{steps_at, IsNoWorse, IsNearer, IsChosen, IsNearest}
use Rattle.sink_tree.proofs.Places.{same-or-not}

lt-or-le : (a b : ℕ) → (a < b) ⊎ (b ≤ a)
lt-or-le a b = by (nat_lt a b) refl
  where
    by : (c : Bool) → nat_lt a b ≡ c → (a < b) ⊎ (b ≤ a)
    by true e = let lt : a < b = grind arith in inl lt
    by false e = let le : b ≤ a = grind arith in inr le

no-worse-after : (st sw sx t w x : ℕ) → (st < sw) ⊎ ((st ≡ sw) × (t < w)) → (sw < sx) ⊎ ((sw ≡ sx) × (w ≤ x)) → (st < sx) ⊎ ((st ≡ sx) × (t ≤ x))
no-worse-after st sw sx t w x (inl a) (inl b) = inl (omega (arith, a, b))
no-worse-after st sw sx t w x (inl a) (inr b) = let e = b.0 in inl (omega (arith, a, e))
no-worse-after st sw sx t w x (inr a) (inl b) = let e = a.0 in inl (omega (arith, b, e))
no-worse-after st sw sx t w x (inr a) (inr b) = let l = a.1 in let m = b.1 in inr (a.0 ∙ b.0, omega (arith, l, m))

no-better : (st sw t w : ℕ) → ((st < sw) ⊎ ((st ≡ sw) × (t < w)) → ⊥) → (sw < st) ⊎ ((sw ≡ st) × (w ≤ t))
no-better st sw t w h = by (lt-or-le sw st) (lt-or-le st sw) (lt-or-le t w)
  where
    by : (sw < st) ⊎ (st ≤ sw) → (st < sw) ⊎ (sw ≤ st) → (t < w) ⊎ (w ≤ t) → (sw < st) ⊎ ((sw ≡ st) × (w ≤ t))
    by (inl a) b c = inl a
    by (inr a) (inl b) c = absurd (h (inl b))
    by (inr a) (inr b) (inl c) = let same : st ≡ sw = omega (arith, a, b) in absurd (h (inr (same, c)))
    by (inr a) (inr b) (inr c) = let same : sw ≡ st = omega (arith, a, b) in inr (same, c)

module _ (distance : List (Option ℕ)) (done : List (ℕ × ℕ)) (from to : ℕ) where
  members : (v x : ℕ) → Contains (done ++ (from, to) ∷ []) (v, x) → Contains done (v, x) ⊎ ((v ≡ from) × (x ≡ to))
  members v x there = by (in_append done ((from, to) ∷ []) (v, x) (in_from (done ++ (from, to) ∷ []) (v, x) there))
    where
      by : In {X = ℕ × ℕ} (v, x) done ⊎ In {X = ℕ × ℕ} (v, x) ((from, to) ∷ []) → Contains done (v, x) ⊎ ((v ≡ from) × (x ≡ to))
      by (inl i) = inl (in_to done (v, x) i)
      by (inr (inl e)) = inr (ap (λ y. y.0) e, ap (λ y. y.1) e)
      by (inr (inr i)) = absurd i

  more : (v x : ℕ) → Contains done (v, x) → Contains (done ++ (from, to) ∷ []) (v, x)
  more v x there = in_to (done ++ (from, to) ∷ []) (v, x) (in_append-left done ((from, to) ∷ []) (v, x) (in_from done (v, x) there))

  own : Contains (done ++ (from, to) ∷ []) (from, to)
  own = in_to (done ++ (from, to) ∷ []) (from, to) (in_append-right done ((from, to) ∷ []) (from, to) (inl refl))

  elsewhere : (v : ℕ) (o : Option ℕ) → v ≢ from → IsNearest distance done v o → IsNearest distance (done ++ (from, to) ∷ []) v o
  elsewhere v None other h = λ x there. by x (members v x there)
    where
      by : (x : ℕ) → Contains done (v, x) ⊎ ((v ≡ from) × (x ≡ to)) → ⊥
      by x (inl old) = h x old
      by x (inr new) = other new.0
  elsewhere v (Some u) other h = (more v u h.0, λ x there. by x (members v x there))
    where
      by : (x : ℕ) → Contains done (v, x) ⊎ ((v ≡ from) × (x ≡ to)) → IsNoWorse distance u x
      by x (inl old) = h.1 x old
      by x (inr new) = absurd (other new.0)

  -- no vertex is worse than itself
  itself : (x : ℕ) → x ≡ to → IsNoWorse distance to x
  itself x e = inr (ap (steps_at distance) (sym e), omega (arith, e))

  taken : (o : Option ℕ) → IsNearer distance o to → IsNearest distance done from o → IsNearest distance (done ++ (from, to) ∷ []) from (Some to)
  taken None better h = (own, λ x there. by x (members from x there))
    where
      by : (x : ℕ) → Contains done (from, x) ⊎ ((from ≡ from) × (x ≡ to)) → IsNoWorse distance to x
      by x (inl old) = absurd (h x old)
      by x (inr new) = itself x new.1
  taken (Some w) better h = (own, λ x there. by x (members from x there))
    where
      by : (x : ℕ) → Contains done (from, x) ⊎ ((from ≡ from) × (x ≡ to)) → IsNoWorse distance to x
      by x (inl old) = no-worse-after (steps_at distance to) (steps_at distance w) (steps_at distance x) to w x better (h.1 x old)
      by x (inr new) = itself x new.1

  left : (o : Option ℕ) → (IsNearer distance o to → ⊥) → IsNearest distance done from o → IsNearest distance (done ++ (from, to) ∷ []) from o
  left None worse h = absurd (worse tt)
  left (Some w) worse h = (more from w h.0, λ x there. by x (members from x there))
    where
      by : (x : ℕ) → Contains done (from, x) ⊎ ((from ≡ from) × (x ≡ to)) → IsNoWorse distance w x
      by x (inl old) = h.1 x old
      by x (inr new) = subst (IsNoWorse distance w) (sym new.1) (no-better (steps_at distance to) (steps_at distance w) to w worse)

-- What is known after some edges.
pub record IsChoosing (distance : List (Option ℕ)) (done : List (ℕ × ℕ)) (next : List (Option ℕ)) : Type 0 where
  pub size : length next ≡ length distance
  pub below : (v : ℕ) → MatchOption (get_or next v None) ⊤ (λ u. u < length distance)
  pub each : (v : ℕ) → IsNearest distance done v (get_or next v None)

pub chosen : (distance : List (Option ℕ)) (done : List (ℕ × ℕ)) (from to : ℕ) (old new : List (Option ℕ)) → from < length distance → to < length distance → IsChosen distance from to old new → IsChoosing distance done old → IsChoosing distance (done ++ (from, to) ∷ []) new
chosen distance done from to old new from_in to_in (inl took) h = record {
  size = ap length took.1 ∙ length-set old from (Some to) ∙ h.size;
  below = λ v. by-below v (same-or-not v from);
  each = λ v. by v (same-or-not v from);
}
  where
    within : from < length old
    within = let size = h.size in omega (arith, size, from_in)

    here : (v : ℕ) → v ≡ from → get_or new v None ≡ Some to
    here v e = ap (λ l. get_or l v None) took.1 ∙ ap (λ w. get_or (set old from (Some to)) w None) e ∙ get_or-set_same old from (Some to) None within

    there : (v : ℕ) → v ≢ from → get_or new v None ≡ get_or old v None
    there v ne = ap (λ l. get_or l v None) took.1 ∙ get_or-set_other old from v (Some to) None ne

    by-below : (v : ℕ) → (v ≡ from) ⊎ (v ≢ from) → MatchOption (get_or new v None) ⊤ (λ u. u < length distance)
    by-below v (inl e) = subst (λ (o : Option ℕ). MatchOption o ⊤ (λ u. u < length distance)) (sym (here v e)) to_in
    by-below v (inr ne) = subst (λ (o : Option ℕ). MatchOption o ⊤ (λ u. u < length distance)) (sym (there v ne)) (h.below v)

    by : (v : ℕ) → (v ≡ from) ⊎ (v ≢ from) → IsNearest distance (done ++ (from, to) ∷ []) v (get_or new v None)
    by v (inl e) = subst (IsNearest distance (done ++ (from, to) ∷ []) v) (sym (here v e)) (subst (λ w. IsNearest distance (done ++ (from, to) ∷ []) w (Some to)) (sym e) (taken distance done from to (get_or old from None) took.0 (h.each from)))
    by v (inr ne) = subst (IsNearest distance (done ++ (from, to) ∷ []) v) (sym (there v ne)) (elsewhere distance done from to v (get_or old v None) ne (h.each v))
chosen distance done from to old new from_in to_in (inr kept) h = subst (IsChoosing distance (done ++ (from, to) ∷ [])) (sym kept.1) (record {
  size = h.size;
  below = h.below;
  each = λ v. by v (same-or-not v from);
})
  where
    by : (v : ℕ) → (v ≡ from) ⊎ (v ≢ from) → IsNearest distance (done ++ (from, to) ∷ []) v (get_or old v None)
    by v (inl e) = subst (λ w. IsNearest distance (done ++ (from, to) ∷ []) w (get_or old w None)) (sym e) (left distance done from to (get_or old from None) kept.0 (h.each from))
    by v (inr ne) = elsewhere distance done from to v (get_or old v None) ne (h.each v)

nothing-at : (n v : ℕ) → get_or {A = Option ℕ} (replicate n None) v None ≡ None
nothing-at zero v = refl
nothing-at (suc n) zero = refl
nothing-at (suc n) (suc v) = nothing-at n v

long : (n : ℕ) → length {A = Option ℕ} (replicate n None) ≡ n
long zero = refl
long (suc n) = ap suc (long n)

none-contained : (x : ℕ × ℕ) → Contains [] x → ⊥
none-contained x h = in_from [] x h

pub choosing-none : (distance : List (Option ℕ)) → IsChoosing distance [] (replicate (length distance) None)
choosing-none distance = record {
  size = long (length distance);
  below = λ v. subst (λ (o : Option ℕ). MatchOption o ⊤ (λ u. u < length distance)) (sym (nothing-at (length distance) v)) tt;
  each = λ v. subst (IsNearest distance [] v) (sym (nothing-at (length distance) v)) (λ x there. none-contained (v, x) there);
}

pub take-next : {X : Type 0} (xs : List X) (i : ℕ) (d : X) → i < length xs → take (i + 1) xs ≡ take i xs ++ get_or xs i d ∷ []
take-next {X} xs i d lt = ap (λ j. take j xs) (add-one i) ∙ by xs i lt
  where
    by : (ys : List X) (j : ℕ) → j < length ys → take (suc j) ys ≡ take j ys ++ get_or ys j d ∷ []
    by [] j below = absurd (omega (arith, below))
    by (y ∷ ys) zero below = refl
    by (y ∷ ys) (suc j) below = ap (λ l. y ∷ l) (by ys j (omega arith))

pub all-at : {X : Type 0} (P : X → Type 0) (xs : List X) (i : ℕ) (d : X) → i < length xs → AllByRecursion P xs → P (get_or xs i d)
all-at P [] i d lt h = absurd (omega (arith, lt))
all-at P (x ∷ xs) zero d lt h = h.0
all-at P (x ∷ xs) (suc i) d lt h = all-at P xs i d (omega arith) h.1

pub take-all : {X : Type 0} (xs : List X) (i : ℕ) → length xs ≤ i → take i xs ≡ xs
take-all [] zero le = refl
take-all [] (suc i) le = refl
take-all (x ∷ xs) zero le = absurd (omega (arith, le))
take-all (x ∷ xs) (suc i) le = ap (λ l. x ∷ l) (take-all xs i (omega arith))
