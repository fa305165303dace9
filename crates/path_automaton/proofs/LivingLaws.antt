-- Laws of living states.
use Rattle.std.proofs.Common.{◌≡◌, ◌≢◌, ◌||◌, ◌==◌, ◌<◌, ◌≤◌, ◌-◌, ◌⊎◌, inl, inr, ℕ, suc, zero, Bool, true, false, List, [], ◌∷◌, length, get_or, drop, drop-cons, slice_set, refl, sym, ◌∙◌, ap, subst, arith}
use Rattle.std.specs.List.{AllByRecursion, list_any}
use Rattle.std.proofs.lemmas.Bool.{eqb-true}
use Rattle.merlin_model.proofs.Members.{In, in_to, in_from}
use Rattle.path_automaton.specs.Living.{states_after, is_set, IsWay, IsLive, AreInside, AreSound, dead, AreClosed, IsSpread, AreLiving}

pub false-true : false ≡ true → ⊥
false-true e = cc

-- Rows.

pub any-from : (test : ℕ → Bool) (xs : List ℕ) (i a : ℕ) → i < length xs → a ≡ get_or xs i a → test a ≡ true → list_any test (drop i xs) ≡ true
any-from test xs i a lt e t = ap (list_any test) (drop-cons xs i a lt) ∙ ap (λ b. b || list_any test (drop (suc i) xs)) (ap test (sym e) ∙ t)

pub all-at : {X : Type 0} (P : X → Type 0) (xs : List X) (k : ℕ) (d : X) → k < length xs → AllByRecursion P xs → P (get_or xs k d)
all-at P [] k d lt h = absurd (omega (arith, lt))
all-at P (x ∷ xs) zero d lt h = h.0
all-at P (x ∷ xs) (suc k) d lt h = all-at P xs k d (omega arith) h.1

any-in : (test : ℕ → Bool) (xs : List ℕ) → list_any test xs ≡ true → (p : ℕ) × In p xs × (test p ≡ true)
any-in test [] e = absurd (false-true e)
any-in test (x ∷ xs) e = by (test x) refl e (any-in test xs)
  where
    by : (b : Bool) → test x ≡ b → (b || list_any test xs) ≡ true → (list_any test xs ≡ true → (p : ℕ) × In p xs × (test p ≡ true)) → (p : ℕ) × In p (x ∷ xs) × (test p ≡ true)
    by true f e ih = (x, inl refl, f)
    by false f e ih = let rest = ih e in (rest.0, inr rest.1, rest.2)

in-any : (test : ℕ → Bool) (xs : List ℕ) (p : ℕ) → In p xs → test p ≡ true → list_any test xs ≡ true
in-any test [] p i e = absurd i
in-any test (x ∷ xs) p (inl same) e = ap (λ b. b || list_any test xs) (ap test (sym same) ∙ e)
in-any test (x ∷ xs) p (inr i) e = by (test x) (in-any test xs p i e)
  where
    by : (b : Bool) → list_any test xs ≡ true → (b || list_any test xs) ≡ true
    by true f = refl
    by false f = f

-- Flags.

set-at : (flags : List Bool) (q : ℕ) → q < length flags → is_set (slice_set flags q true) q ≡ true
set-at [] q lt = absurd (omega (arith, lt))
set-at (f ∷ flags) zero lt = refl
set-at (f ∷ flags) (suc q) lt = set-at flags q (omega arith)

set-other : (flags : List Bool) (q k : ℕ) → is_set (slice_set flags q true) k ≡ true → (k ≡ q) ⊎ (is_set flags k ≡ true)
set-other [] q k e = inr e
set-other (f ∷ flags) zero zero e = inl refl
set-other (f ∷ flags) zero (suc k) e = inr e
set-other (f ∷ flags) (suc q) zero e = inr e
set-other (f ∷ flags) (suc q) (suc k) e = by (set-other flags q k e)
  where
    by : (k ≡ q) ⊎ (is_set flags k ≡ true) → (suc k ≡ suc q) ⊎ (is_set flags k ≡ true)
    by (inl h) = inl (ap suc h)
    by (inr h) = inr h

set-kept : (flags : List Bool) (q k : ℕ) → is_set flags k ≡ true → is_set (slice_set flags q true) k ≡ true
set-kept [] q k e = e
set-kept (f ∷ flags) zero zero e = refl
set-kept (f ∷ flags) zero (suc k) e = e
set-kept (f ∷ flags) (suc q) zero e = e
set-kept (f ∷ flags) (suc q) (suc k) e = set-kept flags q k e

set-length : (flags : List Bool) (q : ℕ) → length (slice_set flags q true) ≡ length flags
set-length [] q = refl
set-length (f ∷ flags) zero = refl
set-length (f ∷ flags) (suc q) = ap suc (set-length flags q)

set-dead : (flags : List Bool) (q : ℕ) → q < length flags → is_set flags q ≡ false → suc (dead (slice_set flags q true)) ≡ dead flags
set-dead [] q lt e = absurd (omega (arith, lt))
set-dead (true ∷ flags) zero lt e = absurd (false-true (sym e))
set-dead (false ∷ flags) zero lt e = refl
set-dead (true ∷ flags) (suc q) lt e = set-dead flags q (omega arith) e
set-dead (false ∷ flags) (suc q) lt e = ap suc (set-dead flags q (omega arith) e)

-- A round.

pub start : (rows : List (List ℕ)) (flags : List Bool) → IsSpread rows (length rows) flags flags false
start rows flags = record {
  size = refl;
  kept = λ q e. e;
  sound = λ accepting h. h;
  closed = λ e q from lt. absurd (omega (arith, from, lt));
  fewer = λ e. absurd (false-true e);
  most = omega arith;
}

-- a state that stays as it is
pub stay : (rows : List (List ℕ)) (q : ℕ) (old new : List Bool) (changed : Bool) → IsSpread rows (suc q) old new changed → (list_any (is_set new) (states_after rows q) ≡ true → is_set new q ≡ true) → IsSpread rows q old new changed
stay rows q old new changed h here = record {
  size = h.size;
  kept = h.kept;
  sound = h.sound;
  closed = λ e k from lt. by k from lt (k == q) refl (h.closed e);
  fewer = h.fewer;
  most = h.most;
}
  where
    by : (k : ℕ) → q ≤ k → k < length rows → (b : Bool) → (k == q) ≡ b → AreClosed rows new (suc q) → list_any (is_set new) (states_after rows k) ≡ true → is_set new k ≡ true
    by k from lt true e closed any = let same : k ≡ q = eqb-true k q e in subst (λ j. is_set new j ≡ true) (sym same) (here (subst (λ j. list_any (is_set new) (states_after rows j) ≡ true) same any))
    by k from lt false e closed any = let other : k ≢ q = grind arith in closed k (omega arith) lt any

-- a state that is found to live
pub found : (rows : List (List ℕ)) (q : ℕ) (old new : List Bool) (changed : Bool) → IsSpread rows (suc q) old new changed → q < length new → is_set new q ≡ false → list_any (is_set new) (states_after rows q) ≡ true → IsSpread rows q old (slice_set new q true) true
found rows q old new changed h lt none any = record {
  size = set-length new q ∙ h.size;
  kept = λ k e. set-kept new q k (h.kept k e);
  sound = λ accepting s k e. lives accepting (h.sound accepting s) k (set-other new q k e);
  closed = λ e. absurd (false-true (sym e));
  fewer = λ e. let d = set-dead new q lt none in let m = h.most in omega arith;
  most = let d = set-dead new q lt none in let m = h.most in omega arith;
}
  where
    lives : (accepting : List Bool) → AreSound rows accepting new → (k : ℕ) → (k ≡ q) ⊎ (is_set new k ≡ true) → IsLive rows accepting k
    lives accepting s k (inl same) =
        let p = any-in (is_set new) (states_after rows q) any in
        let way = s p.0 p.2 in
        subst (IsLive rows accepting) (sym same) (p.0 ∷ way.0, (in_to (states_after rows q) p.0 p.1, way.1))
    lives accepting s k (inr e) = s k e

-- Rounds.

pub record IsBetween (rows : List (List ℕ)) (accepting flags : List Bool) : Type 0 where
  pub size : length flags ≡ length accepting
  pub kept : (q : ℕ) → is_set accepting q ≡ true → is_set flags q ≡ true
  pub sound : AreSound rows accepting flags

pub between-start : (rows : List (List ℕ)) (accepting : List Bool) → IsBetween rows accepting accepting
between-start rows accepting = record { size = refl; kept = λ q e. e; sound = λ q e. ([], e) }

pub between-next : (rows : List (List ℕ)) (accepting old new : List Bool) (changed : Bool) → IsBetween rows accepting old → IsSpread rows 0 old new changed → IsBetween rows accepting new
between-next rows accepting old new changed h s = record { size = s.size ∙ h.size; kept = λ q e. s.kept q (h.kept q e); sound = s.sound accepting h.sound }

pub between-end : (rows : List (List ℕ)) (accepting old new : List Bool) → AreInside rows (length accepting) → IsBetween rows accepting old → IsSpread rows 0 old new false → AreLiving rows accepting new
between-end rows accepting old new inside h s = record { size = s.size ∙ h.size; exact = λ q lt. (s.sound accepting h.sound q, λ l. live q lt l.0 l.1) }
  where
    next-in : (q : ℕ) → q < length rows → (p : ℕ) → In p (states_after rows q) → p < length rows
    next-in q lt p i = subst (λ n. p < n) (sym inside.0) (all-in (states_after rows q) (all-at (λ row. AllByRecursion (λ k. k < length accepting) row) rows q [] lt inside.1) i)
      where
        all-in : (xs : List ℕ) → AllByRecursion (λ k. k < length accepting) xs → In p xs → p < length accepting
        all-in [] a i = absurd i
        all-in (x ∷ xs) a (inl e) = subst (λ k. k < length accepting) (sym e) a.0
        all-in (x ∷ xs) a (inr i) = all-in xs a.1 i

    live : (q : ℕ) → q < length rows → (ps : List ℕ) → IsWay rows accepting q ps → is_set new q ≡ true
    live q lt [] w = s.kept q (h.kept q w)
    live q lt (p ∷ ps) w =
        let i = in_from (states_after rows q) p w.0 in
        s.closed refl q (omega arith) lt (in-any (is_set new) (states_after rows q) p i (live p (next-in q lt p i) ps w.1))

-- a place in range has one element, whatever stands past the end
pub same-row : (rows : List (List ℕ)) (q : ℕ) (d e : List ℕ) → q < length rows → get_or rows q d ≡ get_or rows q e
same-row [] q d e lt = absurd (omega (arith, lt))
same-row (row ∷ rows) zero d e lt = refl
same-row (row ∷ rows) (suc q) d e lt = same-row rows q d e (omega arith)

-- the step of a loop from the last state to the first
pub found-at : (rows : List (List ℕ)) (state : ℕ) (old new : List Bool) (changed : Bool) → IsSpread rows state old new changed → 0 < state → state ≤ length rows → length rows ≡ length old →
    is_set new (state - 1) ≡ false → list_any (is_set new) (states_after rows (state - 1)) ≡ true → IsSpread rows (state - 1) old (slice_set new (state - 1) true) true × (state - 1 ≤ length rows)
found-at rows zero old new changed h lt le inside none any = absurd (omega (arith, lt))
found-at rows (suc q) old new changed h lt le inside none any =
    let e : suc q - 1 ≡ q = omega arith in
    let size = h.size in (
      subst (λ k. IsSpread rows k old (slice_set new k true) true) (sym e)
          (found rows q old new changed h (omega arith) (subst (λ k. is_set new k ≡ false) e none) (subst (λ k. list_any (is_set new) (states_after rows k) ≡ true) e any)),
      omega arith,
    )
