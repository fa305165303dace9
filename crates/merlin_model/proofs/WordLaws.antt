-- Laws on words: their stops, and walks symbol by symbol.
use Rattle.std.proofs.Common.{◌≡◌, ◌≢◌, ℕ, ◌==◌, Bool, true, false, cond, List, [], ◌∷◌, ◌++◌, append_assoc, refl, sym, ◌∙◌, ap, subst, arith}
use Rattle.std.specs.List.{AllByRecursion, flat_map}
use Rattle.merlin_model.specs.declared.policy.Symbol.{Symbol}
use Rattle.merlin_model.specs.Networks.{Network, IsHost}
use Rattle.merlin_model.specs.Words.{at, IsSymbol, neighbours, MayFollow, IsWalk, GoesOn, WalksFrom, Stop, functions_of, with_symbol, visits}

abbrev AreApart : List Stop → Type 0
AreApart stops = AllByRecursion (λ pair. pair.0.loc ≢ pair.1.loc) (neighbours stops)

-- the first stop may be replaced by another at its location
apart-first : (s t : Stop) (rest : List Stop) → s.loc ≡ t.loc → AreApart (t ∷ rest) → AreApart (s ∷ rest)
apart-first s t [] e h = tt
apart-first s t (u ∷ rest) e h = (λ d. h.0 (sym e ∙ d), h.1)

with_symbol-apart : (x : Symbol) (stops : List Stop) → AreApart stops → AreApart (with_symbol x stops)
with_symbol-apart x [] h = tt
with_symbol-apart x (stop ∷ stops) h = by (x.loc == stop.loc) refl
  where
    merged : Stop
    merged = record { loc = x.loc; functions = functions_of x ++ stop.functions }

    alone : Stop
    alone = record { loc = x.loc; functions = functions_of x }

    by : (b : Bool) → (x.loc == stop.loc) ≡ b → AreApart (cond b (merged ∷ stops) (alone ∷ stop ∷ stops))
    by true e = let same : x.loc ≡ stop.loc = grind arith in apart-first merged stop stops same h
    by false e = let other : x.loc ≢ stop.loc = grind arith in (other, h)

pub visits-apart : (w : List Symbol) → AreApart (visits w)
visits-apart [] = tt
visits-apart (x ∷ rest) = with_symbol-apart x (visits rest) (visits-apart rest)

abbrev all_functions : List Stop → List ℕ
all_functions stops = flat_map (λ stop. stop.functions) stops

with_symbol-functions : (x : Symbol) (stops : List Stop) → all_functions (with_symbol x stops) ≡ functions_of x ++ all_functions stops
with_symbol-functions x [] = refl
with_symbol-functions x (stop ∷ stops) = by (x.loc == stop.loc)
  where
    by : (b : Bool) → all_functions (cond b (record { loc = x.loc; functions = functions_of x ++ stop.functions } ∷ stops) (record { loc = x.loc; functions = functions_of x } ∷ stop ∷ stops))
        ≡ functions_of x ++ (stop.functions ++ all_functions stops)
    by true = append_assoc (functions_of x) stop.functions (all_functions stops)
    by false = refl

pub visits-functions : (w : List Symbol) → all_functions (visits w) ≡ flat_map functions_of w
visits-functions [] = refl
visits-functions (x ∷ rest) = with_symbol-functions x (visits rest) ∙ ap (λ fs. functions_of x ++ fs) (visits-functions rest)

-- Walks.

module _ (net : Network) (d : ℕ) where
  goes_on : (x : Symbol) (inner : List Symbol) → AllByRecursion (λ y. ¬ IsHost net y.loc) inner → AllByRecursion (IsSymbol net) (inner ++ at d ∷ []) →
      AllByRecursion (MayFollow net) (neighbours (x ∷ (inner ++ at d ∷ []))) → GoesOn net d x (inner ++ at d ∷ [])
  goes_on x [] inside symbols steps = (steps.0, symbols.0, refl)
  goes_on x (y ∷ []) inside symbols steps = (steps.0, symbols.0, inside.0, goes_on y [] inside.1 symbols.1 steps.1)
  goes_on x (y ∷ z ∷ inner) inside symbols steps = (steps.0, symbols.0, inside.0, goes_on y (z ∷ inner) inside.1 symbols.1 steps.1)

  -- what goes on to d: what lies between, and what is known of it
  record Between (x : Symbol) (rest : List Symbol) : Type 0 where
    inner : List Symbol
    shape : rest ≡ inner ++ at d ∷ []
    inside : AllByRecursion (λ y. ¬ IsHost net y.loc) inner
    symbols : AllByRecursion (IsSymbol net) rest
    steps : AllByRecursion (MayFollow net) (neighbours (x ∷ rest))

  between : (x : Symbol) (rest : List Symbol) → GoesOn net d x rest → Between x rest
  between x [] h = absurd h
  between x (y ∷ []) h = record { inner = []; shape = ap (λ s. s ∷ []) h.2; inside = tt; symbols = (h.1, tt); steps = (h.0, tt) }
  between x (y ∷ z ∷ rest) h =
      let later : Between y (z ∷ rest) = between y (z ∷ rest) h.3 in
      record { inner = y ∷ later.inner; shape = ap (λ s. y ∷ s) later.shape; inside = (h.2, later.inside); symbols = (h.1, later.symbols); steps = (h.0, later.steps) }

pub walk-goes_on : (net : Network) (s d : ℕ) (w : List Symbol) → IsWalk net s d w → WalksFrom net s d w
walk-goes_on net s d w walk = subst (WalksFrom net s d) (sym walk.shape) (refl, symbols.0, walk.start, walk.end, goes_on net d (at s) walk.inner walk.inside symbols.1 steps)
  where
    symbols : AllByRecursion (IsSymbol net) (at s ∷ (walk.inner ++ at d ∷ []))
    symbols = subst (AllByRecursion (IsSymbol net)) walk.shape walk.symbols

    steps : AllByRecursion (MayFollow net) (neighbours (at s ∷ (walk.inner ++ at d ∷ [])))
    steps = subst (λ v. AllByRecursion (MayFollow net) (neighbours v)) walk.shape walk.steps

pub goes_on-walk : (net : Network) (s d : ℕ) (w : List Symbol) → WalksFrom net s d w → IsWalk net s d w
goes_on-walk net s d [] h = absurd h
goes_on-walk net s d (x ∷ rest) h =
    let later : Between net d x rest = between net d x rest h.4 in
    record { inner = later.inner; shape = ap (λ y. y ∷ rest) h.0 ∙ ap (λ r. at s ∷ r) later.shape; start = h.2; end = h.3; inside = later.inside; symbols = (h.1, later.symbols); steps = later.steps }
