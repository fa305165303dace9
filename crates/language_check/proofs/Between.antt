-- The ways between two hosts, part by part.
use Rattle.std.proofs.Common.{◌≡◌, ◌<◌, ◌≤◌, ◌↔◌, ℕ, suc, zero, Bool, true, false, nat_lt, List, [], ◌∷◌, ◌++◌, length, map, get_or, slice_get, Contains, Option, None, Some, MatchOption, IsSome, option_map, refl, sym, ◌∙◌, ap, subst, arith}
use Rattle.std.specs.List.{AllByRecursion}
use Rattle.merlin_model.specs.declared.policy.Symbol.{Symbol}
use Rattle.merlin_model.specs.declared.network.Location.{Location}
use Rattle.merlin_model.specs.Networks.{Network, address_at, IsHost}
use Rattle.merlin_model.specs.Words.{at, MayFollow}
use Rattle.merlin_model.proofs.Members.{in_to}
use Rattle.path_automaton.proofs.Building.{get-below, get-in, all-from, map-length}
use Rattle.language_check.specs.declared.ways.Ways.{Ways}
use Rattle.language_check.specs.Inclusion.{symbol_at, forwards}
use Rattle.language_check.specs.Ways.{AreSymbolsOf, AreAtLocations, AreAscending, AreConsistent, IsRowAt, AreRowsOf, AreEndsOf}
use Rattle.language_check.proofs.Walks.{symbol-within}

false-true : false ≡ true → ⊥
false-true e = cc

get-front : {X : Type 0} (xs : List X) (x d : X) (i : ℕ) → i < length xs → get_or (xs ++ x ∷ []) i d ≡ get_or xs i d
get-front [] x d i lt = absurd (omega (arith, lt))
get-front (y ∷ xs) x d zero lt = refl
get-front (y ∷ xs) x d (suc i) lt = get-front xs x d i (omega arith)

get-last : {X : Type 0} (xs : List X) (x d : X) → get_or (xs ++ x ∷ []) (length xs) d ≡ x
get-last [] x d = refl
get-last (y ∷ xs) x d = get-last xs x d

pub length-more : {X : Type 0} (xs : List X) (x : X) → length (xs ++ x ∷ []) ≡ suc (length xs)
length-more [] x = refl
length-more (y ∷ xs) x = ap suc (length-more xs x)

-- what holds at each place of a list holds at each place of a longer one
more : {X : Type 0} (P : ℕ → X → Type 0) (d : X) (xs : List X) (x : X) → ((i : ℕ) → i < length xs → P i (get_or xs i d)) → P (length xs) x → (i : ℕ) → i < length (xs ++ x ∷ []) → P i (get_or (xs ++ x ∷ []) i d)
more P d xs x h p i lt = by (nat_lt i (length xs)) refl
  where
    by : (b : Bool) → nat_lt i (length xs) ≡ b → P i (get_or (xs ++ x ∷ []) i d)
    by true e = let below : i < length xs = grind arith in subst (P i) (sym (get-front xs x d i below)) (h i below)
    by false e =
        let ge : length xs ≤ i = grind arith in
        let long = length-more xs x in
        let same : i ≡ length xs = omega arith in
        subst (λ j. P j (get_or (xs ++ x ∷ []) j d)) (sym same) (subst (P (length xs)) (sym (get-last xs x d)) p)

pub rows-more : (net : Network) (symbols : List Symbol) (rows : List (List ℕ)) (row : List ℕ) → AreRowsOf net symbols rows → IsRowAt net symbols (length rows) (length symbols) row → AreRowsOf net symbols (rows ++ row ∷ [])
rows-more net symbols rows row h r = more (λ loc l. IsRowAt net symbols loc (length symbols) l) [] rows row h r

pub ends-more : (net : Network) (d : ℕ) (ends : List Bool) (end : Bool) → AreEndsOf net d ends → (end ≡ true) ↔ MayFollow net (at (length ends), at d) → AreEndsOf net d (ends ++ end ∷ [])
ends-more net d ends end h e = more (λ loc b. (b ≡ true) ↔ MayFollow net (at loc, at d)) false ends end h e

pub at-locations : (net : Network) (symbols : List Symbol) → AreSymbolsOf net symbols → AreAtLocations net symbols
at-locations net symbols are = all-from (λ x. x.loc < length net.locations) symbols (λ k x e. symbol-within net x ((are.each x).0 (in_to symbols x (get-in symbols k x e))))

-- a host is a location, and a symbol

pub host-within : (net : Network) (loc : ℕ) → IsHost net loc → loc < length net.locations
host-within net loc h = by (slice_get net.locations loc) refl h
  where
    by : (o : Option Location) → slice_get net.locations loc ≡ o → IsSome (address_at (option_map (λ l. l.kind) o)) → loc < length net.locations
    by None e i = absurd (false-true i)
    by (Some l) e i = get-below net.locations loc l e

pub host-listed : (net : Network) (symbols : List Symbol) → AreSymbolsOf net symbols → (loc : ℕ) → IsHost net loc → Contains symbols (at loc)
host-listed net symbols are loc h = (are.each (at loc)).1 (by (slice_get net.locations loc) h)
  where
    by : (o : Option Location) → IsSome (address_at (option_map (λ l. l.kind) o)) → MatchOption (option_map (λ l. l.kind) o) ⊥ (λ _. Unit {0})
    by None i = absurd (false-true i)
    by (Some l) i = tt

all-rows : (P : List ℕ → Type 0) (rows : List (List ℕ)) → ((loc : ℕ) → loc < length rows → P (get_or rows loc [])) → AllByRecursion P rows
all-rows P [] h = tt
all-rows P (row ∷ rows) h = (h 0 (omega arith), all-rows P rows (λ loc lt. h (suc loc) (omega arith)))

all-places : (n : ℕ) (symbols : List Symbol) → AllByRecursion (λ x. x.loc < n) symbols → AllByRecursion (λ loc. loc < n) (map (λ x. x.loc) symbols)
all-places n [] h = tt
all-places n (x ∷ symbols) h = (h.0, all-places n symbols h.1)

pub are-whole : (net : Network) (symbols : List Symbol) → AreSymbolsOf net symbols → (ways : Ways) → ways.places ≡ map (λ x. x.loc) symbols → length ways.rows ≡ length net.locations → AreRowsOf net symbols ways.rows →
    length ways.last ≡ length net.locations → (s d : ℕ) → slice_get symbols ways.start ≡ Some (at s) → slice_get symbols ways.end ≡ Some (at d) → AreConsistent ways
are-whole net symbols are ways places count rows last s d es ed =
    let long : length ways.places ≡ length symbols = ap length places ∙ map-length (λ x. x.loc) symbols in
    let start = get-below symbols ways.start (at s) es in
    let end = get-below symbols ways.end (at d) ed in
    record {
      below = all-rows (λ row. AllByRecursion (λ k. k < length ways.places) row × AreAscending row) ways.rows (λ loc lt. let row = rows loc lt in (subst (λ n. AllByRecursion (λ k. k < n) (get_or ways.rows loc [])) (sym long) row.below, row.ascends));
      places = subst (AllByRecursion (λ loc. loc < length ways.rows)) (sym places) (all-places (length ways.rows) symbols (subst (λ n. AllByRecursion (λ x. x.loc < n) symbols) (sym count) (at-locations net symbols are)));
      last = last ∙ sym count;
      start = omega arith;
      end = omega arith;
    }

-- words

pub forwards-last : (symbols : List Symbol) (u : List ℕ) (k : ℕ) (rest : List Symbol) → forwards symbols (u ++ k ∷ []) rest ≡ symbol_at symbols k ∷ forwards symbols u rest
forwards-last symbols [] k rest = refl
forwards-last symbols (j ∷ u) k rest = forwards-last symbols u k (symbol_at symbols j ∷ rest)

pub all-front : (P : ℕ → Type 0) (u : List ℕ) (k : ℕ) → AllByRecursion P (u ++ k ∷ []) → AllByRecursion P u × P k
all-front P [] k h = (tt, h.0)
all-front P (j ∷ u) k h = let rest = all-front P u k h.1 in ((h.0, rest.0), rest.1)
