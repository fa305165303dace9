-- The vertices of a product in a list.
use Rattle.std.proofs.Common.{◌≡◌, ◌≢◌, ◌<◌, ◌≤◌, ◌⊎◌, ◌↔◌, inl, inr, ◌+◌, ℕ, suc, zero, Bool, true, false, List, [], ◌∷◌, ◌++◌, length, take, get_or, slice_get, Contains, Some, append_assoc, refl, sym, ◌∙◌, ap, subst, arith}
use Rattle.std.specs.List.{AllByRecursion}
use Rattle.merlin_model.specs.declared.policy.Symbol.{Symbol}
use Rattle.merlin_model.specs.Networks.{Network, IsHost, Pairwise, AreDifferent}
use Rattle.merlin_model.specs.Words.{at}
use Rattle.merlin_model.proofs.Members.{all_left}
use Rattle.path_automaton.specs.Automata.{AutomatonTables}
use Rattle.product_graph.specs.declared.followers.Followers.{Followers}
use Rattle.product_graph.specs.declared.vertex_set.NumberedVertex.{NumberedVertex}
use Rattle.product_graph.specs.declared.leading.Leading.{Leading}
use Rattle.product_graph.specs.declared.kept.Kept.{Kept}
use Rattle.product_graph.specs.declared.span.Span2.{Span2}
use Rattle.product_graph.specs.Followers.{AreOrderedSymbols, AreFollowersOf}
use Rattle.product_graph.specs.Numbered.{IsPut, ground_of, IsOnGround, next_of, IsNumberedBefore}
use Rattle.product_graph.specs.Finding.{AreLeading, AreKeptStarts, AreKeptAmong, IsSeenLeading}
use Rattle.product_graph.specs.Ends.{IsLastBy, HasNumbersOf, IsStartBy, AreStartsBelow, IsSymbolInside, IsInsideBelow}
use Rattle.product_graph.specs.Joining.{AreLasts, KeepsOrder, HaveRisingRows}
use Rattle.product_graph.specs.Kept.{AreKeptOf, LiesBetween, AreBetween, AreNumbersBelow}
use Rattle.product_graph.proofs.Lists.{some-same, none-some, below_or_at, lt-or-ge, all-map, all-contained, contained-all, pairwise-get, pairwise-snoc, pairwise-map, pairwise-append, get-below, get-contains, contains-get, get-snoc, contains-none, contains-one, get-parts, contains-left, contains-right, contains-either, contains-last, contains-snoc, length-more, get-before, get-behind}
use Rattle.product_graph.proofs.Returning.{seen-leading}
use Rattle.product_graph.proofs.Starting.{source-host}
use Rattle.product_graph.proofs.Bridging.{long, rising, goes-inside}

-- a list about a place
pub split-at : {X : Type 0} (xs : List X) (i : ℕ) (d : X) → i < length xs → (rest : List X) × (xs ≡ take i xs ++ get_or xs i d ∷ rest)
split-at [] i d lt = absurd (omega (arith, lt))
split-at (x ∷ xs) zero d lt = (xs, refl)
split-at (x ∷ xs) (suc i) d lt = let rest = split-at xs i d (omega arith) in (rest.0, ap (λ l. x ∷ l) rest.1)

pub get-take : {X : Type 0} (xs : List X) (i j : ℕ) (a : X) → slice_get (take i xs) j ≡ Some a → (j < i) × (slice_get xs j ≡ Some a)
get-take [] zero j a e = absurd (none-some e)
get-take [] (suc i) j a e = absurd (none-some e)
get-take (x ∷ xs) zero j a e = absurd (none-some e)
get-take (x ∷ xs) (suc i) zero a e = (omega arith, e)
get-take (x ∷ xs) (suc i) (suc j) a e = let rest = get-take xs i j a e in let lt = rest.0 in (omega (arith, lt), rest.1)

pairwise-across : {X : Type 0} (R : X → X → Type 0) (xs ys : List X) (x y : X) → Pairwise R (xs ++ ys) → Contains xs x → Contains ys y → R x y
pairwise-across R [] ys x y h cx cy = absurd (contains-none x cx)
pairwise-across {X} R (z ∷ xs) ys x y h cx cy = by (λ c. pairwise-across R xs ys x y h.1 c cy) (contains-either (z ∷ []) xs x cx)
  where
    by : (Contains xs x → R x y) → Contains (z ∷ []) x ⊎ Contains xs x → R x y
    by rest (inl c) = subst (λ w. R w y) (sym (contains-one z x c)) (contained-all (R z) (xs ++ ys) y h.0 (contains-right xs ys y cy))
    by rest (inr c) = rest c

-- a new vertex is put behind the others
pub put-new : (p : NumberedVertex) (place : ℕ) (old new rest : List NumberedVertex) → AreDifferent (old ++ p ∷ rest) → IsPut p place old new → new ≡ old ++ p ∷ []
put-new p place old new rest different h = by h.1
  where
    by : (new ≡ old) ⊎ (new ≡ old ++ p ∷ []) → new ≡ old ++ p ∷ []
    by (inl same) = absurd (pairwise-across (λ u v. u ≢ v) old (p ∷ rest) p p different (get-contains old place p (ap (λ l. slice_get l place) (sym same) ∙ h.0)) (contains-left (p ∷ []) rest p (contains-last [] p)) refl)
    by (inr more) = more

pub put-step : (base more : List NumberedVertex) (i : ℕ) (d : NumberedVertex) → i < length more → AreDifferent (base ++ more) → (old new : List NumberedVertex) (place : ℕ) → old ≡ base ++ take i more → IsPut (get_or more i d) place old new → new ≡ (base ++ take i more) ++ get_or more i d ∷ []
put-step base more i d lt different old new place is h =
    let split = split-at more i d lt in
    let whole : base ++ more ≡ (base ++ take i more) ++ get_or more i d ∷ split.0 = ap (λ l. base ++ l) split.1 ∙ sym (append_assoc base (take i more) (get_or more i d ∷ split.0)) in
    put-new (get_or more i d) place (base ++ take i more) new split.0 (subst AreDifferent whole different) (subst (λ l. IsPut (get_or more i d) place l new) is h)

-- numbers that rise
pub risen : (row : List ℕ) (i k : ℕ) → slice_get row i ≡ Some k → Pairwise (λ u v. u < v) row → (d : ℕ) → Contains (take i row) d → (d < k) × Contains row d
risen row i k at_i rise d c =
    let place = contains-get (take i row) d c in
    let there = get-take row i place.0 d place.1 in
    (pairwise-get (λ u v. u < v) row place.0 i d k rise there.0 there.1 at_i, get-contains row place.0 d there.1)

pub numbers-none : AreNumbersBelow 0 []
numbers-none = record { each = λ k. (λ c. absurd (contains-none k c), λ lt. absurd (omega (arith, lt))); ascend = tt }

pub numbers-next : (n : ℕ) (numbers : List ℕ) → AreNumbersBelow n numbers → AreNumbersBelow (n + 1) (numbers ++ n ∷ [])
numbers-next n numbers s = record {
  each = λ k. (λ c. to k (contains-snoc numbers n k c), λ lt. from k (below_or_at n k lt));
  ascend = pairwise-snoc (λ j k. j < k) numbers n (all-contained (λ k. k < n) numbers (λ k c. (s.each k).0 c)) s.ascend;
}
  where
    to : (k : ℕ) → Contains numbers k ⊎ (k ≡ n) → k < n + 1
    to k (inl c) = let lt = (s.each k).0 c in omega (arith, lt)
    to k (inr e) = omega (arith, e)

    from : (k : ℕ) → (k < n) ⊎ (k ≡ n) → Contains (numbers ++ n ∷ []) k
    from k (inl lt) = contains-left numbers (n ∷ []) k ((s.each k).1 lt)
    from k (inr e) = subst (Contains (numbers ++ n ∷ [])) (sym e) (contains-last numbers n)

-- flags, vertex by vertex
module _ (net : Network) (symbols : List Symbol) (t : AutomatonTables) (d : ℕ) where
  pub lasts-none : AreLasts net symbols t d [] []
  lasts-none = record { long = refl; each = λ i p e. absurd (none-some e) }

  pub lasts-next : (vertices : List NumberedVertex) (lasts : List Bool) (p : NumberedVertex) (b : Bool) → AreLasts net symbols t d vertices lasts → (b ≡ true) ↔ IsLastBy net symbols t d p → AreLasts net symbols t d (vertices ++ p ∷ []) (lasts ++ b ∷ [])
  lasts-next vertices lasts p b s is = record {
    long = length-more lasts b ∙ ap suc s.long ∙ sym (length-more vertices p);
    each = λ i q e. by i q (get-snoc vertices p i q e);
  }
    where
      by : (i : ℕ) (q : NumberedVertex) → (slice_get vertices i ≡ Some q) ⊎ ((i ≡ length vertices) × (p ≡ q)) → (get_or (lasts ++ b ∷ []) i false ≡ true) ↔ IsLastBy net symbols t d q
      by i q (inl e) = let lt = get-below vertices i q e in let size = s.long in subst (λ x. (x ≡ true) ↔ IsLastBy net symbols t d q) (sym (get-before lasts b false i (omega (arith, lt, size)))) (s.each i q e)
      by i q (inr h) =
          let place : i ≡ length lasts = h.0 ∙ sym s.long in
          let flag : get_or (lasts ++ b ∷ []) i false ≡ b = ap (λ m. get_or (lasts ++ b ∷ []) m false) place ∙ get-behind lasts b false in
          subst (λ x. (x ≡ true) ↔ IsLastBy net symbols t d q) (sym flag) (subst (λ x. (b ≡ true) ↔ IsLastBy net symbols t d x) h.1 is)

-- a vertex does not come before itself
not-before : (p : NumberedVertex) → IsNumberedBefore p p → ⊥
not-before p (inl lt) = omega (arith, lt)
not-before p (inr h) = let lt = h.1 in omega (arith, lt)

before-differs : (p q : NumberedVertex) → IsNumberedBefore p q → p ≢ q
before-differs p q h same = not-before q (subst (λ x. IsNumberedBefore x q) same h)

-- a vertex at which walks start is none inside
start-outside : (net : Network) (symbols : List Symbol) (t : AutomatonTables) (span : Span2) (p : NumberedVertex) → IsStartBy net symbols t span p → IsSymbolInside net symbols p.symbol → ⊥
start-outside net symbols t span p h inside =
    let same : inside.0 ≡ at h.0 = some-same (sym inside.1 ∙ h.2) in
    inside.2 (subst (λ x. IsHost net x.loc) (sym same) (source-host net span h.0 h.1))

different-parts : (net : Network) (symbols : List Symbol) (t : AutomatonTables) (span : Span2) (first inner : List NumberedVertex) → Pairwise IsNumberedBefore first → Pairwise IsNumberedBefore inner →
    ((p : NumberedVertex) → Contains first p → IsStartBy net symbols t span p) → ((p : NumberedVertex) → Contains inner p → IsSymbolInside net symbols p.symbol) → AreDifferent (first ++ inner)
different-parts net symbols t span first inner fa ia starts inside =
    pairwise-append (λ u v. u ≢ v) first inner (pairwise-map IsNumberedBefore (λ u v. u ≢ v) before-differs first fa) (pairwise-map IsNumberedBefore (λ u v. u ≢ v) before-differs inner ia)
    (λ p q cp cq same. start-outside net symbols t span p (starts p cp) (subst (λ x. IsSymbolInside net symbols x.symbol) (sym same) (inside q cq)))

pub kept-different : (net : Network) (symbols : List Symbol) (t : AutomatonTables) (span : Span2) (states : ℕ) (l : Leading) (starts first inner : List NumberedVertex) → AreStartsBelow net symbols t span (length symbols) starts → AreKeptStarts l starts first → AreKeptAmong (IsInsideBelow net symbols states (length symbols)) l inner → AreDifferent (first ++ inner)
kept-different net symbols t span states l starts first inner s f i = different-parts net symbols t span first inner (f.ascend s.ascend) i.ascend (λ p c. ((s.each p).0 ((f.each p).0 c).0).1) (λ p c. ((i.each p).0 c).0.1)

-- what is kept of all that was found lies between the starts and the end
pub between-by : (net : Network) (symbols : List Symbol) (f : Followers) (t : AutomatonTables) (span : Span2) (d : ℕ) (l : Leading) (starts : List NumberedVertex) (k : Kept) → AreStartsBelow net symbols t span (length symbols) starts →
    AreLeading (ground_of f t) (IsLastBy net symbols t d) starts l → AreKeptOf net symbols (length t.steps) l starts k → AreBetween net symbols f t span d k
between-by net symbols f t span d l starts k s are kept = record {
  starts = starts;
  starts_are = s;
  first = kept.first;
  inner = kept.inner;
  vertices = kept.vertices;
  count = kept.count;
  first_are = λ p. (λ c. let h = (kept.first_are.each p).0 c in (h.0, (seen p).0 h.1), λ h. (kept.first_are.each p).1 (h.0, (seen p).1 h.1));
  inner_are = λ p. (λ c. let h = (kept.inner_are.each p).0 c in (h.0, (seen p).0 h.1), λ h. (kept.inner_are.each p).1 (h.0, (seen p).1 h.1));
  first_ascend = kept.first_are.ascend s.ascend;
  inner_ascend = kept.inner_are.ascend;
  on = λ p r. contained-all (IsOnGround (ground_of f t)) l.vertices p are.on ((are.reachable p).1 r);
}
  where
    seen : (p : NumberedVertex) → IsSeenLeading l p ↔ LiesBetween (ground_of f t) (IsLastBy net symbols t d) starts p
    seen p = seen-leading (ground_of f t) (IsLastBy net symbols t d) starts l are p

-- numbers of symbols and states

pub on-numbers : (net : Network) (symbols : List Symbol) (f : Followers) → AreFollowersOf net symbols f → (are : AreOrderedSymbols net symbols) (t : AutomatonTables) (ps : List NumberedVertex) → AllByRecursion (HasNumbersOf symbols t) ps → AllByRecursion (IsOnGround (ground_of f t)) ps
on-numbers net symbols f fo are t ps h = all-map (HasNumbersOf symbols t) (IsOnGround (ground_of f t)) (λ p n. let size = long net symbols are f fo t in let lt = n.0 in (omega (arith, size, lt), n.1)) ps h

pub numbers-on : (net : Network) (symbols : List Symbol) (f : Followers) → AreFollowersOf net symbols f → (are : AreOrderedSymbols net symbols) (t : AutomatonTables) (ps : List NumberedVertex) → AllByRecursion (IsOnGround (ground_of f t)) ps → AllByRecursion (HasNumbersOf symbols t) ps
numbers-on net symbols f fo are t ps h = all-map (IsOnGround (ground_of f t)) (HasNumbersOf symbols t) (λ p n. let size = long net symbols are f fo t in let lt = n.0 in (omega (arith, size, lt), n.1)) ps h

-- what the vertices between are
module _ (net : Network) (symbols : List Symbol) (are : AreOrderedSymbols net symbols) (f : Followers) (fo : AreFollowersOf net symbols f) (t : AutomatonTables) (span : Span2) (d : ℕ) (k : Kept) (b : AreBetween net symbols f t span d k) where
  first-start : (p : NumberedVertex) → Contains b.first p → IsStartBy net symbols t span p
  first-start p c = ((b.starts_are.each p).0 ((b.first_are p).0 c).0).1

  inner-inside : (p : NumberedVertex) → Contains b.inner p → IsSymbolInside net symbols p.symbol
  inner-inside p c = ((b.inner_are p).0 c).0.1

  pub lies : (p : NumberedVertex) → Contains (b.first ++ b.inner) p → LiesBetween (ground_of f t) (IsLastBy net symbols t d) b.starts p
  lies p c = by (contains-either b.first b.inner p c)
    where
      by : Contains b.first p ⊎ Contains b.inner p → LiesBetween (ground_of f t) (IsLastBy net symbols t d) b.starts p
      by (inl i) = ((b.first_are p).0 i).1
      by (inr i) = ((b.inner_are p).0 i).1

  pub all-on : AllByRecursion (IsOnGround (ground_of f t)) k.vertices
  all-on = subst (AllByRecursion (IsOnGround (ground_of f t))) (sym b.vertices) (all-contained (IsOnGround (ground_of f t)) (b.first ++ b.inner) (λ p c. b.on p (lies p c).0))

  pub all-numbers : AllByRecursion (HasNumbersOf symbols t) k.vertices
  all-numbers = numbers-on net symbols f fo are t k.vertices all-on

  pub all-different : AreDifferent k.vertices
  all-different = subst AreDifferent (sym b.vertices) (different-parts net symbols t span b.first b.inner b.first_ascend b.inner_ascend first-start inner-inside)

  pub all-rising : HaveRisingRows f k.vertices
  all-rising = λ p c. rising net symbols are f fo t p.symbol

  -- a vertex inside stands behind the starts
  inner-place : (i : ℕ) (p : NumberedVertex) → slice_get (b.first ++ b.inner) i ≡ Some p → IsSymbolInside net symbols p.symbol → (j : ℕ) × (i ≡ length b.first + j) × (slice_get b.inner j ≡ Some p)
  inner-place i p e inside = by (get-parts b.first b.inner i p e)
    where
      by : (slice_get b.first i ≡ Some p) ⊎ ((j : ℕ) × (i ≡ length b.first + j) × (slice_get b.inner j ≡ Some p)) → (j : ℕ) × (i ≡ length b.first + j) × (slice_get b.inner j ≡ Some p)
      by (inl h) = absurd (start-outside net symbols t span p (first-start p (get-contains b.first i p h)) inside)
      by (inr h) = h

  pub all-ordered : KeepsOrder (ground_of f t) k.vertices
  all-ordered = subst (KeepsOrder (ground_of f t)) (sym b.vertices) order
    where
      order : KeepsOrder (ground_of f t) (b.first ++ b.inner)
      order p m n i j gm gn lt ei ej =
          let a = inner-place i (next_of (ground_of f t) p m) ei (goes-inside net symbols are f fo t p m gm).1 in
          let c = inner-place j (next_of (ground_of f t) p n) ej (goes-inside net symbols are f fo t p n gn).1 in
          by a c (lt-or-ge a.0 c.0) (lt-or-ge c.0 a.0)
        where
          by : (a : (x : ℕ) × (i ≡ length b.first + x) × (slice_get b.inner x ≡ Some (next_of (ground_of f t) p m))) → (c : (x : ℕ) × (j ≡ length b.first + x) × (slice_get b.inner x ≡ Some (next_of (ground_of f t) p n))) →
              (a.0 < c.0) ⊎ (c.0 ≤ a.0) → (c.0 < a.0) ⊎ (a.0 ≤ c.0) → i < j
          by a c (inl less) o = let ea = a.1 in let ec = c.1 in omega (arith, ea, ec, less)
          by a c (inr ge) (inl more) = absurd (never (pairwise-get IsNumberedBefore b.inner c.0 a.0 (next_of (ground_of f t) p n) (next_of (ground_of f t) p m) b.inner_ascend more c.2 a.2))
            where
              never : IsNumberedBefore (next_of (ground_of f t) p n) (next_of (ground_of f t) p m) → ⊥
              never (inl l) = omega (arith, l, lt)
              never (inr l) = let e : n ≡ m = l.0 in omega (arith, e, lt)
          by a c (inr ge) (inr le) =
              let same : a.0 ≡ c.0 = omega (arith, ge, le) in
              let e : m ≡ n = ap (λ v. v.symbol) (some-same (sym a.2 ∙ ap (slice_get b.inner) same ∙ c.2)) in
              absurd (omega (arith, e, lt))

pub different-front : (xs ys : List NumberedVertex) → AreDifferent (xs ++ ys) → AreDifferent xs
different-front [] ys h = tt
different-front (x ∷ xs) ys h = (all_left (λ v. x ≢ v) xs ys h.0, different-front xs ys h.1)
