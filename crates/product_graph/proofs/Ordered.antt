-- The symbols of a network stand in their order.
use Rattle.std.proofs.Common.{◌≡◌, ◌<◌, ◌≤◌, inl, inr, ◌+◌, ℕ, suc, zero, Bool, true, false, cond, List, [], ◌∷◌, length, map, filter, refl, ap, arith}
use Rattle.std.specs.List.{AllByRecursion, enumerate_from, flat_map, range_with_len}
use Rattle.merlin_model.specs.declared.network.FnDecl.{FnDecl}
use Rattle.merlin_model.specs.declared.policy.Symbol.{Symbol}
use Rattle.merlin_model.specs.Networks.{Network, Pairwise}
use Rattle.merlin_model.specs.Words.{at}
use Rattle.merlin_model.proofs.Members.{In, in_from, in_to, in_flat_map, in_map}
use Rattle.topology.specs.Symbols.{is_placed_at, functions_placed_at, at_with, symbols_at, network_symbols}
use Rattle.topology.proofs.Listing.{symbol-in, in-symbol}
use Rattle.product_graph.specs.Followers.{IsSymbolBefore, AreOrderedSymbols}
use Rattle.product_graph.proofs.Lists.{all-map, pairwise-append, pairwise-map}

all-filter : {X : Type 0} (P : X → Type 0) (t : X → Bool) (xs : List X) → AllByRecursion P xs → AllByRecursion P (filter t xs)
all-filter P t [] h = tt
all-filter {X} P t (x ∷ xs) h = by (t x) (all-filter P t xs h.1)
  where
    by : (b : Bool) → AllByRecursion P (filter t xs) → AllByRecursion P (cond b (x ∷ filter t xs) (filter t xs))
    by true rest = (h.0, rest)
    by false rest = rest

pairwise-filter : {X : Type 0} (R : X → X → Type 0) (t : X → Bool) (xs : List X) → Pairwise R xs → Pairwise R (filter t xs)
pairwise-filter R t [] p = tt
pairwise-filter {X} R t (x ∷ xs) p = by (t x) (pairwise-filter R t xs p.1)
  where
    by : (b : Bool) → Pairwise R (filter t xs) → Pairwise R (cond b (x ∷ filter t xs) (filter t xs))
    by true rest = (all-filter (R x) t xs p.0, rest)
    by false rest = rest

all-mapped : {X Y : Type 0} (f : X → Y) (P : Y → Type 0) (xs : List X) → AllByRecursion (λ x. P (f x)) xs → AllByRecursion P (map f xs)
all-mapped f P [] h = tt
all-mapped f P (x ∷ xs) h = (h.0, all-mapped f P xs h.1)

pairwise-under : {X Y : Type 0} (f : X → Y) (R : Y → Y → Type 0) (xs : List X) → Pairwise (λ x y. R (f x) (f y)) xs → Pairwise R (map f xs)
pairwise-under f R [] h = tt
pairwise-under f R (x ∷ xs) h = (all-mapped f (R (f x)) xs h.0, pairwise-under f R xs h.1)

numbered-above : (n : ℕ) (fs : List FnDecl) → AllByRecursion (λ q. n ≤ q.0) (enumerate_from n fs)
numbered-above n [] = tt
numbered-above n (f ∷ fs) = (omega arith, all-map (λ q. n + 1 ≤ q.0) (λ q. n ≤ q.0) (λ q le. omega (arith, le)) (enumerate_from (n + 1) fs) (numbered-above (n + 1) fs))

numbers-rise : (n : ℕ) (fs : List FnDecl) → Pairwise (λ p q. p.0 < q.0) (enumerate_from n fs)
numbers-rise n [] = tt
numbers-rise n (f ∷ fs) = (all-map (λ q. n + 1 ≤ q.0) (λ q. n < q.0) (λ q le. omega (arith, le)) (enumerate_from (n + 1) fs) (numbered-above (n + 1) fs), numbers-rise (n + 1) fs)

functions-rise : (fs : List FnDecl) (loc : ℕ) → Pairwise (λ j k. j < k) (functions_placed_at fs loc)
functions-rise fs loc = pairwise-under (λ numbered. numbered.0) (λ j k. j < k) (filter (λ numbered. is_placed_at loc numbered.1) (enumerate_from 0 fs)) (pairwise-filter (λ p q. p.0 < q.0) (λ numbered. is_placed_at loc numbered.1) (enumerate_from 0 fs) (numbers-rise 0 fs))

all-true : {X : Type 0} (P : X → Type 0) (xs : List X) → ((x : X) → P x) → AllByRecursion P xs
all-true P [] h = tt
all-true P (x ∷ xs) h = (h x, all-true P xs h)

symbols-rise : (fs : List FnDecl) (loc : ℕ) → Pairwise IsSymbolBefore (symbols_at fs loc)
symbols-rise fs loc = (
  all-mapped (at_with loc) (IsSymbolBefore (at loc)) (functions_placed_at fs loc) (all-true (λ f. IsSymbolBefore (at loc) (at_with loc f)) (functions_placed_at fs loc) (λ f. inr (refl, omega arith))),
  pairwise-under (at_with loc) IsSymbolBefore (functions_placed_at fs loc) (pairwise-map (λ j k. j < k) (λ j k. IsSymbolBefore (at_with loc j) (at_with loc k)) (λ j k lt. inr (refl, omega (arith, lt))) (functions_placed_at fs loc) (functions-rise fs loc)),
)

its_location : (fs : List FnDecl) (loc : ℕ) (x : Symbol) → In x (symbols_at fs loc) → x.loc ≡ loc
its_location fs loc x (inl e) = ap (λ y. y.loc) e
its_location fs loc x (inr i) = let mapped = in_map (at_with loc) (functions_placed_at fs loc) x i in ap (λ y. y.loc) mapped.2

range-from : (a n k : ℕ) → In k (range_with_len a n) → a ≤ k
range-from a zero k i = absurd i
range-from a (suc n) k (inl e) = omega (arith, e)
range-from a (suc n) k (inr i) = let within = range-from (a + 1) n k i in omega (arith, within)

among-rise : (fs : List FnDecl) (a n : ℕ) → Pairwise IsSymbolBefore (flat_map (symbols_at fs) (range_with_len a n))
among-rise fs a zero = tt
among-rise fs a (suc n) = pairwise-append IsSymbolBefore (symbols_at fs a) (flat_map (symbols_at fs) (range_with_len (a + 1) n)) (symbols-rise fs a) (among-rise fs (a + 1) n) (λ x y cx cy.
    let found = in_flat_map (symbols_at fs) (range_with_len (a + 1) n) y (in_from (flat_map (symbols_at fs) (range_with_len (a + 1) n)) y cy) in
    let past = range-from (a + 1) n found.0 found.1 in
    let first : x.loc ≡ a = its_location fs a x (in_from (symbols_at fs a) x cx) in
    let second : y.loc ≡ found.0 = its_location fs found.0 y found.2 in
    inl (omega (arith, past, first, second)))

pub ordered : (net : Network) → AreOrderedSymbols net (network_symbols net)
ordered net = record {
  each = λ x. (λ c. in-symbol net x (in_from (network_symbols net) x c), λ is. in_to (network_symbols net) x (symbol-in net x is));
  ascend = among-rise net.functions 0 (length net.locations);
}
