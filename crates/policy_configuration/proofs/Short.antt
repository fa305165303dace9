-- Walks without a repeated vertex are short: no longer than there are symbols and states.
use Rattle.std.proofs.Common.{◌≡◌, ◌≤◌, ◌<◌, ◌+◌, ◌*◌, ◌⊎◌, ℕ, zero, suc, inl, inr, Bool, true, false, cond, List, [], ◌∷◌, length, map, filter, slice_get, Some, refl, sym, ap, subst, arith}
use Rattle.std.proofs.Math.Nat.{suc-mul}
use Rattle.std.specs.List.{AllByRecursion, enumerate_from, flat_map, range_with_len}
use Rattle.std.proofs.lemmas.List.{length-append, length-map}
use Rattle.merlin_model.specs.declared.network.FnDecl.{FnDecl}
use Rattle.merlin_model.specs.declared.policy.Ends.{Ends}
use Rattle.merlin_model.specs.declared.policy.Symbol.{Symbol}
use Rattle.merlin_model.specs.Networks.{Network}
use Rattle.merlin_model.specs.Words.{at}
use Rattle.merlin_model.proofs.Members.{In, map_in, flat_map_in, all_in}
use Rattle.path_regex.specs.Normal.{normal_of}
use Rattle.path_automaton.specs.States.{followers}
use Rattle.path_automaton.specs.Automata.{AutomatonTables, AreTablesOfPath, step, number_in}
use Rattle.path_automaton.proofs.Noting.{with_all_new-keeps}
use Rattle.path_automaton.proofs.Listed.{number-at}
use Rattle.path_automaton.proofs.Building.{get-below, below-get}
use Rattle.topology.specs.Symbols.{is_placed_at, functions_placed_at, at_with, symbols_at, network_symbols}
use Rattle.rules_model.specs.Products.{SymbolAutomaton, Vertex, start_of}
use Rattle.product_graph.specs.Products.{automaton_of}
use Rattle.product_graph.proofs.Lists.{lt-or-ge}
use Rattle.configuration_model.specs.Groups.{vertices_after, HasDifferentVertices}
use Rattle.policy_configuration.proofs.Few.{few-different}

-- How many there are.

flat-long : {X A : Type 0} (f : X → List A) (b : ℕ) (xs : List X) → ((x : X) → length (f x) ≤ b) → length (flat_map f xs) ≤ length xs * b
flat-long f b [] each = omega arith
flat-long f b (x ∷ xs) each =
    let first = each x in
    let rest = flat-long f b xs each in
    let all = length-append (f x) (flat_map f xs) in
    let product = suc-mul (length xs) b in
    omega (arith, first, rest, all, product)

filter-long : {X : Type 0} (t : X → Bool) (xs : List X) → length (filter t xs) ≤ length xs
filter-long t [] = omega arith
filter-long t (x ∷ xs) = by (t x) (filter-long t xs)
  where
    by : (b : Bool) → length (filter t xs) ≤ length xs → length (cond b (x ∷ filter t xs) (filter t xs)) ≤ suc (length xs)
    by true le = omega (arith, le)
    by false le = omega (arith, le)

enumerate-long : {X : Type 0} (n : ℕ) (xs : List X) → length (enumerate_from n xs) ≡ length xs
enumerate-long n [] = refl
enumerate-long n (x ∷ xs) = ap suc (enumerate-long (n + 1) xs)

same-or-above : (a k : ℕ) → a ≤ k → (k ≡ a) ⊎ (a < k)
same-or-above a k le = by (lt-or-ge a k)
  where
    by : (a < k) ⊎ (k ≤ a) → (k ≡ a) ⊎ (a < k)
    by (inl lt) = inr lt
    by (inr ge) = inl (omega (arith, le, ge))

range-long : (a n : ℕ) → length (range_with_len a n) ≡ n
range-long a zero = refl
range-long a (suc n) = ap suc (range-long (a + 1) n)

pub range-in : (a n k : ℕ) → a ≤ k → k < a + n → In k (range_with_len a n)
range-in a zero k from to = absurd (omega (arith, from, to))
range-in a (suc n) k from to = by (same-or-above a k from) (λ lt. range-in (a + 1) n k (omega (arith, lt)) (omega (arith, to)))
  where
    by : (k ≡ a) ⊎ (a < k) → (a < k → In k (range_with_len (a + 1) n)) → In k (range_with_len a (suc n))
    by (inl same) rest = inl same
    by (inr lt) rest = inr (rest lt)

symbols-long : (functions : List FnDecl) (loc : ℕ) → length (symbols_at functions loc) ≤ length functions + 1
symbols-long functions loc =
    let placed = filter (λ (numbered : ℕ × FnDecl). is_placed_at loc numbered.1) (enumerate_from 0 functions) in
    let few = filter-long (λ (numbered : ℕ × FnDecl). is_placed_at loc numbered.1) (enumerate_from 0 functions) in
    let all = enumerate-long 0 functions in
    let numbers = length-map placed (λ (numbered : ℕ × FnDecl). numbered.0) in
    let symbols = length-map (functions_placed_at functions loc) (at_with loc) in
    omega (arith, few, all, numbers, symbols)

pub network-long : (net : Network) → length (network_symbols net) ≤ length net.locations * (length net.functions + 1)
network-long net =
    let all = flat-long (symbols_at net.functions) (length net.functions + 1) (range_with_len 0 (length net.locations)) (symbols-long net.functions) in
    subst (λ n. length (network_symbols net) ≤ n * (length net.functions + 1)) (range-long 0 (length net.locations)) all

-- The vertices over some symbols and states.

abbrev vertex : Symbol → ℕ → Vertex
vertex x q = record { symbol = x; state = q }

abbrev vertices_of : Symbol → ℕ → List Vertex
vertices_of x n = map (vertex x) (range_with_len 0 n)

vertices-long : (symbols : List Symbol) (n : ℕ) → length (flat_map (λ x. vertices_of x n) symbols) ≤ length symbols * n
vertices-long symbols n = flat-long (λ x. vertices_of x n) n symbols (λ x. let e = length-map (range_with_len 0 n) (vertex x) in let r = range-long 0 n in omega (arith, e, r))

module _ (symbols : List Symbol) (n : ℕ) where
  abbrev IsOver : Vertex → Type 0
  IsOver v = In v.symbol symbols × (v.state < n)

  over-in : (v : Vertex) → IsOver v → In v (flat_map (λ x. vertices_of x n) symbols)
  over-in v h = flat_map_in (λ x. vertices_of x n) symbols v.symbol v h.0 (map_in (vertex v.symbol) (range_with_len 0 n) v.state (range-in 0 n v.state (omega arith) (let lt = h.1 in omega (arith, lt))))

-- The states of a path are closed under steps.
module _ {path : _} (symbols : List Symbol) (t : AutomatonTables) (forms : _) (are : AreTablesOfPath path symbols t forms) where
  first-below : 0 < length forms
  first-below = get-below forms 0 (normal_of path) (subst (λ l. slice_get l 0 ≡ Some (normal_of path)) (sym are.states.in_order) (with_all_new-keeps (normal_of path ∷ []) (flat_map (followers symbols) forms) 0 (normal_of path) refl))

  step-below : (q : ℕ) (x : Symbol) → q < length forms → In x symbols → step t q (number_in symbols x) < length forms
  step-below q x lt i =
      let form = below-get forms q lt in
      get-below forms (step t q (number_in symbols x)) _ (are.next q (number_in symbols x) form.0 x form.1 (number-at symbols x i))

  abbrev auto : SymbolAutomaton
  auto = automaton_of symbols t

  after-over : (q : ℕ) (w : List Symbol) → q < length forms → AllByRecursion (λ x. In x symbols) w → AllByRecursion (IsOver symbols (length forms)) (vertices_after auto q w)
  after-over q [] lt h = tt
  after-over q (x ∷ []) lt h = tt
  after-over q (x ∷ y ∷ rest) lt h =
      let next = step-below q x lt h.0 in
      ((h.0, next), after-over (step t q (number_in symbols x)) (y ∷ rest) next h.1)

  after-long : (q : ℕ) (w : List Symbol) → length w ≤ length (vertices_after auto q w) + 1
  after-long q [] = omega arith
  after-long q (x ∷ []) = omega arith
  after-long q (x ∷ y ∷ rest) = let more = after-long (step t q (number_in symbols x)) (y ∷ rest) in omega (arith, more)

  -- the word has no more symbols than vertices, and two more
  pub word-long : (e : Ends) (w : List Symbol) → In (at e.src) symbols → AllByRecursion (λ x. In x symbols) w → HasDifferentVertices auto e w → length w ≤ length symbols * length forms + 1
  word-long e [] first h different = omega arith
  word-long e (x ∷ rest) first h different =
      let start = step-below 0 (at e.src) first-below first in
      let after = vertices_after auto (start_of auto e.src).state rest in
      let over = after-over (start_of auto e.src).state rest start h.1 in
      let few = few-different (start_of auto e.src ∷ after) (flat_map (λ y. vertices_of y (length forms)) symbols) different (λ v i. over-in symbols (length forms) v (all_in (IsOver symbols (length forms)) (start_of auto e.src ∷ after) v ((first, start), over) i)) in
      let all = vertices-long symbols (length forms) in
      let long = after-long (start_of auto e.src).state rest in
      omega (arith, few, all, long)
