-- Symbols by their numbers.
use Rattle.std.proofs.Common.{◌≡◌, ◌<◌, ◌≤◌, ◌⊎◌, ◌↔◌, inl, inr, ℕ, List, length, get_or, slice_get, Contains, Option, None, Some, IsSome, is_some, not, true, false, Bool, refl, sym, ◌∙◌, ap, subst, arith}
use Rattle.merlin_model.specs.declared.policy.Symbol.{Symbol}
use Rattle.merlin_model.specs.Networks.{Network, Pairwise, address_of}
use Rattle.merlin_model.specs.declared.network.HostAddress.{HostAddress}
use Rattle.merlin_model.specs.Words.{at, MayFollow}
use Rattle.merlin_model.proofs.Members.{in_from}
use Rattle.path_automaton.specs.Automata.{AutomatonTables, step, accepts, number_in}
use Rattle.path_automaton.proofs.Listed.{number-at}
use Rattle.product_graph.specs.declared.vertex_set.NumberedVertex.{NumberedVertex}
use Rattle.product_graph.specs.declared.leading.Destination.{Destination}
use Rattle.product_graph.specs.declared.leading.Leading.{Leading}
use Rattle.graph_search.specs.Graphs.{known_at}
use Rattle.product_graph.specs.Followers.{IsSymbolBefore, AreOrderedSymbols}
use Rattle.product_graph.specs.Products.{automaton_of}
use Rattle.product_graph.specs.Ends.{IsDestination, IsLastBy, IsSymbolInside}
use Rattle.product_graph.specs.Finding.{IsSeenLeading, IsReadable}
use Rattle.product_graph.proofs.Lists.{some-same, false-true, lt-or-ge, get-contains, pairwise-get, all-at, all-get}
use Rattle.product_graph.proofs.Following.{symbols-among}

-- no symbol comes before itself
not-before : (x : Symbol) → IsSymbolBefore x x → ⊥
not-before x (inl lt) = omega (arith, lt)
not-before x (inr h) = let lt = h.1 in omega (arith, lt)

-- each symbol stands at one place
pub one-symbol : (symbols : List Symbol) → Pairwise IsSymbolBefore symbols → (i j : ℕ) (x : Symbol) → slice_get symbols i ≡ Some x → slice_get symbols j ≡ Some x → i ≡ j
one-symbol symbols h i j x ei ej = by (lt-or-ge i j) (lt-or-ge j i)
  where
    by : (i < j) ⊎ (j ≤ i) → (j < i) ⊎ (i ≤ j) → i ≡ j
    by (inl lt) o = absurd (not-before x (pairwise-get IsSymbolBefore symbols i j x x h lt ei ej))
    by (inr ge) (inl lt) = absurd (not-before x (pairwise-get IsSymbolBefore symbols j i x x h lt ej ei))
    by (inr ge) (inr le) = omega (arith, ge, le)

pub number-here : (symbols : List Symbol) → Pairwise IsSymbolBefore symbols → (k : ℕ) (x : Symbol) → slice_get symbols k ≡ Some x → number_in symbols x ≡ k
number-here symbols h k x e = one-symbol symbols h (number_in symbols x) k x (number-at symbols x (in_from symbols x (get-contains symbols k x e))) e

module _ (net : Network) (symbols : List Symbol) (are : AreOrderedSymbols net symbols) where
  pub loc-within : (k : ℕ) → k < length symbols → (get_or symbols k (at 0)).loc < length net.locations
  loc-within k lt = all-at (λ x. x.loc < length net.locations) symbols k (at 0) lt (symbols-among net symbols are)

  pub host-within : (d : Destination) → IsDestination symbols d → d.host < length net.locations
  host-within d e = all-get (λ x. x.loc < length net.locations) symbols d.symbol (at d.host) (symbols-among net symbols are) e

module _ (net : Network) (symbols : List Symbol) (are : AreOrderedSymbols net symbols) (t : AutomatonTables) where
  -- the automaton over symbols steps by their numbers
  pub steps-by : (q k : ℕ) (x : Symbol) → slice_get symbols k ≡ Some x → (automaton_of symbols t).step q x ≡ step t q k
  steps-by q k x e = ap (step t q) (number-here symbols are.ascend k x e)

  -- where the host may follow, the test of the state decides
  pub last-by : (d : Destination) → IsDestination symbols d → (p : NumberedVertex) → (b : Bool) → b ≡ accepts t (step t p.state d.symbol) → MayFollow net (at (get_or symbols p.symbol (at 0)).loc, at d.host) → (b ≡ true) ↔ IsLastBy net symbols t d.host p
  last-by d e p b is follows = (
    λ h. record { follows = follows; accepts = ap (accepts t) (steps-by p.state d.symbol (at d.host) e) ∙ sym is ∙ h },
    λ l. is ∙ ap (accepts t) (sym (steps-by p.state d.symbol (at d.host) e)) ∙ l.accepts,
  )

-- the distance at the place of a vertex decides
pub seen-at : (l : Leading) → IsReadable l → (place : ℕ) (p : NumberedVertex) → slice_get l.vertices place ≡ Some p → (b : Bool) → (b ≡ true) ↔ IsSome (known_at l.distance place) → (b ≡ true) ↔ IsSeenLeading l p
seen-at l r place p e b d = (λ h. (place, e, d.0 h), λ s. d.1 (r.agree s.0 place p s.1 e s.2))

pub not-seen : (l : Leading) (p : NumberedVertex) → (¬ Contains l.vertices p) → (false ≡ true) ↔ IsSeenLeading l p
not-seen l p not = (λ h. absurd (false-true h), λ s. absurd (not (get-contains l.vertices s.0 p s.1)))

-- what the look-up of a host says of a symbol

pub inside-is : (net : Network) (symbols : List Symbol) (n : ℕ) (x : Symbol) → slice_get symbols n ≡ Some x → (o : Option HostAddress) → o ≡ address_of net x.loc → (b : Bool) → is_some o ≡ not b → b ≡ true → IsSymbolInside net symbols n
inside-is net symbols n x e None is b none t = (x, e, λ h. false-true (subst IsSome (sym is) h))
inside-is net symbols n x e (Some a) is b none t = absurd (false-true (sym (none ∙ ap not t)))

pub inside-not : (net : Network) (symbols : List Symbol) (n : ℕ) (x : Symbol) → slice_get symbols n ≡ Some x → (o : Option HostAddress) → o ≡ address_of net x.loc → (b : Bool) → is_some o ≡ not b → b ≡ false → ¬ IsSymbolInside net symbols n
inside-not net symbols n x e None is b none f s = false-true (none ∙ ap not f)
inside-not net symbols n x e (Some a) is b none f s = let same : s.0 ≡ x = some-same (sym s.1 ∙ e) in s.2 (subst IsSome (is ∙ ap (λ y. address_of net y.loc) (sym same)) refl)
