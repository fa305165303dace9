-- The vertices at which walks start, symbol by symbol.
use Rattle.std.proofs.Common.{◌≡◌, ◌<◌, ◌⊎◌, inl, inr, ◌+◌, ℕ, List, [], ◌∷◌, ◌++◌, length, slice_get, Contains, Some, None, refl, sym, ◌∙◌, ap, subst, arith}
use Rattle.std.specs.List.{AllByRecursion}
use Rattle.merlin_model.specs.declared.policy.Symbol.{Symbol}
use Rattle.merlin_model.specs.Networks.{Network, IsHost}
use Rattle.merlin_model.specs.Words.{at}
use Rattle.rules_model.proofs.Trees.{host_symbol}
use Rattle.path_automaton.specs.Automata.{AutomatonTables, step}
use Rattle.product_graph.specs.declared.span.Span2.{Span2}
use Rattle.product_graph.specs.declared.span.Span2.TheVariants.{Pair, All}
use Rattle.product_graph.specs.declared.vertex_set.NumberedVertex.{NumberedVertex}
use Rattle.product_graph.specs.Products.{IsSource}
use Rattle.product_graph.specs.Followers.{AreOrderedSymbols}
use Rattle.product_graph.specs.Numbered.{IsNumberedBefore}
use Rattle.product_graph.specs.Ends.{HasNumbersOf, IsStartBy, AreStartsBelow, NamesStart, IsStartSymbol}
use Rattle.product_graph.proofs.Lists.{some-same, below_or_at, all-map, all-snoc, pairwise-snoc, contains-none, contains-left, contains-last, contains-snoc}

pub named-source : (net : Network) (span : Span2) (h : ℕ) → NamesStart span h → IsHost net h → IsSource net span h
named-source net (Pair s d) h named host = (host, named)
named-source net (All d) h named host = (host, named)

pub source-named : (net : Network) (span : Span2) (h : ℕ) → IsSource net span h → NamesStart span h
source-named net (Pair s d) h source = source.1
source-named net (All d) h source = source.1

pub source-host : (net : Network) (span : Span2) (h : ℕ) → IsSource net span h → IsHost net h
source-host net (Pair s d) h source = source.0
source-host net (All d) h source = source.0

module _ (net : Network) (symbols : List Symbol) (t : AutomatonTables) (span : Span2) where
  pub starts-none : AreStartsBelow net symbols t span 0 []
  starts-none = record {
    each = λ p. (λ c. absurd (contains-none p c), λ h. let lt : p.symbol < 0 = h.0 in absurd (omega (arith, lt)));
    within = tt;
    below = tt;
    ascend = tt;
  }

  module _ (n : ℕ) (starts : List NumberedVertex) (s : AreStartsBelow net symbols t span n starts) (x : Symbol) (here : slice_get symbols n ≡ Some x) where
    abbrev vertex : NumberedVertex
    vertex = record { symbol = n; state = step t 0 n }

    wider : AllByRecursion (λ p. p.symbol < n + 1) starts
    wider = all-map (λ p. p.symbol < n) (λ p. p.symbol < n + 1) (λ p lt. omega (arith, lt)) starts s.below

    start-by : IsStartSymbol net span x → IsStartBy net symbols t span vertex
    start-by h =
        let none : x.fun ≡ None = h.0 in
        (x.loc, h.1, here ∙ ap Some (λ i. record { loc = x.loc; fun = none i }), refl)

    by-start : (p : NumberedVertex) → IsStartBy net symbols t span p → p.symbol ≡ n → IsStartSymbol net span x × (p ≡ vertex)
    by-start p h e =
        let same : at h.0 ≡ x = some-same (sym h.2 ∙ ap (slice_get symbols) e ∙ here) in
        let state : p.state ≡ step t 0 n = h.3 ∙ ap (step t 0) e in
        (subst (IsStartSymbol net span) same (refl, h.1), λ i. record { symbol = e i; state = state i })

    pub start-with : IsStartSymbol net span x → n < length symbols → step t 0 n < length t.steps → AreStartsBelow net symbols t span (n + 1) (starts ++ vertex ∷ [])
    start-with is lt state = record {
      each = λ p. (λ c. to p (contains-snoc starts vertex p c), λ h. from p h.0 h.1);
      within = all-snoc (HasNumbersOf symbols t) starts vertex s.within (lt, state);
      below = all-snoc (λ p. p.symbol < n + 1) starts vertex wider (omega arith);
      ascend = pairwise-snoc IsNumberedBefore starts vertex (all-map (λ p. p.symbol < n) (λ p. IsNumberedBefore p vertex) (λ p below. inl below) starts s.below) s.ascend;
    }
      where
        to : (p : NumberedVertex) → Contains starts p ⊎ (p ≡ vertex) → (p.symbol < n + 1) × IsStartBy net symbols t span p
        to p (inl c) = let old = (s.each p).0 c in let below : p.symbol < n = old.0 in (omega (arith, below), old.1)
        to p (inr e) = subst (λ q. (q.symbol < n + 1) × IsStartBy net symbols t span q) (sym e) (omega arith, start-by is)

        from : (p : NumberedVertex) → p.symbol < n + 1 → IsStartBy net symbols t span p → Contains (starts ++ vertex ∷ []) p
        from p below h = by (below_or_at n p.symbol below)
          where
            by : (p.symbol < n) ⊎ (p.symbol ≡ n) → Contains (starts ++ vertex ∷ []) p
            by (inl l) = contains-left starts (vertex ∷ []) p ((s.each p).1 (l, h))
            by (inr e) = subst (Contains (starts ++ vertex ∷ [])) (sym (by-start p h e).1) (contains-last starts vertex)

    pub start-without : (¬ IsStartSymbol net span x) → AreStartsBelow net symbols t span (n + 1) starts
    start-without not = record {
      each = λ p. (λ c. let old = (s.each p).0 c in let below : p.symbol < n = old.0 in (omega (arith, below), old.1), λ h. from p h.0 h.1);
      within = s.within;
      below = wider;
      ascend = s.ascend;
    }
      where
        from : (p : NumberedVertex) → p.symbol < n + 1 → IsStartBy net symbols t span p → Contains starts p
        from p below h = by (below_or_at n p.symbol below)
          where
            by : (p.symbol < n) ⊎ (p.symbol ≡ n) → Contains starts p
            by (inl l) = (s.each p).1 (l, h)
            by (inr e) = absurd (not (by-start p h e).0)

pub host-listed : (net : Network) (symbols : List Symbol) → AreOrderedSymbols net symbols → (h : ℕ) → IsHost net h → Contains symbols (at h)
host-listed net symbols are h host = (are.each (at h)).1 (host_symbol net h host)
