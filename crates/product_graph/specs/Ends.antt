-- The hosts at which walks start and end, by numbers.
use Rattle.std.specs.Prelude.{ℕ, ◌≡◌, ◌≢◌, ◌<◌, ◌↔◌, List, length, slice_get, Contains, Some, None}
use Rattle.std.specs.List.{AllByRecursion}
use Rattle.merlin_model.specs.declared.policy.Symbol.{Symbol}
use Rattle.merlin_model.specs.Networks.{Network, IsHost, Pairwise}
use Rattle.merlin_model.specs.Words.{at}
use Rattle.path_automaton.specs.Automata.{AutomatonTables, step}
use Rattle.rules_model.specs.Products.{IsLast}
use Rattle.product_graph.specs.declared.span.Span2.{Span2}
use Rattle.product_graph.specs.declared.span.Span2.TheVariants.{Pair, All}
use Rattle.product_graph.specs.declared.vertex_set.NumberedVertex.{NumberedVertex}
use Rattle.product_graph.specs.declared.leading.Destination.{Destination}
use Rattle.product_graph.specs.Numbered.{vertex_by, IsNumberedBefore}
use Rattle.product_graph.specs.Products.{automaton_of, IsSource, dest_of}

abbrev pub IsDestination : List Symbol → Destination → Type 0
IsDestination symbols d = slice_get symbols d.symbol ≡ Some (at d.host)

-- the host may follow the vertex, in an accepting state
abbrev pub IsLastBy : Network → List Symbol → AutomatonTables → ℕ → NumberedVertex → Type 0
IsLastBy net symbols t d p = IsLast net (automaton_of symbols t) d (vertex_by symbols p)

-- the number of the symbol is one of a symbol, the state one of a state
abbrev pub HasNumbersOf : List Symbol → AutomatonTables → NumberedVertex → Type 0
HasNumbersOf symbols t p = (p.symbol < length symbols) × (p.state < length t.steps)

-- walks start at the symbol of the vertex
abbrev pub IsStartBy : Network → List Symbol → AutomatonTables → Span2 → NumberedVertex → Type 0
IsStartBy net symbols t span p =
    (s : ℕ) × IsSource net span s × (slice_get symbols p.symbol ≡ Some (at s))
    × (p.state ≡ step t 0 p.symbol)

-- the vertices at which walks start, by their first symbols
pub record AreStartsBelow (net : Network) (symbols : List Symbol) (t : AutomatonTables) (span : Span2) (bound : ℕ) (starts : List NumberedVertex) : Type 0 where
  pub each : (p : NumberedVertex) → Contains starts p ↔ ((p.symbol < bound) × IsStartBy net symbols t span p)
  pub within : AllByRecursion (HasNumbersOf symbols t) starts
  pub below : AllByRecursion (λ p. p.symbol < bound) starts
  pub ascend : Pairwise IsNumberedBefore starts

-- the symbol of this number is at no host
abbrev pub IsSymbolInside : Network → List Symbol → ℕ → Type 0
IsSymbolInside net symbols k = (x : Symbol) × (slice_get symbols k ≡ Some x) × (¬ IsHost net x.loc)

-- the symbol of the vertex is one of the first so many, at no host, and its state one of so many
abbrev pub IsInsideBelow : Network → List Symbol → ℕ → ℕ → NumberedVertex → Type 0
IsInsideBelow net symbols states bound p =
    (p.symbol < bound) × IsSymbolInside net symbols p.symbol × (p.state < states)

-- the symbol of the vertex is this one, and its state one of the first so many
abbrev pub HasSymbolAndBelow : ℕ → ℕ → NumberedVertex → Type 0
HasSymbolAndBelow k bound p = (p.symbol ≡ k) × (p.state < bound)

-- the span names the location as a start
abbrev pub NamesStart : Span2 → ℕ → Type 0
NamesStart (Pair s d) h = h ≡ s
NamesStart (All d) h = h ≢ d

-- walks may start with the symbol
abbrev pub IsStartSymbol : Network → Span2 → Symbol → Type 0
IsStartSymbol net span x = (x.fun ≡ None) × IsSource net span x.loc

abbrev pub IsDestinationOf : List Symbol → Span2 → Destination → Type 0
IsDestinationOf symbols span d = (d.host ≡ dest_of span) × IsDestination symbols d
