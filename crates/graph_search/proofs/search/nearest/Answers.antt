use Rattle.std.proofs.Common.{◌<◌, inl, inr, ℕ, List, false, get_or, length, refl, sym, ◌∙◌, ap, subst}
use Rattle.graph_search.specs.Searching.{IsSettling}
use Rattle.graph_search.proofs.Settling.{stale, nearest}
use Rattle.graph_search.proofs.search.nearest.Goals as goal

pub bounds-as_slice-vertex : goal.bounds-as_slice-vertex
bounds-as_slice-vertex c =
    subst (λ l. c.in-Some.vertex < length l) (sym c.as_slice.ensures) (c.entries.invariant.within c.in-Some.cost c.in-Some.vertex ((c.in-Some.ensures.rest (c.in-Some.cost, c.in-Some.vertex)).1 (inl refl)))

pub entries-preserved : goal.entries-preserved
entries-preserved c = record {
  within = λ d v h. c.entries.invariant.within d v ((c.in-Some.ensures.rest (d, v)).1 (inr h));
  settled = c.entries.invariant.settled;
  searching = λ n edges source low s. stale n edges source low c.entries.search (c.entries.invariant.searching n edges source low s) (c.in-Some.cost, c.in-Some.vertex) c.pop.new.self c.in-Some.ensures (ap (λ l. get_or l c.in-Some.vertex false) (sym c.as_slice.ensures) ∙ c.if-not-as_slice-vertex.false);
}

pub returns-then-not-as_slice-vertex-clause-next :
    goal.returns-then-not-as_slice-vertex-clause-next
returns-then-not-as_slice-vertex-clause-next c = λ n edges source low s.
    nearest n edges source low c.entries.search (c.entries.invariant.searching n edges source low s) (c.in-Some.cost, c.in-Some.vertex) c.pop.new.self c.in-Some.ensures (ap (λ l. get_or l c.in-Some.vertex false) (sym c.as_slice.ensures) ∙ c.if-not-as_slice-vertex.true)

pub returns-clause-next : goal.returns-clause-next
returns-clause-next c = λ n edges source low s. (
  low,
  subst (λ (f : List (ℕ × ℕ)). IsSettling n edges source low n 0 (record { distance = c.entries.search.distance; before = c.entries.search.before; settled = c.entries.search.settled; frontier = f })) (c.in_default.ensures.0 ∙ sym c.in_default.ensures.1) (c.entries.invariant.searching n edges source low s),
  c.in_default.ensures.1,
)
