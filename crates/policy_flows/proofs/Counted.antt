-- Edges that are counted flow by flow, and lists that are mapped.
use Rattle.std.proofs.Common.{◌≡◌, ◌<◌, ◌+◌, ℕ, zero, suc, List, [], ◌∷◌, map, take, length, get_or, sym, ◌∙◌, ap, arith}
use Rattle.std.proofs.lemmas.List.Sums.{sum_by_more, sum_by-take-le}
use Rattle.cutoff_program.specs.declared.flow.Flow.{Flow}
use Rattle.policy_flows.specs.Layouts.{edges_of_flows}

pub edges-next : (flows : List Flow) (k : ℕ) (flow : Flow) → k < length flows → get_or flows k flow ≡ flow → edges_of_flows (take (k + 1) flows) ≡ edges_of_flows (take k flows) + length flow.edges
edges-next flows k flow lt is = sum_by_more (λ (f : Flow). length f.edges) flows k flow lt ∙ ap (λ (f : Flow). edges_of_flows (take k flows) + length f.edges) is

pub edges-beyond : (flows : List Flow) (k room most : ℕ) (flow : Flow) → k < length flows → get_or flows k flow ≡ flow → room + edges_of_flows (take k flows) ≡ most → room < length flow.edges → most < edges_of_flows flows
edges-beyond flows k room most flow lt is so past =
    let next = edges-next flows k flow lt is in
    let le = sum_by-take-le (λ (f : Flow). length f.edges) flows (k + 1) in
    omega (arith, next, le, so, past)

-- what is mapped to an element that stands at a place
pub mapped-at : {X Y : Type 0} (f : X → Y) (xs : List X) (i : ℕ) (e : Y) (b d : X) → i < length xs → b ≡ get_or xs i d → get_or (map f xs) i e ≡ f b
mapped-at f [] i e b d lt is = absurd (omega (arith, lt))
mapped-at f (x ∷ xs) zero e b d lt is = ap f (sym is)
mapped-at f (x ∷ xs) (suc i) e b d lt is = mapped-at f xs i e b d (omega arith) is
