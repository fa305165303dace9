use Rattle.std.proofs.Common.{◌≡◌, List, length, sym, ◌∙◌, subst}
use Rattle.product_graph.specs.declared.vertex_set.NumberedVertex.{NumberedVertex}
use Rattle.product_graph.specs.declared.kept.Kept.{Kept}
use Rattle.product_graph.specs.Numbered.{Ground, ground_of}
use Rattle.product_graph.specs.Finding.{AreLeading}
use Rattle.product_graph.specs.Ends.{IsLastBy, AreStartsBelow}
use Rattle.product_graph.specs.Kept.{AreKeptOf, AreBetween}
use Rattle.product_graph.proofs.Lists.{if-ok}
use Rattle.product_graph.proofs.Returning.{found-inside, readable}
use Rattle.product_graph.proofs.Bridging.{long}
use Rattle.product_graph.proofs.Listing.{between-by}
use Rattle.product_graph.proofs.kept.between.Goals as goal

pub leading_to_end-requires-clause-edges : goal.leading_to_end-requires-clause-edges
leading_to_end-requires-clause-edges c = found-inside (ground_of c.args.followers.now c.args.automaton.now) c.as_slice.result.now c.in_ok-found.found c.in_ok-found.ensures

pub kept_of-requires-clause-readable : goal.kept_of-requires-clause-readable
kept_of-requires-clause-readable c =
    let g : Ground = ground_of c.args.followers.now c.args.automaton.now in
    readable g (IsLastBy c.args.net.now c.args.symbols.now c.args.automaton.now c.args.destination.host) c.as_slice.result.now c.in_ok-leading.leading
    (c.in_ok-leading.ensures c.args.followers.now c.as_slice.result.now (long c.args.net.now c.args.symbols.now c.requires.symbols c.args.followers.now c.requires.followers c.args.automaton.now) c.in_ok-found.ensures)

pub returns : goal.returns
returns c =
    let g : Ground = ground_of c.args.followers.now c.args.automaton.now in
    let P : NumberedVertex → Type 0 = IsLastBy c.args.net.now c.args.symbols.now c.args.automaton.now c.args.destination.host in
    let starts : List NumberedVertex = c.as_slice-2.result.now in
    let same : c.as_slice.result.now ≡ starts = c.as_slice.ensures ∙ sym c.as_slice-2.ensures in
    let leads : AreLeading g P starts c.in_ok-leading.leading =
    subst (λ (l : List NumberedVertex). AreLeading g P l c.in_ok-leading.leading) same
    (c.in_ok-leading.ensures c.args.followers.now c.as_slice.result.now (long c.args.net.now c.args.symbols.now c.requires.symbols c.args.followers.now c.requires.followers c.args.automaton.now) c.in_ok-found.ensures) in
    let are : AreStartsBelow c.args.net.now c.args.symbols.now c.args.automaton.now c.args.span (length c.args.symbols.now) starts =
    subst (AreStartsBelow c.args.net.now c.args.symbols.now c.args.automaton.now c.args.span (length c.args.symbols.now)) (sym c.as_slice-2.ensures) c.in_ok-starts.ensures in
    if-ok (AreKeptOf c.args.net.now c.args.symbols.now c.states.result c.in_ok-leading.leading starts) (AreBetween c.args.net.now c.args.symbols.now c.args.followers.now c.args.automaton.now c.args.span c.args.destination.host) c.kept_of.result
    (λ (k : Kept) kept. between-by c.args.net.now c.args.symbols.now c.args.followers.now c.args.automaton.now c.args.span c.args.destination.host c.in_ok-leading.leading starts k are leads
    (subst (λ n. AreKeptOf c.args.net.now c.args.symbols.now n c.in_ok-leading.leading starts k) c.states.ensures.count kept))
    c.kept_of.ensures
