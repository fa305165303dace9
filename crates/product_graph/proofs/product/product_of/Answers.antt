use Rattle.std.proofs.Common.{◌<◌, inl, inr, ℕ, List, Bool, Option, None, Some, length, sym, ◌∙◌, subst, arith}
use Rattle.std.specs.List.{AllByRecursion}
use Rattle.merlin_model.specs.Words.{at}
use Rattle.product_graph.specs.declared.vertex_set.NumberedVertex.{NumberedVertex}
use Rattle.product_graph.specs.declared.span.Product.{Product}
use Rattle.product_graph.specs.Ends.{HasNumbersOf}
use Rattle.product_graph.specs.Numbered.{ground_of}
use Rattle.product_graph.specs.Joining.{AreLasts, IsLeastBelow}
use Rattle.product_graph.specs.Kept.{AreBetween, IsAssembled}
use Rattle.product_graph.specs.Products.{automaton_of, dest_of, IsProduct}
use Rattle.product_graph.proofs.Lists.{if-ok, get-below, all-map}
use Rattle.product_graph.proofs.Listing.{all-on, all-numbers, all-different, all-ordered}
use Rattle.product_graph.proofs.Trimming.{is-cut, is-trimmed}
use Rattle.product_graph.proofs.product.product_of.Goals as goal

pub lasts_among-requires-clause-vertices : goal.lasts_among-requires-clause-vertices
lasts_among-requires-clause-vertices c =
    subst (AllByRecursion (HasNumbersOf c.args.symbols.now c.args.automaton.now)) (sym c.as_slice-vertices.ensures)
    (all-numbers c.args.net.now c.args.symbols.now c.requires.symbols c.args.followers.now c.requires.followers c.args.automaton.now c.requires.kept.0 c.args.destination.host c.args.kept.now c.requires.kept.1)

pub least_entered-requires-clause-symbol : goal.least_entered-requires-clause-symbol
least_entered-requires-clause-symbol c =
    let lt = get-below c.args.symbols.now c.args.destination.symbol (at c.args.destination.host) c.requires.destination in
    let width = c.requires.width in
    omega (arith, lt, width)

pub least_entered-requires-clause-states : goal.least_entered-requires-clause-states
least_entered-requires-clause-states c =
    subst (AllByRecursion (λ p. p.state < length c.args.automaton.now.steps)) (sym c.as_slice-vertices.ensures)
    (all-map (HasNumbersOf c.args.symbols.now c.args.automaton.now) (λ p. p.state < length c.args.automaton.now.steps) (λ p h. h.1) c.args.kept.now.vertices
    (all-numbers c.args.net.now c.args.symbols.now c.requires.symbols c.args.followers.now c.requires.followers c.args.automaton.now c.requires.kept.0 c.args.destination.host c.args.kept.now c.requires.kept.1))

pub returns-in-None : goal.returns-in-None
returns-in-None c = λ span dest between.
    let vertices : List NumberedVertex = c.args.kept.now.vertices in
    let lasts : List Bool = c.in_ok-lasts.lasts in
    let b : AreBetween c.args.net.now c.args.symbols.now c.args.followers.now c.args.automaton.now span (dest_of span) c.args.kept.now =
    subst (λ d. AreBetween c.args.net.now c.args.symbols.now c.args.followers.now c.args.automaton.now span d c.args.kept.now) dest between in
    let flags : AreLasts c.args.net.now c.args.symbols.now c.args.automaton.now (dest_of span) vertices lasts =
    subst (λ d. AreLasts c.args.net.now c.args.symbols.now c.args.automaton.now d vertices lasts) dest
    (subst (λ (l : List NumberedVertex). AreLasts c.args.net.now c.args.symbols.now c.args.automaton.now c.args.destination.host l lasts) c.as_slice-vertices.ensures c.in_ok-lasts.ensures) in
    let least : IsLeastBelow c.args.automaton.now c.args.destination.symbol vertices lasts (length vertices) None =
    subst (λ (o : Option ℕ). IsLeastBelow c.args.automaton.now c.args.destination.symbol vertices lasts (length vertices) o) c.in-None.is
    (subst (λ (l : List NumberedVertex). IsLeastBelow c.args.automaton.now c.args.destination.symbol l lasts (length l) c.least_entered.result) c.as_slice-vertices.ensures
    (subst (λ (f : List Bool). IsLeastBelow c.args.automaton.now c.args.destination.symbol c.as_slice-vertices.result.now f (length c.as_slice-vertices.result.now) c.least_entered.result) c.as_slice.ensures c.least_entered.ensures)) in
    inl (is-cut c.args.net.now c.args.symbols.now c.requires.symbols c.args.followers.now c.requires.followers c.args.automaton.now span c.args.destination dest c.requires.destination c.args.kept.now b lasts flags c.nothing.result c.nothing.ensures least)

pub assembled-requires-clause-on : goal.assembled-requires-clause-on
assembled-requires-clause-on c = all-on c.args.net.now c.args.symbols.now c.requires.symbols c.args.followers.now c.requires.followers c.args.automaton.now c.requires.kept.0 c.args.destination.host c.args.kept.now c.requires.kept.1

pub assembled-requires-clause-different : goal.assembled-requires-clause-different
assembled-requires-clause-different c = all-different c.args.net.now c.args.symbols.now c.requires.symbols c.args.followers.now c.requires.followers c.args.automaton.now c.requires.kept.0 c.args.destination.host c.args.kept.now c.requires.kept.1

pub assembled-requires-clause-order : goal.assembled-requires-clause-order
assembled-requires-clause-order c = all-ordered c.args.net.now c.args.symbols.now c.requires.symbols c.args.followers.now c.requires.followers c.args.automaton.now c.requires.kept.0 c.args.destination.host c.args.kept.now c.requires.kept.1

pub returns : goal.returns
returns c = λ span dest between.
    let vertices : List NumberedVertex = c.args.kept.now.vertices in
    let lasts : List Bool = c.as_slice-in-Some.result.now in
    let b : AreBetween c.args.net.now c.args.symbols.now c.args.followers.now c.args.automaton.now span (dest_of span) c.args.kept.now =
    subst (λ d. AreBetween c.args.net.now c.args.symbols.now c.args.followers.now c.args.automaton.now span d c.args.kept.now) dest between in
    let flags : AreLasts c.args.net.now c.args.symbols.now c.args.automaton.now (dest_of span) vertices lasts =
    subst (AreLasts c.args.net.now c.args.symbols.now c.args.automaton.now (dest_of span) vertices) (sym c.as_slice-in-Some.ensures)
    (subst (λ d. AreLasts c.args.net.now c.args.symbols.now c.args.automaton.now d vertices c.in_ok-lasts.lasts) dest
    (subst (λ (l : List NumberedVertex). AreLasts c.args.net.now c.args.symbols.now c.args.automaton.now c.args.destination.host l c.in_ok-lasts.lasts) c.as_slice-vertices.ensures c.in_ok-lasts.ensures)) in
    let least : IsLeastBelow c.args.automaton.now c.args.destination.symbol vertices lasts (length vertices) (Some c.in-Some.state) =
    subst (λ (o : Option ℕ). IsLeastBelow c.args.automaton.now c.args.destination.symbol vertices lasts (length vertices) o) c.in-Some.is
    (subst (λ (l : List NumberedVertex). IsLeastBelow c.args.automaton.now c.args.destination.symbol l lasts (length l) c.least_entered.result) c.as_slice-vertices.ensures
    (subst (λ (f : List Bool). IsLeastBelow c.args.automaton.now c.args.destination.symbol c.as_slice-vertices.result.now f (length c.as_slice-vertices.result.now) c.least_entered.result) (c.as_slice.ensures ∙ sym c.as_slice-in-Some.ensures) c.least_entered.ensures)) in
    if-ok (IsAssembled (ground_of c.args.followers.now c.args.automaton.now) c.args.symbols.now c.args.kept.now lasts (record { symbol = at c.args.destination.host; state = c.in-Some.state }))
    (IsProduct c.args.net.now (automaton_of c.args.symbols.now c.args.automaton.now) span) c.assembled.result
    (λ (product : Product) is. inr (is-trimmed c.args.net.now c.args.symbols.now c.requires.symbols c.args.followers.now c.requires.followers c.args.automaton.now span c.args.destination dest c.requires.destination c.args.kept.now b lasts flags c.in-Some.state least product is))
    c.assembled.ensures
