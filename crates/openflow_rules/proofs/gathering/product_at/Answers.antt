use Rattle.std.proofs.Common.{◌≡◌, length, sym, ◌∙◌, ap, subst}
use Rattle.std.specs.Prelude.{IfOk}
use Rattle.path_automaton.specs.Automata.{AutomatonTables}
use Rattle.topology.specs.Symbols.{network_symbols}
use Rattle.rules_model.specs.Products.{SymbolAutomaton}
use Rattle.product_graph.specs.Products.{automaton_of, IsProduct}
use Rattle.product_graph.proofs.Lists.{some-same}
use Rattle.openflow_rules.proofs.Inner.{dest-host}
use Rattle.openflow_rules.proofs.gathering.product_at.Goals as goal

pub automaton-automaton-requires : goal.automaton-automaton-requires
automaton-automaton-requires c = c.requires.span.1.leads

pub build_over-requires-clause-width : goal.build_over-requires-clause-width
build_over-requires-clause-width c =
    let is = c.requires.span.1 in
    subst (λ (t : AutomatonTables). t.width ≡ length (network_symbols c.args.site.now.net.now)) (some-same (sym is.is_table ∙ c.automaton-automaton.ensures)) is.width

pub build_over-requires-clause-host : goal.build_over-requires-clause-host
build_over-requires-clause-host c = dest-host c.args.site.now.net.now c.args.site.now.checked.now c.requires.span.0 c.args.span c.requires.span.1

pub returns : goal.returns
returns c = λ groups is.
    subst (λ (a : SymbolAutomaton). IfOk c.build_over.result (IsProduct c.args.site.now.net.now a c.args.span.span))
    (sym (is.automaton ∙ ap (automaton_of (network_symbols c.args.site.now.net.now)) (some-same (sym is.is_table ∙ c.automaton-automaton.ensures)))) c.build_over.ensures
