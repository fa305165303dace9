use Rattle.std.proofs.Common.{ℕ, map, sym, subst}
use Rattle.topology.specs.Symbols.{network_symbols}
use Rattle.product_graph.specs.Products.{automaton_of}
use Rattle.openflow_rules.specs.Sources.{listed_loc, AreMarkedAmong, HasStartsWithin}
use Rattle.openflow_rules.proofs.WalkStarts.{starts-within}
use Rattle.openflow_rules.proofs.SharedWalks.{width-of, row-is}
use Rattle.openflow_rules.proofs.walk_rows.row_to.Goals as goal

pub build_over-requires-clause-width : goal.build_over-requires-clause-width
build_over-requires-clause-width c =
    width-of c.args.site.now.net.now c.args.site.now.checked.now c.requires.automata c.args.statement c.automaton-automaton.result.now c.requires.statement c.automaton-automaton.ensures

pub start_marks-requires : goal.start_marks-requires
start_marks-requires c =
    subst (λ (n : ℕ). HasStartsWithin n c.in_ok-product.product) (sym c.locations.ensures.count)
    (starts-within c.args.site.now.net.now (automaton_of (network_symbols c.args.site.now.net.now) c.automaton-automaton.result.now) c.args.dest c.requires.dest c.in_ok-product.product c.in_ok-product.ensures)

pub returns-clause-row : goal.returns-clause-row
returns-clause-row c =
    row-is c.args.site.now.net.now c.args.site.now.checked.now c.requires.automata c.args.statement c.automaton-automaton.result.now c.requires.statement c.automaton-automaton.ensures c.args.dest c.requires.dest c.in_ok-product.product c.in_ok-product.ensures c.in_ok-marks.marks
    (subst (λ (n : ℕ). AreMarkedAmong n (map (listed_loc c.in_ok-product.product.vertices) c.in_ok-product.product.starts) c.in_ok-marks.marks) c.locations.ensures.count c.in_ok-marks.ensures)
