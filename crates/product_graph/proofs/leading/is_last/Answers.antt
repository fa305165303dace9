use Rattle.std.proofs.Common.{◌∙◌, ap, arith}
use Rattle.product_graph.proofs.Lists.{get-below}
use Rattle.path_automaton.specs.Automata.{accepts}
use Rattle.merlin_model.specs.Words.{at}
use Rattle.product_graph.proofs.Numbers.{loc-within, host-within, last-by}
use Rattle.product_graph.proofs.leading.is_last.Goals as goal

pub may_follow-requires-clause-from : goal.may_follow-requires-clause-from
may_follow-requires-clause-from c = loc-within c.args.net.now c.args.symbols.now c.requires.symbols c.args.vertex.symbol c.requires.vertex.0

pub may_follow-requires-clause-to : goal.may_follow-requires-clause-to
may_follow-requires-clause-to c = host-within c.args.net.now c.args.symbols.now c.requires.symbols c.args.destination c.requires.destination

pub step-requires-clause-symbol : goal.step-requires-clause-symbol
step-requires-clause-symbol c =
    let lt = get-below c.args.symbols.now c.args.destination.symbol (at c.args.destination.host) c.requires.destination in
    let width = c.requires.width in
    omega (arith, lt, width)

pub returns-then-may_follow : goal.returns-then-may_follow
returns-then-may_follow c =
    last-by c.args.net.now c.args.symbols.now c.requires.symbols c.args.automaton.now c.args.destination c.requires.destination c.args.vertex c.accepts.result
    (c.accepts.ensures ∙ ap (accepts c.args.automaton.now) c.step.ensures.after) (c.may_follow.ensures.0 c.if-may_follow.true)
