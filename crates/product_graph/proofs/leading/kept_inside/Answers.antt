use Rattle.std.proofs.Common.{◌+◌, ℕ, None, get_or, sym, ◌∙◌, subst}
use Rattle.merlin_model.specs.declared.policy.Symbol.{Symbol}
use Rattle.product_graph.specs.Finding.{AreKeptAmong}
use Rattle.product_graph.specs.Ends.{IsInsideBelow}
use Rattle.product_graph.proofs.Lists.{get-at}
use Rattle.product_graph.proofs.Numbers.{loc-within, inside-is, inside-not}
use Rattle.product_graph.proofs.Keeping.{inside-with, inside-without}
use Rattle.product_graph.proofs.leading.kept_inside.Goals as goal
use Rattle.product_graph.proofs.leading.kept_inside.Goals.{then-is_none+in_ok-keep_states, else-is_none}

abbrev nowhere : Symbol
nowhere = record { loc = 0; fun = None }

pub host-requires : goal.host-requires
host-requires c = loc-within c.args.net.now c.args.symbols.now c.requires.symbols c.loop-number.number c.loop-number-test.true

pub loop-number-preserved : goal.loop-number-preserved
loop-number-preserved c =
    let n : ℕ = c.loop-number.number in
    let at_n = get-at c.args.symbols.now n nowhere c.loop-number-test.true in
    elim c.if-is_none.branch [
      | then-is_none+in_ok-keep_states w ↦
          subst (AreKeptAmong (IsInsideBelow c.args.net.now c.args.symbols.now c.args.states (n + 1)) c.args.leading.now) (sym (w.kept-is ∙ w.in_ok-keep_states.ensures.1))
          (inside-with c.args.leading.now c.args.net.now c.args.symbols.now c.args.states n c.loop-number.kept c.loop-number.invariant w.in_ok-keep_states.ensures.0 w.in_ok-keep_states.ensures.2
          (inside-is c.args.net.now c.args.symbols.now n (get_or c.args.symbols.now n nowhere) at_n c.host.result c.host.ensures c.is_none.result c.is_none.ensures w.if-is_none.true))
      | else-is_none w ↦
          subst (AreKeptAmong (IsInsideBelow c.args.net.now c.args.symbols.now c.args.states (n + 1)) c.args.leading.now) (sym w.kept-is)
          (inside-without c.args.leading.now c.args.net.now c.args.symbols.now c.args.states n c.loop-number.kept c.loop-number.invariant
          (inside-not c.args.net.now c.args.symbols.now n (get_or c.args.symbols.now n nowhere) at_n c.host.result c.host.ensures c.is_none.result c.is_none.ensures w.if-is_none.false))
    ]
