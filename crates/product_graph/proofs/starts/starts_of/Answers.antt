use Rattle.std.proofs.Common.{◌<◌, ◌++◌, ◌∷◌, [], ◌+◌, ℕ, None, length, get_or, sym, ◌∙◌, subst}
use Rattle.merlin_model.specs.declared.policy.Symbol.{Symbol}
use Rattle.product_graph.specs.Ends.{AreStartsBelow}
use Rattle.product_graph.proofs.Lists.{get-at, false-true}
use Rattle.product_graph.proofs.Numbers.{loc-within}
use Rattle.product_graph.proofs.Starting.{start-with, start-without}
use Rattle.product_graph.proofs.starts.starts_of.Goals as goal
use Rattle.product_graph.proofs.starts.starts_of.Goals.{then-is_start+in_ok-push, else-is_start}

abbrev nowhere : Symbol
nowhere = record { loc = 0; fun = None }

pub is_start-requires : goal.is_start-requires
is_start-requires c = loc-within c.args.net.now c.args.symbols.now c.requires.symbols c.loop-number.number c.loop-number-test.true

pub loop-number-preserved : goal.loop-number-preserved
loop-number-preserved c =
    let n : ℕ = c.loop-number.number in
    let x : Symbol = get_or c.args.symbols.now n nowhere in
    let at_n = get-at c.args.symbols.now n nowhere c.loop-number-test.true in
    elim c.if-is_start.branch [
      | then-is_start+in_ok-push w ↦
          subst (AreStartsBelow c.args.net.now c.args.symbols.now c.args.automaton.now c.args.span (n + 1)) (sym (w.starts-is ∙ w.in_ok-push.ensures.ok))
          (subst (λ q. AreStartsBelow c.args.net.now c.args.symbols.now c.args.automaton.now c.args.span (n + 1) (c.loop-number.starts ++ record { symbol = n; state = q } ∷ [])) (sym w.step-state.ensures.after)
          (start-with c.args.net.now c.args.symbols.now c.args.automaton.now c.args.span n c.loop-number.starts c.loop-number.invariant x at_n (c.is_start.ensures.0 w.if-is_start.true) c.loop-number-test.true
          (subst (λ q. q < length c.args.automaton.now.steps) w.step-state.ensures.after w.step-state.ensures.within)))
      | else-is_start w ↦
          subst (AreStartsBelow c.args.net.now c.args.symbols.now c.args.automaton.now c.args.span (n + 1)) (sym w.starts-is)
          (start-without c.args.net.now c.args.symbols.now c.args.automaton.now c.args.span n c.loop-number.starts c.loop-number.invariant x at_n (λ h. false-true (sym w.if-is_start.false ∙ c.is_start.ensures.1 h)))
    ]
