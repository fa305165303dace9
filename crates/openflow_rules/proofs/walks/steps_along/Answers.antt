use Rattle.std.proofs.Common.{◌≡◌, ◌+◌, ◌++◌, ◌∷◌, [], None, ℕ, get_or, sym, ◌∙◌, ap, subst}
use Rattle.merlin_model.specs.declared.policy.Symbol.{Symbol}
use Rattle.rules_model.specs.Products.{SymbolAutomaton, Vertex}
use Rattle.path_automaton.specs.Automata.{step}
use Rattle.product_graph.specs.Products.{automaton_of}
use Rattle.rule_tables.specs.declared.branches.Step.{Step}
use Rattle.openflow_rules.proofs.WalkSteps.{AreStepsTo, along-next}
use Rattle.openflow_rules.proofs.walks.steps_along.Goals as goal

abbrev nowhere : Symbol
nowhere = record { loc = 0; fun = None }

abbrev at_state : Symbol → ℕ → Vertex
at_state x q = record { symbol = x; state = q }

pub loop-place-preserved : goal.loop-place-preserved
loop-place-preserved c =
    let a : SymbolAutomaton = automaton_of c.args.symbols.now c.args.automaton.now in
    let n : ℕ = c.loop-place.place in
    let x : Symbol = get_or c.args.inner.now n nowhere in
    let made : Step = record { vertex = record { symbol = x; state = c.step-state.result }; next = c.next_place-next.result } in
    let after : c.step-state.result ≡ a.step c.loop-place.state x = c.step-state.ensures.after ∙ ap (step c.args.automaton.now c.loop-place.state) c.number_of.ensures.number in
    let next = along-next a c.args.inner.now n c.loop-place.state c.loop-place.steps nowhere made c.loop-place-test.true c.loop-place.invariant.0 (ap (at_state x) after) c.next_place-next.ensures in (
      subst (AreStepsTo a c.args.inner.now (n + 1) c.step-state.result) (sym c.in_ok-push.ensures.ok)
          (subst (λ q. AreStepsTo a c.args.inner.now (n + 1) q (c.loop-place.steps ++ made ∷ [])) (sym after) next),
      c.step-state.ensures.within,
    )
