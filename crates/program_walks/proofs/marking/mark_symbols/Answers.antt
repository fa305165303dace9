use Rattle.std.proofs.Common.{◌+◌, true, take, length, length-set, None, sym, ◌∙◌, ap, subst}
use Rattle.merlin_model.specs.declared.policy.Symbol.{Symbol}
use Rattle.program_walks.proofs.Turning.{get-some}
use Rattle.graph_search.proofs.Places.{take-next}
use Rattle.program_walks.proofs.Marked.{TakesTo, takes-stay, takes-go}
use Rattle.cutoff_program.proofs.Lists.{some_some}
use Rattle.cutoff_program.specs.declared.flow.Variable.{Variable}
use Rattle.program_walks.proofs.marking.mark_symbols.Goals.{in-Some, in_default}
use Rattle.program_walks.proofs.marking.mark_symbols.Goals as goal

abbrev no_variable : Variable
no_variable = record { flow = 0; rate = 0; edge = record { from = 0; to = 0; crosses = None } }

abbrev no_symbol : Symbol
no_symbol = record { loc = 0; fun = None }

pub loop-symbol-preserved : goal.loop-symbol-preserved
loop-symbol-preserved c =
    let here = take-next c.args.walk.now c.loop-symbol.symbol-index _ (get-some c.args.walk.now c.loop-symbol.symbol-index no_symbol c.loop-symbol-test.true) in
    elim c.match-next_by.branch [
      | in-Some w ↦
          let leads = w.in-Some.ensures.next in
          let at = get-some c.args.variables.now w.in-Some.number no_variable w.in-Some.ensures.within in
          let same = some_some (sym leads.1 ∙ at) in (
            takes-go c.args.variables.now c.args.symbols.now c.args.flow (take c.loop-symbol.symbol-index c.args.walk.now) _ c.args.point.now c.loop-symbol.point c.match-next_by.point c.loop-symbol.vertex c.match-next_by.vertex _ w.in-Some.number leads.0 c.loop-symbol.invariant.0 here leads.1 leads.2
                (w.vertex-is ∙ ap (λ (v : Variable). v.edge.to) (sym same)) (w.point-is ∙ w.set.ensures),
            ap length (w.point-is ∙ w.set.ensures) ∙ length-set c.loop-symbol.point w.in-Some.number true ∙ c.loop-symbol.invariant.1,
          )
      | in_default w ↦ (
        subst (λ u. TakesTo c.args.variables.now c.args.symbols.now c.args.flow (take (c.loop-symbol.symbol-index + 1) c.args.walk.now) c.args.point.now c.match-next_by.point u) (sym w.vertex-is)
            (subst (λ p. TakesTo c.args.variables.now c.args.symbols.now c.args.flow (take (c.loop-symbol.symbol-index + 1) c.args.walk.now) c.args.point.now p c.loop-symbol.vertex) (sym w.point-is)
            (takes-stay c.args.variables.now c.args.symbols.now c.args.flow (take c.loop-symbol.symbol-index c.args.walk.now) _ c.args.point.now c.loop-symbol.point c.loop-symbol.vertex _ c.loop-symbol.invariant.0 here w.in_default.ensures.next)),
        ap length w.point-is ∙ c.loop-symbol.invariant.1,
      )
    ]
