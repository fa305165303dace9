use Rattle.std.proofs.Common.{◌+◌, ◌++◌, ◌∷◌, [], None, sym, ◌∙◌, ap, subst}
use Rattle.cutoff_program.specs.declared.flow.Flow.{Flow}
use Rattle.cutoff_program.specs.declared.flow.Variable.{Variable}
use Rattle.cutoff_program.specs.Flows.{last_of}
use Rattle.graph_search.specs.declared.graph.Edge.{Edge}
use Rattle.program_walks.specs.declared.backwards.Turned.{Turned}
use Rattle.program_walks.specs.Turned.{AreTurned}
use Rattle.program_walks.proofs.Turning.{get-some, next-taken, next-other, next-free}
use Rattle.program_walks.proofs.backwards.turned_edges.Goals.{then-variable-number+then-point-k+in_ok-push, else-variable-number, else-variable-number-via-then-variable-number+else-point-k, else-variable-number-via-else-variable-number}
use Rattle.program_walks.proofs.backwards.turned_edges.Goals as goal

abbrev no_variable : Variable
no_variable = record { flow = 0; rate = 0; edge = record { from = 0; to = 0; crosses = None } }

pub loop-k-preserved : goal.loop-k-preserved
loop-k-preserved c = λ (flow : Flow) stands.
    let here = get-some c.args.variables.now c.loop-k.k no_variable c.loop-k-test.true in
    let t = c.loop-k.invariant flow stands in
    elim c.if-variable-number.branch [
      | then-variable-number+then-point-k+in_ok-push w ↦ next-taken c.args.problem.now c.args.point.now c.args.variables.now c.args.number c.loop-k.k _ c.requires.is c.requires.are here flow stands c.loop-k.found t c.if-variable-number.found w.if-variable-number.true w.if-point-k.true
          (ap (λ (f : Turned). f.edges) w.found-is ∙ w.in_ok-push.ensures.edges ∙ ap (λ (e : Edge). c.loop-k.found.edges ++ e ∷ []) w.turn.ensures)
          (ap (λ (f : Turned). f.numbers) w.found-is ∙ w.in_ok-push.ensures.numbers)
      | else-variable-number w ↦ elim w.else-variable-number.branch [
        | else-variable-number-via-then-variable-number+else-point-k x ↦ subst (AreTurned c.args.problem.now c.args.point.now c.args.number (last_of flow) (c.loop-k.k + 1)) (sym w.found-is)
            (next-free c.args.problem.now c.args.point.now c.args.variables.now c.args.number c.loop-k.k _ c.requires.is c.requires.are here flow stands c.loop-k.found t x.if-point-k.false)
        | else-variable-number-via-else-variable-number x ↦ subst (AreTurned c.args.problem.now c.args.point.now c.args.number (last_of flow) (c.loop-k.k + 1)) (sym w.found-is)
            (next-other c.args.problem.now c.args.point.now c.args.variables.now c.args.number c.loop-k.k _ c.requires.is c.requires.are here flow stands c.loop-k.found t x.if-variable-number.false)
      ]
    ]
