use Rattle.std.proofs.Common.{◌+◌, List, None, get_or, sym, ◌∙◌, ap, subst, arith}
use Rattle.product_graph.specs.declared.span.Vertex.{Vertex as ListedVertex}
use Rattle.sink_tree.specs.Trees.{next_in}
use Rattle.openflow_rules.specs.SinkBranches.{before_end, AreStepsBelow}
use Rattle.openflow_rules.proofs.Sinking.{steps-none, steps-next}
use Rattle.openflow_rules.proofs.sinks.steps_of.Goals as goal

abbrev none : ListedVertex
none = record { symbol = record { loc = 0; fun = None }; state = 0 }

pub loop-place-init : goal.loop-place-init
loop-place-init c = subst (AreStepsBelow c.args.product.now (next_in c.args.tree.now) c.args.end 0) (sym c.new-steps.ensures) (steps-none c.args.product.now (next_in c.args.tree.now) c.args.end)

pub loop-place-preserved : goal.loop-place-preserved
loop-place-preserved c =
    subst (AreStepsBelow c.args.product.now (next_in c.args.tree.now) c.args.end (c.loop-place.place + 1)) (sym c.in_ok-push.ensures.ok)
    (steps-next c.args.product.now (next_in c.args.tree.now) c.args.end c.loop-place.place c.loop-place.steps none _ (let lt = c.loop-place-test.true in let few = c.requires.end in omega (arith, lt, few)) c.loop-place.invariant
    (ap (λ (vs : List ListedVertex). get_or vs c.loop-place.place none) c.vertices-vertices.ensures)
    (c.before_end.ensures ∙ ap (before_end c.args.end) c.next.ensures))
