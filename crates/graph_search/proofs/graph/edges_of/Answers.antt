use Rattle.std.proofs.Common.{◌<◌, List, [], ◌∷◌, ◌++◌, sym, ◌∙◌, ap, subst}
use Rattle.std.specs.List.{AllByRecursion}
use Rattle.graph_search.specs.declared.graph.Edge.{Edge}
use Rattle.graph_search.proofs.Places.{take-next, all-snoc}
use Rattle.graph_search.proofs.graph.edges_of.Goals as goal

pub loop-number-preserved : goal.loop-number-preserved
loop-number-preserved g c = (
  c.in_ok-push.ensures.ok ∙ ap (λ (l : List Edge). l ++ c.edge.result ∷ []) c.loop-number.invariant.0 ∙ sym (take-next (g.G.Graph.edges_of c.args.graph.now) c.loop-number.number c.edge.result c.edge.ensures.is),
  subst (AllByRecursion (λ (e : Edge). (e.from < g.G.Graph.size c.args.graph.now) × (e.to < g.G.Graph.size c.args.graph.now))) (sym c.in_ok-push.ensures.ok) (all-snoc (λ (e : Edge). (e.from < g.G.Graph.size c.args.graph.now) × (e.to < g.G.Graph.size c.args.graph.now)) c.loop-number.edges c.edge.result c.loop-number.invariant.1 (c.edge.ensures.from, c.edge.ensures.to)),
)
