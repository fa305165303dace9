use Rattle.std.proofs.Common.{◌+◌, sym, subst}
use Rattle.product_graph.specs.Numbered.{Ground, ground_of}
use Rattle.product_graph.specs.Joining.{AreEdgesBelow}
use Rattle.product_graph.proofs.Joins.{below-next}
use Rattle.product_graph.proofs.joining.edges_among.Goals as goal

pub loop-place-preserved : goal.loop-place-preserved
loop-place-preserved c =
    let g : Ground = ground_of c.args.followers.now c.args.automaton.now in
    let added = c.in_ok-join_vertex.ensures in
    subst (AreEdgesBelow g c.args.kept.now c.args.lasts.now (c.loop-place.place + 1)) (sym added.1) (below-next g c.args.kept.now c.args.lasts.now c.loop-place.place c.loop-place.edges added.0 c.loop-place.invariant added.2)
