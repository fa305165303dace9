use Rattle.std.proofs.Common.{◌↔◌, ◌≤◌, ◌+◌, ℕ, List, length, take, get_or, Contains, subst}
use Rattle.std.proofs.lemmas.List.{take_all}
use Rattle.product_graph.specs.declared.vertex_set.NumberedVertex.{NumberedVertex}
use Rattle.product_graph.proofs.Lists.{take-more}
use Rattle.product_graph.proofs.Noting.{put-next}
use Rattle.product_graph.proofs.search.vertices_among.Goals as goal

abbrev none : NumberedVertex
none = record { symbol = 0; state = 0 }

pub loop-start-preserved : goal.loop-start-preserved
loop-start-preserved c =
    let i : ℕ = c.loop-start.start-index in
    let starts : List NumberedVertex = c.args.starts.now in
    put-next (get_or starts i none) c.in_ok-put.field-0 c.loop-start.vertices c.put.new.self (take i starts) (take (i + 1) starts) c.loop-start.invariant c.in_ok-put.ensures (take-more starts i none c.loop-start-test.true)

pub returns : goal.returns
returns c =
    let le : length c.args.starts.now ≤ c.loop-start.start-index = c.loop-start-test.false in
    subst (λ (l : List NumberedVertex). (p : NumberedVertex) → Contains c.loop-start.vertices p ↔ Contains l p) (take_all c.loop-start.start-index c.args.starts.now le) c.loop-start.invariant
