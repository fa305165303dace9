use Rattle.std.proofs.Common.{◌++◌, ◌∷◌, [], ℕ, List, take, get_or, append_assoc, sym, ◌∙◌, ap}
use Rattle.product_graph.specs.declared.vertex_set.NumberedVertex.{NumberedVertex}
use Rattle.product_graph.proofs.Lists.{take-more}
use Rattle.product_graph.proofs.Listing.{put-step}
use Rattle.product_graph.proofs.kept.put_all.Goals as goal

abbrev none : NumberedVertex
none = record { symbol = 0; state = 0 }

pub loop-vertex-preserved : goal.loop-vertex-preserved
loop-vertex-preserved c =
    let i : ℕ = c.loop-vertex.vertex-index in
    let base : List NumberedVertex = c.args.vertices.now in
    let more : List NumberedVertex = c.args.more.now in
    put-step base more i none c.loop-vertex-test.true c.requires c.loop-vertex.vertices c.put.new.self c.in_ok-put.field-0 c.loop-vertex.invariant c.in_ok-put.ensures
    ∙ append_assoc base (take i more) (get_or more i none ∷ [])
    ∙ ap (λ (l : List NumberedVertex). base ++ l) (sym (take-more more i none c.loop-vertex-test.true))
