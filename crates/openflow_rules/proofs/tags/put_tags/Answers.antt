use Rattle.std.proofs.Common.{◌⊎◌, ◌+◌, ℕ, List, None, map, take, drop, get_or, Contains, sym, subst, arith}
use Rattle.std.proofs.lemmas.Result.{err_from_is_err_and}
use Rattle.rules_model.specs.Products.{Vertex as ModelVertex}
use Rattle.product_graph.specs.declared.span.Vertex.{Vertex as ListedVertex}
use Rattle.product_graph.specs.Products.{vertex_of}
use Rattle.openflow_rules.specs.Gathered.{AreTagsPut, IsTagOfVertex}
use Rattle.openflow_rules.proofs.Additions.{fault-wider, tags-next, tag-wider}
use Rattle.openflow_rules.proofs.Steps.{mapped-next, mapped-split, taken-all}
use Rattle.openflow_rules.proofs.tags.put_tags.Goals as goal

abbrev none : ListedVertex
none = record { symbol = record { loc = 0; fun = None }; state = 0 }

pub returns-in_err-put_tag-clause-err : goal.returns-in_err-put_tag-clause-err
returns-in_err-put_tag-clause-err c =
    let vs : List ListedVertex = c.args.vertices.now in
    let i : ℕ = c.loop-vertex.vertex-index in
    let p = err_from_is_err_and c.from_residual.result c.from_residual.ensures.1 in
    rw (p.1, p.2)
    (fault-wider _ _
    (λ k h. subst (λ (l : List ModelVertex). Contains c.args.tags.now k ⊎ IsTagOfVertex c.args.group l k) (sym (mapped-split vertex_of vs i none c.loop-vertex-test.true))
    (tag-wider c.args.group (map vertex_of (take i vs)) (map vertex_of (drop (i + 1) vs)) (vertex_of (get_or vs i none)) c.args.tags.now c.loop-vertex.tags c.loop-vertex.invariant.0 k h))
    _ c.in_err-put_tag.ensures.err)

pub loop-vertex-preserved : goal.loop-vertex-preserved
loop-vertex-preserved c =
    let vs : List ListedVertex = c.args.vertices.now in
    let i : ℕ = c.loop-vertex.vertex-index in (
      subst (λ (l : List ModelVertex). AreTagsPut c.args.group l c.args.tags.now c.put_tag.new.tags) (sym (mapped-next vertex_of vs i none c.loop-vertex-test.true))
          (tags-next c.args.group (map vertex_of (take i vs)) (vertex_of (get_or vs i none)) c.args.tags.now c.loop-vertex.tags c.put_tag.new.tags c.loop-vertex.invariant.0 c.in_ok-put_tag.ensures.put),
      c.in_ok-put_tag.ensures.few,
    )

pub returns-clause-put : goal.returns-clause-put
returns-clause-put c =
    subst (λ (l : List ListedVertex). AreTagsPut c.args.group (map vertex_of l) c.args.tags.now c.loop-vertex.tags) (taken-all c.args.vertices.now c.loop-vertex.vertex-index (let past = c.loop-vertex-test.false in omega (arith, past))) c.loop-vertex.invariant.0
