use Rattle.std.proofs.Common.{◌⊎◌, List, map, Contains, sym, subst}
use Rattle.std.proofs.lemmas.Result.{err_from_is_err_and}
use Rattle.rules_model.specs.Tables.{TagKey as ModelKey}
use Rattle.product_graph.specs.declared.span.Vertex.{Vertex as ListedVertex}
use Rattle.product_graph.specs.Products.{vertex_of}
use Rattle.openflow_rules.specs.Gathered.{IsTagFault, IsTagOfVertex, AreTagsPut}
use Rattle.openflow_rules.proofs.gathering.add_taken.Goals as goal

pub returns-in_err-put_tags-clause-err : goal.returns-in_err-put_tags-clause-err
returns-in_err-put_tags-clause-err c =
    let p = err_from_is_err_and c.from_residual.result c.from_residual.ensures.1 in
    rw (p.1, p.2)
    (subst (λ (l : List ListedVertex). IsTagFault (λ k. Contains c.args.gathered.now.tags k ⊎ IsTagOfVertex c.args.group (map vertex_of l) k) c.in_err-put_tags.field-0.0) c.as_slice.ensures c.in_err-put_tags.ensures.err)

pub returns-clause-tags : goal.returns-clause-tags
returns-clause-tags c =
    subst (λ (l : List ModelKey). AreTagsPut c.args.group (map vertex_of c.args.taken.inner) c.args.gathered.now.tags l) (sym c.in_ok-keep_branch.ensures.tags)
    (subst (λ (l : List ListedVertex). AreTagsPut c.args.group (map vertex_of l) c.args.gathered.now.tags c.put_tags.new.tags) c.as_slice.ensures c.in_ok-put_tags.ensures.put)
