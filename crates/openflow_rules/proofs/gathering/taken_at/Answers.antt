use Rattle.std.proofs.Common.{List, length, map, filter, sym, ◌∙◌, ap, subst}
use Rattle.product_graph.specs.declared.span.Vertex.{Vertex as ListedVertex}
use Rattle.product_graph.specs.Products.{vertex_of}
use Rattle.openflow_rules.specs.Gathered.{is_inner, AreVerticesWithin, AreInnerOf}
use Rattle.openflow_rules.proofs.Inner.{dest-host, inner-of, within-product, within-inner}
use Rattle.openflow_rules.proofs.Branching.{branch-for}
use Rattle.openflow_rules.proofs.gathering.taken_at.Goals as goal

pub inner_vertices-requires : goal.inner_vertices-requires
inner_vertices-requires c =
    let is = c.requires.span.1 in
    subst (AreVerticesWithin (length c.args.site.now.net.now.locations)) (sym c.vertices.ensures)
    (within-product c.args.site.now.net.now is.group.automaton c.args.span.span (dest-host c.args.site.now.net.now c.args.site.now.checked.now c.requires.span.0 c.args.span is) c.in_ok-product.product (c.in_ok-product.ensures c.requires.span.0 is))

pub branch_of-requires : goal.branch_of-requires
branch_of-requires c = let is = c.requires.span.1 in (c.args.site.now.net.now, is.group.automaton, c.in_ok-product.ensures c.requires.span.0 is)

pub returns-clause-at : goal.returns-clause-at
returns-clause-at c =
    let is = c.requires.span.1 in
    subst (AreVerticesWithin (length c.args.site.now.net.now.locations)) (sym c.in_ok-inner.ensures)
    (within-inner c.args.site.now.net.now c.vertices.result.now (subst (AreVerticesWithin (length c.args.site.now.net.now.locations)) (sym c.vertices.ensures)
    (within-product c.args.site.now.net.now is.group.automaton c.args.span.span (dest-host c.args.site.now.net.now c.args.site.now.checked.now c.requires.span.0 c.args.span is) c.in_ok-product.product (c.in_ok-product.ensures c.requires.span.0 is))))

pub returns-clause-inner : goal.returns-clause-inner
returns-clause-inner c = λ groups is.
    subst (λ (l : List ListedVertex). AreInnerOf c.args.site.now.net.now groups c.args.span (map vertex_of l))
    (sym (c.in_ok-inner.ensures ∙ ap (filter (is_inner c.args.site.now.net.now)) c.vertices.ensures))
    (inner-of c.args.site.now.net.now c.args.site.now.checked.now groups c.args.span is c.in_ok-product.product (c.in_ok-product.ensures groups is))

pub returns-clause-branch : goal.returns-clause-branch
returns-clause-branch c = λ groups is.
    branch-for c.args.site.now.net.now c.args.site.now.checked.now groups c.args.span is c.in_ok-branch.branch
    (c.in_ok-branch.ensures c.args.site.now.net.now is.group.automaton (dest-host c.args.site.now.net.now c.args.site.now.checked.now groups c.args.span is) (c.in_ok-product.ensures groups is))
