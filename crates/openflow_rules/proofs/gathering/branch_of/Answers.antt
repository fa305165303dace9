use Rattle.std.proofs.Common.{sym, subst}
use Rattle.std.specs.Prelude.{IfOk}
use Rattle.merlin_model.specs.Networks.{IsHost}
use Rattle.product_graph.specs.declared.span.Span2.{Span2}
use Rattle.product_graph.specs.Products.{dest_of, IsProduct}
use Rattle.openflow_rules.specs.Gathered.{IsBranchOfSpan}
use Rattle.openflow_rules.proofs.gathering.branch_of.Goals as goal

pub returns-in-All : goal.returns-in-All
returns-in-All c = λ net a host is.
    subst (λ (s : Span2). IfOk c.sink_branch.result (IsBranchOfSpan net a s)) (sym c.in-All.is)
    (c.sink_branch.ensures net a (subst (λ (s : Span2). IsHost net (dest_of s)) c.in-All.is host) (subst (λ (s : Span2). IsProduct net a s c.args.product.now) c.in-All.is is))
