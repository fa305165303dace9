use Rattle.std.proofs.Common.{map}
use Rattle.std.proofs.lemmas.Result.{err_from_is_err_and}
use Rattle.product_graph.specs.Products.{vertex_of}
use Rattle.openflow_rules.proofs.Additions.{fault-wider, of-inner-or}
use Rattle.openflow_rules.proofs.gathering.add_product.Goals as goal

pub returns-clause-ok : goal.returns-clause-ok
returns-clause-ok c = λ groups is. record {
  vertices = map vertex_of c.in_ok-taken.taken.inner;
  are = c.in_ok-taken.ensures.inner groups is;
  tags = c.in_ok-add_taken.ensures.tags;
  few = c.in_ok-add_taken.ensures.few;
  room = c.in_ok-add_taken.ensures.room;
  branch = c.in_ok-taken.taken.branch;
  branch_is = c.in_ok-taken.ensures.branch groups is;
  kept = c.in_ok-add_taken.ensures.kept;
}

pub returns-in_err-add_taken-clause-err : goal.returns-in_err-add_taken-clause-err
returns-in_err-add_taken-clause-err c = λ groups is.
    let p = err_from_is_err_and c.from_residual-in_err-add_taken.result c.from_residual-in_err-add_taken.ensures.1 in
    rw (p.1, p.2)
    (fault-wider _ _ (of-inner-or c.args.site.now.net.now groups c.args.span (map vertex_of c.in_ok-taken.taken.inner) (c.in_ok-taken.ensures.inner groups is) c.args.gathered.now.tags) _ c.in_err-add_taken.ensures.err)
