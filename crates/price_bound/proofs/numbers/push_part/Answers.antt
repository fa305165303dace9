use Rattle.std.proofs.Common.{◌≡◌, ◌++◌, Some, slice_get, subst}
use Rattle.std.specs.Result.{OnOk}
use Rattle.graph_search.specs.Graphs.{known_at}
use Rattle.price_candidates.specs.Tried.{missing}
use Rattle.price_bound.proofs.Flat.{part-cut, part-left}
use Rattle.price_bound.proofs.numbers.push_part.Goals as goal

pub returns-then-flow-cut : goal.returns-then-flow-cut
returns-then-flow-cut c stated stands =
    subst (λ l. OnOk c.push_missing.result (c.push_missing.new.numbers ≡ c.args.numbers.now ++ l))
    (part-cut c.args.flow c.args.cut c.args.distances.now stated c.if-flow-cut.true (c.requires.size stated (subst (λ k. slice_get c.args.program.now.problem.flows k ≡ Some stated) c.if-flow-cut.true stands)))
    c.push_missing.ensures

pub returns-else-flow-cut : goal.returns-else-flow-cut
returns-else-flow-cut c stated stands =
    subst (λ l. OnOk c.push_zeros.result (c.push_zeros.new.numbers ≡ c.args.numbers.now ++ l))
    (part-left c.args.flow c.args.cut c.vertices_of.result (λ u. missing (known_at c.args.distances.now u)) stated c.if-flow-cut.false (c.vertices_of.ensures stated stands))
    c.push_zeros.ensures
