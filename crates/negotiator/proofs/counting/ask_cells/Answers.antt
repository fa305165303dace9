use Rattle.std.proofs.Common.{◌<◌, length, arith}
use Rattle.std.proofs.lemmas.Result.{err_from_is_err_and}
use Rattle.predicate_split.specs.declared.fault.TheConstants.{MAX_CELLS}
use Rattle.negotiator.specs.CellCounts.{cells_from, cell_count}
use Rattle.negotiator.proofs.Counted.{passes-sum, passes-more}
use Rattle.negotiator.proofs.counting.ask_cells.Goals as goal

pub returns-in_err-left-clause-err : goal.returns-in_err-left-clause-err
returns-in_err-left-clause-err c =
    let p = err_from_is_err_and c.from_residual.result c.from_residual.ensures.1 in
    let test = c.loop-src-test.true in
    let count = c.locations-src-end.ensures.count in
    let within : c.loop-src.src < length c.args.net.now.locations = omega (arith, test, count) in
    rw (p.1, p.2)
    (passes-more _ (cell_count c.args.net.now c.args.preds.now) c.loop-src.left MAX_CELLS (passes-sum (cells_from c.args.net.now c.args.preds.now) c.loop-src.src (length c.args.net.now.locations) c.loop-src.left MAX_CELLS within c.loop-src.invariant) _ c.in_err-left.ensures.err)
