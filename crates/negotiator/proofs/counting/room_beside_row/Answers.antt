use Rattle.std.proofs.Common.{◌<◌, length, arith}
use Rattle.std.proofs.lemmas.Result.{err_from_is_err_and}
use Rattle.negotiator.specs.CellCounts.{cells_of_pair, cells_from}
use Rattle.negotiator.proofs.Counted.{passes-sum, passes-more}
use Rattle.negotiator.proofs.counting.room_beside_row.Goals as goal

pub returns-in_err-left-clause-err : goal.returns-in_err-left-clause-err
returns-in_err-left-clause-err c =
    let p = err_from_is_err_and c.from_residual.result c.from_residual.ensures.1 in
    let test = c.loop-dst-test.true in
    let count = c.locations-dst-end.ensures.count in
    let within : c.loop-dst.dst < length c.args.net.now.locations = omega (arith, test, count) in
    rw (p.1, p.2)
    (passes-more _ (cells_from c.args.net.now c.args.preds.now c.args.src) c.loop-dst.left c.args.room (passes-sum (cells_of_pair c.args.net.now c.args.preds.now c.args.src) c.loop-dst.dst (length c.args.net.now.locations) c.loop-dst.left c.args.room within c.loop-dst.invariant) _ c.in_err-left.ensures.err)
