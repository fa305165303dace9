use Rattle.std.proofs.Common.{le_trans}
use Rattle.std.proofs.lemmas.Result.{err_from_is_err_and}
use Rattle.merlin_base.proofs.Taking.{Grows-join, GrowsByPrefix-join}
use Rattle.config_text.proofs.Handing.{lines_split, lines_more}
use Rattle.config_text.proofs.writing.write_each.Goals as goal

pub returns-in_err-hand_over-clause-err : goal.returns-in_err-hand_over-clause-err
returns-in_err-hand_over-clause-err g c =
    let p = err_from_is_err_and c.from_residual.result c.from_residual.ensures.1 in
    rw (p.1, lines_split (g.E.Entry.line_of c.args.net.now) c.args.entries.now c.loop-entry.entry-index c.entry-item.result c.loop-entry-test.true)
    (GrowsByPrefix-join _ _ _ _ _ _ c.loop-entry.invariant.0 (c.in_err-hand_over.ensures.err _ (rw c.entry-item.is at c.write-written.ensures)))

pub loop-entry-preserved : goal.loop-entry-preserved
loop-entry-preserved g c = (
  rw (lines_more (g.E.Entry.line_of c.args.net.now) c.args.entries.now c.loop-entry.entry-index c.entry-item.result c.loop-entry-test.true)
      (Grows-join _ _ _ _ _ c.loop-entry.invariant.0 (c.in_ok-hand_over.ensures.ok _ (rw c.entry-item.is at c.write-written.ensures))),
  le_trans c.loop-entry.invariant.1 c.in_ok-hand_over.ensures.later,
)
