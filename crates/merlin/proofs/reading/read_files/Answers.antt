use Rattle.std.proofs.Common.{◌∙◌}
use Rattle.merlin_base.proofs.Passing.{err_to}
use Rattle.merlin.specs.Reading.{IsUnread, files_wanted}
use Rattle.merlin.proofs.Files.{AreContents-next, IsUnread-next, NoneFalls-join}
use Rattle.merlin.proofs.reading.read_files.Goals as goal

pub returns-in_err-text-clause-err : goal.returns-in_err-text-clause-err
returns-in_err-text-clause-err g c =
    let known = g.F.Files.contents c.args.files.now in
    let wanted = c.args.wanted.now in
    let so_far = c.loop-file.invariant in
    let before = g.F.Files.faults c.args.files.now in
    let between = g.F.Files.faults c.loop-file.files in
    let now = g.F.Files.faults c.read_one.new.files in
    err_to (IsUnread known (files_wanted wanted) before now) c.from_residual.result c.in_err-text.field-0.0 c.from_residual.ensures.1
    (IsUnread-next known (g.F.Files.contents c.loop-file.files) so_far.0 wanted c.loop-file.file-index _ c.loop-file-test.true c.loop-file.contents.items so_far.2
    before between now c.in_err-text.field-0.0 so_far.1 c.in_err-text.ensures.err)

pub loop-file-preserved : goal.loop-file-preserved
loop-file-preserved g c =
    let known = g.F.Files.contents c.args.files.now in
    let so_far = c.loop-file.invariant in (
      c.read_one.ensures.contents ∙ so_far.0,
      NoneFalls-join _ _ _ so_far.1 c.read_one.ensures.later,
      rw c.in_ok-push.ensures.items
          (AreContents-next known (g.F.Files.contents c.loop-file.files) so_far.0 c.args.wanted.now c.loop-file.file-index _ c.loop-file-test.true c.loop-file.contents.items so_far.2
          c.in_ok-text.text c.in_ok-text.ensures.ok),
    )
