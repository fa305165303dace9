use Rattle.std.proofs.Common.{ap, sym, subst}
use Rattle.std.proofs.lemmas.Result.{IfOk-weaker}
use Rattle.merlin.specs.Words.{word_texts}
use Rattle.merlin.specs.Reading.{texts_read}
use Rattle.merlin.specs.Commands.{form_of}
use Rattle.merlin.specs.Contents.{AreContentsOf}
use Rattle.merlin.proofs.Replies.{IsReportTo-unread, IfOk-reported}
use Rattle.merlin.proofs.Compiling.{lawful_form}
use Rattle.merlin.proofs.program.report_to.Goals as goal

pub report_over-requires-clause-read : goal.report_over-requires-clause-read
report_over-requires-clause-read g c =
    (_, subst (AreContentsOf (g.F.Files.contents c.args.files.now) (form_of c.in-Some.command)) (sym (ap texts_read c.deref.ensures.value)) c.in-Ok.ensures.ok)

pub report_over-requires-clause-lawful : goal.report_over-requires-clause-lawful
report_over-requires-clause-lawful g c = lawful_form (word_texts c.args.words.now) (form_of c.in-Some.command) c.in-Some.ensures.some

pub returns-in-Ok : goal.returns-in-Ok
returns-in-Ok g c =
    IfOk-reported _ _ c.report_over.result (form_of c.in-Some.command) (texts_read c.in-Ok.contents.items) (texts_read c.deref.result.now) (ap texts_read c.deref.ensures.value)
    c.in-Some.ensures.some c.in-Ok.ensures.ok c.report_over.ensures

pub returns-in-Err : goal.returns-in-Err
returns-in-Err g c =
    IfOk-weaker c.unread_report.result _ _
    (λ report tells. IsReportTo-unread _ (word_texts c.args.words.now) report (form_of c.in-Some.command) c.in-Err.unread c.in-Some.ensures.some c.in-Err.ensures.err tells)
    c.unread_report.ensures
