use Rattle.merlin.specs.Reading.{texts_read}
use Rattle.merlin.specs.Refine.{IsRefineReply, refine_lines, refine_status}
use Rattle.merlin.proofs.Replies.{texts_of_all_three, IfOk-with}
use Rattle.merlin.proofs.refine.refine_report.Goals as goal

pub returns-in-Ok : goal.returns-in-Ok
returns-in-Ok c =
    let texts = texts_of_all_three c.args.contents.now c.index-contents-0.result c.index-contents-1.result c.index-contents-2.result _ _ _ c.requires c.index-contents-0.is c.index-contents-1.is c.index-contents-2.is c.deref.ensures.value c.deref-2.ensures.value c.deref-3.ensures.value in
    IfOk-with (IsRefineReply (texts_read c.args.contents.now)) refine_lines refine_status c.in-Ok.reply c.report_on.result
    (_, _, _, texts, c.in-Ok.ensures) c.report_on.ensures.lines c.report_on.ensures.status
