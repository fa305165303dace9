use Rattle.merlin.specs.Reading.{texts_read}
use Rattle.merlin.specs.Fair.{IsFairReply, fair_lines, fair_status}
use Rattle.merlin.proofs.Replies.{texts_of_one, IfOk-with}
use Rattle.merlin.proofs.fair.fair_report.Goals as goal

pub returns-in-Ok : goal.returns-in-Ok
returns-in-Ok c =
    let texts = texts_of_one c.args.contents.now c.index-contents-0.result _ c.requires c.index-contents-0.is c.deref.ensures.value in
    IfOk-with (IsFairReply (texts_read c.args.contents.now)) fair_lines fair_status c.in-Ok.reply c.report_on.result
    (_, texts, c.in-Ok.ensures) c.report_on.ensures.lines c.report_on.ensures.status
