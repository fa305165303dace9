use Rattle.merlin.specs.Reading.{texts_read}
use Rattle.merlin.specs.Refute.{IsRefuteReply, refute_lines, refute_status}
use Rattle.merlin.proofs.Replies.{texts_of_both, IfOk-with}
use Rattle.merlin.proofs.refute.refute_report.Goals as goal

pub returns : goal.returns
returns c =
    let texts = texts_of_both c.args.contents.now c.index-contents-0.result c.index-contents-1.result _ _ c.requires c.index-contents-0.is c.index-contents-1.is c.deref.ensures.value c.deref-2.ensures.value in
    IfOk-with (IsRefuteReply (texts_read c.args.contents.now)) refute_lines refute_status c.in_ok-reply.reply c.report_on.result
    (_, _, texts, c.in_ok-reply.ensures) c.report_on.ensures.lines c.report_on.ensures.status
