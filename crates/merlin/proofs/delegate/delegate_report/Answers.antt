use Rattle.delegation_verdict.specs.Lines.{delegate_status}
use Rattle.merlin.specs.Reading.{texts_read}
use Rattle.merlin.specs.Delegate.{IsDelegateReply, delegate_lines}
use Rattle.merlin.proofs.Replies.{IfOk-with}
use Rattle.merlin.proofs.Contents.{text_for_each, IsDelegateReply-told}
use Rattle.merlin.proofs.delegate.delegate_report.Goals as goal

pub delegate_reply-requires : goal.delegate_reply-requires
delegate_reply-requires c =
    text_for_each c.args.contents.now c.index-contents-0.result c.index-contents-1.result c.requires c.index-contents-0.is c.index-contents-1.is c.deref.result.now c.deref.ensures.value

pub returns-in-Ok : goal.returns-in-Ok
returns-in-Ok c =
    IfOk-with (IsDelegateReply (texts_read c.args.contents.now)) delegate_lines delegate_status c.in-Ok.reply c.report_on.result
    (IsDelegateReply-told c.args.contents.now c.index-contents-0.result c.index-contents-1.result c.requires c.index-contents-0.is c.index-contents-1.is c.deref.result.now c.deref-2.result.now
    c.in-Ok.reply c.deref.ensures.value c.deref-2.ensures.value c.in-Ok.ensures) c.report_on.ensures.lines c.report_on.ensures.status
