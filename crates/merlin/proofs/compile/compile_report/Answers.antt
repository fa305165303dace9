use Rattle.merlin.specs.Reading.{texts_read}
use Rattle.merlin.specs.Compile.{IsCompileReply, compile_form, compile_lines, compile_status}
use Rattle.merlin.proofs.Replies.{texts_of_both, IfOk-with}
use Rattle.merlin.proofs.compile.compile_report.Goals as goal

pub returns-in-Ok : goal.returns-in-Ok
returns-in-Ok c =
    let texts = texts_of_both c.args.contents.now c.index-contents-0.result c.index-contents-1.result _ _ c.requires.two c.index-contents-0.is c.index-contents-1.is c.deref.ensures.value c.deref-2.ensures.value in
    IfOk-with (IsCompileReply (compile_form c.args.command) (texts_read c.args.contents.now)) compile_lines compile_status c.in-Ok.reply c.report_on.result
    (_, _, texts, c.in-Ok.ensures.reply) c.report_on.ensures.lines c.report_on.ensures.status
