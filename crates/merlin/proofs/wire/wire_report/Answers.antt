use Rattle.merlin.specs.Wire.{wire_form, wire_lines, wire_status}
use Rattle.merlin.proofs.Replies.{texts_of_both, IfOk-with}
use Rattle.merlin.proofs.Wiring.{have_alone}
use Rattle.merlin.proofs.wire.wire_report.Goals as goal

pub report_on-requires : goal.report_on-requires
report_on-requires c = have_alone (wire_form c.args.command) _ _ c.in-Ok.reply c.in-Ok.ensures

pub returns-in-Ok : goal.returns-in-Ok
returns-in-Ok c =
    let texts = texts_of_both c.args.contents.now c.index-contents-0.result c.index-contents-1.result _ _ c.requires c.index-contents-0.is c.index-contents-1.is c.deref.ensures.value c.deref-2.ensures.value in
    IfOk-with _ wire_lines wire_status c.in-Ok.reply c.report_on.result
    (_, _, texts, c.in-Ok.ensures) c.report_on.ensures.lines c.report_on.ensures.status
