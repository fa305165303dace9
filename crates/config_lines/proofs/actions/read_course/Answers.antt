use Rattle.std.proofs.Common.{◌∙◌, sym}
use Rattle.config_lines.proofs.Then.{unlike}
use Rattle.config_lines.proofs.ActionTexts.{no_first, only_change, no_second, sends_first, changes_second}
use Rattle.config_lines.proofs.actions.read_course.Goals as goal

pub returns-in_err-action-clause-none : goal.returns-in_err-action-clause-none
returns-in_err-action-clause-none c =
    rw c.from_residual.ensures (no_first c.args.word.now c.cut_before.result.0.now c.cut_before.result.1.now (λ e. unlike c.args.word.now c.as_slice.result.now c.eq.result c.eq.ensures c.if-eq.false (e ∙ sym c.as_slice.ensures)) c.cut_before.ensures.whole c.cut_before.ensures.lacks c.cut_before.ensures.begins c.in_err-action.ensures.none)

pub returns-else-is_sending-clause-none : goal.returns-else-is_sending-clause-none
returns-else-is_sending-clause-none c =
    only_change c.args.word.now c.cut_before.result.0.now c.cut_before.result.1.now c.in_ok-action.action (λ e. unlike c.args.word.now c.as_slice.result.now c.eq.result c.eq.ensures c.if-eq.false (e ∙ sym c.as_slice.ensures)) c.cut_before.ensures.whole c.cut_before.ensures.lacks c.cut_before.ensures.begins c.in_ok-action.ensures.some.0 (c.is_sending.ensures.no c.if-is_sending.false) c.in_default.ensures.none

pub returns-in_err-send-clause-none : goal.returns-in_err-send-clause-none
returns-in_err-send-clause-none c =
    rw c.from_residual-in_err-send.ensures (no_second c.args.word.now c.cut_before.result.0.now c.cut_before.result.1.now c.in-Some.second.now (λ e. unlike c.args.word.now c.as_slice.result.now c.eq.result c.eq.ensures c.if-eq.false (e ∙ sym c.as_slice.ensures)) c.cut_before.ensures.whole c.cut_before.ensures.lacks c.cut_before.ensures.begins c.in-Some.ensures.some c.in_err-send.ensures.none)

pub returns-then-is_sending-2-clause-none : goal.returns-then-is_sending-2-clause-none
returns-then-is_sending-2-clause-none c =
    sends_first c.args.word.now c.cut_before.result.0.now c.cut_before.result.1.now c.in-Some.second.now c.in_ok-action.action (λ e. unlike c.args.word.now c.as_slice.result.now c.eq.result c.eq.ensures c.if-eq.false (e ∙ sym c.as_slice.ensures)) c.cut_before.ensures.whole c.cut_before.ensures.lacks c.cut_before.ensures.begins c.in-Some.ensures.some c.in_ok-action.ensures.some.0 (c.is_sending-2.ensures.yes c.if-is_sending-2.true)

pub returns-else-is_sending-3-clause-none : goal.returns-else-is_sending-3-clause-none
returns-else-is_sending-3-clause-none c =
    changes_second c.args.word.now c.cut_before.result.0.now c.cut_before.result.1.now c.in-Some.second.now c.in_ok-send.send (λ e. unlike c.args.word.now c.as_slice.result.now c.eq.result c.eq.ensures c.if-eq.false (e ∙ sym c.as_slice.ensures)) c.cut_before.ensures.whole c.cut_before.ensures.lacks c.cut_before.ensures.begins c.in-Some.ensures.some c.in_ok-send.ensures.some.0 (c.is_sending-3.ensures.no c.if-is_sending-3.false)
