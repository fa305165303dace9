use Rattle.std.proofs.Common.{◌+◌, ◌∙◌, ap}
use Rattle.merlin.proofs.Unwiring.{none_read, one_more, fault_in, some_rest}
use Rattle.merlin.proofs.unwire.read_messages.Goals as goal

pub lines-preserved : goal.lines-preserved
lines-preserved c = one_more c.args.switch c.args.text.now c.lines.rest.now c.in-Ok.behind.now c.lines.rules c.read_message.new.rules c.lines.invariant c.in-Ok.ensures.ok

pub returns-in-Err-clause-err : goal.returns-in-Err-clause-err
returns-in-Err-clause-err c =
    fault_in c.args.switch c.args.text.now c.lines.rest.now c.lines.rules c.in-Some.line c.in-Err.fault c.lines.invariant (some_rest c.lines.rest.now c.is_empty.result c.is_empty.ensures c.lines-test.true) (c.in-Some.ensures.1 ∙ ap (λ k. k + 1) c.len.ensures) c.in-Err.ensures.err
