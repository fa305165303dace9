use Rattle.std.proofs.Common.{◌≡◌, subst}
use Rattle.std.specs.Prelude.{Some}
use Rattle.openflow_wire.specs.Messages.{message_fault, IsMessage}
use Rattle.merlin.proofs.Unwiring.{told_fault}
use Rattle.merlin.proofs.unwire.rule_of_digits.Goals as goal

pub returns-in-Ok-decode-clause-ok : goal.returns-in-Ok-decode-clause-ok
returns-in-Ok-decode-clause-ok c = record {
  message = c.in-Ok.message.items;
  stand_for = c.in-Ok.ensures.ok;
  xid = c.in-Ok-decode.field-0-1;
  is_message = subst (λ m. IsMessage m c.args.switch c.in-Ok-decode.rule c.in-Ok-decode.field-0-1) c.deref.ensures.value c.in-Ok-decode.ensures.ok;
}

pub returns-in-Err-BadMessage-clause-err : goal.returns-in-Err-BadMessage-clause-err
returns-in-Err-BadMessage-clause-err c =
    (c.in-Ok.message.items, c.in-Ok.ensures.ok, subst (λ m. message_fault m ≡ Some c.in-Err-BadMessage.at) c.deref.ensures.value (told_fault c.deref.result.now c.in-Err-BadMessage.field-0 c.in-Err-BadMessage.at c.in-Err-BadMessage.field-0-is c.in-Err-BadMessage.ensures.err))
