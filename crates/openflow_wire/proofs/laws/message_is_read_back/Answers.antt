use Rattle.std.proofs.Common.{Some, None, is_some, cond, refl, sym, ap, ◌∙◌}
use Rattle.openflow_wire.specs.Messages.{message_of, fault_behind}
use Rattle.openflow_wire.proofs.FieldsTaken.{all_taken}
use Rattle.openflow_wire.proofs.ReadBack.{match_back}
use Rattle.openflow_wire.proofs.FieldsBack.{priority_back, xid_back}
use Rattle.openflow_wire.proofs.ActionsBack.{actions_back}
use Rattle.openflow_wire.proofs.laws.message_is_read_back.Goals as goal

pub returns : goal.returns
returns c = λ rule xid is small. record {
  taken = ap (fault_behind (message_of rule xid)) (all_taken rule xid is)
      ∙ ap (λ o. cond (is_some o) None (Some 72)) (actions_back rule.actions is.actions);
  place = refl;
  priority = sym (priority_back rule xid is);
  fits = sym (match_back rule xid is);
  actions = actions_back rule.actions is.actions;
  number = sym (xid_back rule xid small);
}
