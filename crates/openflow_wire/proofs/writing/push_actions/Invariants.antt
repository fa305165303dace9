use Rattle.std.proofs.Common.{◌≡◌, ◌++◌, take}
use Rattle.openflow_wire.specs.Messages.{actions_bytes}
use Rattle.openflow_wire.proofs.writing.push_actions.Given as goal

abbrev pub invariant-loop-action : goal.invariant-loop-action
invariant-loop-action l = l.bytes.items ≡ l.initial.bytes.items ++ actions_bytes (take l.action-index l.actions)
