use Rattle.std.proofs.Common.{sym, ◌∙◌}
use Rattle.policy_names.proofs.Tabled.{added_new}
use Rattle.policy_names.proofs.names.add.Goals as goal

pub returns-in_ok-insert : goal.returns-in_ok-insert
returns-in_ok-insert c = added_new c.args.names.now c.insert.new.self c.args.name.now c.args.meaning (sym c.contains_key.ensures ∙ c.if-not-contains_key.true) c.in_ok-insert.ensures.updates
