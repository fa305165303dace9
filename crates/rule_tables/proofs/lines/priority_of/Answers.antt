use Rattle.std.proofs.Common.{sym, ◌∙◌, ap}
use Rattle.configuration_model.specs.Cells.{priority_by}
use Rattle.rule_tables.proofs.lines.priority_of.Goals as goal

pub returns-in-Some : goal.returns-in-Some
returns-in-Some c = c.priority_under.ensures c.in-Some.field-0 ∙ ap (λ o. priority_by o c.args.sport c.args.dport) (sym c.in-Some.is)
