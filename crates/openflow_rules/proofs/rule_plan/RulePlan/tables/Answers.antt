use Rattle.std.proofs.Common.{IfOk, subst}
use Rattle.topology.specs.Symbols.{network_symbols}
use Rattle.configuration_model.specs.Pairs.{pair_cells}
use Rattle.configuration_model.specs.Tables.{AreTables}
use Rattle.openflow_rules.specs.Planning.{Planned, statement_automata}
use Rattle.openflow_rules.proofs.ChosenWalks.{words}
use Rattle.openflow_rules.proofs.rule_plan.RulePlan.tables.Goals as goal

pub returns : goal.returns
returns c =
    subst (λ (p : Planned). IfOk c.tables_with.result (λ t. AreTables p.net p.checked.policy (network_symbols p.net) (statement_automata p.checked) p.ends (words c.args.walks.now) (pair_cells p.net p.checked.policy) t.rules t.processes))
    c.self.view_is c.tables_with.ensures
