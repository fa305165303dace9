use Rattle.std.proofs.Common.{map, Vec, Global, subst}
use Rattle.merlin_model.specs.declared.policy.Symbol.{Symbol}
use Rattle.topology.specs.Symbols.{network_symbols}
use Rattle.configuration_model.specs.Pairs.{pair_cells}
use Rattle.configuration_model.specs.Tables.{AreTables}
use Rattle.openflow_rules.specs.Planning.{Planned, statement_automata}
use Rattle.policy_configuration.proofs.Made.{made}
use Rattle.policy_configuration.proofs.Walks.{all-short}
use Rattle.policy_configuration.proofs.configuration.configuration_of.Goals as goal

pub queues_of-requires-clause-short : goal.queues_of-requires-clause-short
queues_of-requires-clause-short c =
    all-short c.args.net.now c.args.checked.now c.args.ends.now c.args.walks.now c.locations-lawful.ensures.lawful c.requires.automata c.automata-numbers.ensures.numbers c.requires.checked.symbols_are c.requires.assigned c.requires.simple

-- the plan is that of the arguments
pub returns-clause-exactly : goal.returns-clause-exactly
returns-clause-exactly c =
    let walks = map (λ (w : Vec Symbol Global). w.items) c.args.walks.now in
    record {
      tables = subst (λ (p : Planned). AreTables p.net p.checked.policy (network_symbols p.net) (statement_automata p.checked) p.ends walks (pair_cells p.net p.checked.policy) c.in_ok-rules.field-0.rules c.in_ok-rules.field-0.processes) c.requires.plan c.in_ok-rules.ensures;
      queues = c.in_ok-queues.ensures;
      hosts = c.in_ok-hosts.ensures;
    }

pub returns-clause-made : goal.returns-clause-made
returns-clause-made c =
    let net = c.args.net.now in
    let network = c.locations-lawful.ensures.lawful.lawful in
    let cells = c.pair_cells_name_owners.ensures net c.args.checked.now.policy network c.requires.checked.preds in
    made net c.args.checked.now.policy (statement_automata c.args.checked.now) c.args.ends.now (map (λ (w : Vec Symbol Global). w.items) c.args.walks.now) _ network c.requires.checked c.requires.ends cells c.requires.assigned c.requires.simple (returns-clause-exactly c)

pub returns-clause-lines : goal.returns-clause-lines
returns-clause-lines c =
    c.made_lines_are_over_the_network.ensures c.args.net.now c.args.checked.now.policy c.args.ends.now (map (λ (w : Vec Symbol Global). w.items) c.args.walks.now) _ (returns-clause-made c)
