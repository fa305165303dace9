-- The parts of the statements of a policy that was checked.
use Rattle.merlin_model.specs.Networks.{Network}
use Rattle.rate_formula.specs.Usage.{ids_in}
use Rattle.localise.specs.Localised.{localised}
use Rattle.policy_check.specs.Checked.{CheckedPolicy}
use Rattle.openflow_rules.specs.Planning.{statement_automata}
use Rattle.policy_flows.specs.Layouts.{StatementParts, statement_parts}

-- their automata over the network's symbols, and their localised minima
abbrev pub checked_parts : Network → CheckedPolicy → StatementParts
checked_parts net checked = statement_parts net (statement_automata checked) (localised checked.policy.terms (ids_in checked.policy)).min
