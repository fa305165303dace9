use Rattle.contract_edits.proofs.topologies.port.Goals as goal

pub returns-clause-some : goal.returns-clause-some
returns-clause-some c = c.port_to.ensures.some

pub returns-clause-none : goal.returns-clause-none
returns-clause-none c = c.port_to.ensures.none
