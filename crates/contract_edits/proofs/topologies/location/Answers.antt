use Rattle.contract_edits.proofs.topologies.location.Goals as goal

pub returns-clause-some : goal.returns-clause-some
returns-clause-some c = c.find.ensures.some

pub returns-clause-none : goal.returns-clause-none
returns-clause-none c = c.find.ensures.none
