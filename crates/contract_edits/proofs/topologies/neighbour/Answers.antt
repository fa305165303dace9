use Rattle.contract_edits.proofs.topologies.neighbour.Goals as goal

pub returns : goal.returns
returns c = c.neighbour.ensures
