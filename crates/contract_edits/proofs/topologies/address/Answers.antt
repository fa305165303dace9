use Rattle.contract_edits.proofs.topologies.address.Goals as goal

pub returns : goal.returns
returns c = c.host.ensures
