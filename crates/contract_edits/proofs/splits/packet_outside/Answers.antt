use Rattle.contract_edits.proofs.splits.packet_outside.Goals as goal

pub returns-clause-some : goal.returns-clause-some
returns-clause-some c = (assumption)

pub returns-clause-none : goal.returns-clause-none
returns-clause-none c = (assumption)
