use Rattle.contract_edits.proofs.divisions.first_at_fault.Goals as goal

pub returns-clause-sound : goal.returns-clause-sound
returns-clause-sound c = (assumption)

pub returns-clause-best : goal.returns-clause-best
returns-clause-best c = (assumption)
