use Rattle.contract_edits.proofs.divisions.division.Goals as goal

pub returns-clause-sound : goal.returns-clause-sound
returns-clause-sound c = (assumption)

pub returns-clause-best : goal.returns-clause-best
returns-clause-best c = (assumption)

pub returns-clause-named : goal.returns-clause-named
returns-clause-named c = (assumption)

pub returns-clause-lines : goal.returns-clause-lines
returns-clause-lines c = (assumption)
