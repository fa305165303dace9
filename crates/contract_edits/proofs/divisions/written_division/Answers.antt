use Rattle.contract_edits.proofs.divisions.written_division.Goals as goal

pub returns-clause-ok : goal.returns-clause-ok
returns-clause-ok c = (assumption)

pub returns-clause-only : goal.returns-clause-only
returns-clause-only c = (assumption)

pub returns-clause-err : goal.returns-clause-err
returns-clause-err c = (assumption)
