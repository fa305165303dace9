use Rattle.contract_edits.proofs.automata.is_live.Goals as goal

pub returns : goal.returns
returns c = (assumption)
