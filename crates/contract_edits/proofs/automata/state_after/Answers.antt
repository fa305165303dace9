use Rattle.contract_edits.proofs.automata.state_after.Goals as goal

pub returns : goal.returns
returns c = c.step.ensures.after
