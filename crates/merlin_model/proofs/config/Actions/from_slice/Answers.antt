use Rattle.merlin_model.proofs.config.Actions.from_slice.Goals as goal

pub returns : goal.returns
returns c = c.in_ok-kept.ensures.ok
