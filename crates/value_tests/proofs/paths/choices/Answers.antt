use Rattle.std.proofs.Common.{refl}
use Rattle.merlin_model.specs.declared.policy.Path.TheBlock.{hidden-the_row-Path-0, hidden-the_row-Path-1}
use denote.Hole.Carrier.{hidden}
use Rattle.value_tests.proofs.paths.choices.Goals as goal

pub returns-clause-none : goal.returns-clause-none
unfolding hidden-the_row-Path-0 hidden-the_row-Path-1 hidden
returns-clause-none c = refl

pub returns-clause-one : goal.returns-clause-one
unfolding hidden-the_row-Path-0 hidden-the_row-Path-1 hidden
returns-clause-one c = refl

pub returns-clause-same : goal.returns-clause-same
unfolding hidden-the_row-Path-0 hidden-the_row-Path-1 hidden
returns-clause-same c = refl

pub returns-clause-nested : goal.returns-clause-nested
unfolding hidden-the_row-Path-0 hidden-the_row-Path-1 hidden
returns-clause-nested c = refl
