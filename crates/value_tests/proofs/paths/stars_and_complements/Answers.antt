use Rattle.std.proofs.Common.{refl}
use Rattle.merlin_model.specs.declared.policy.Path.TheBlock.{hidden-the_row-Path-0, hidden-the_row-Path-1}
use denote.Hole.Carrier.{hidden}
use Rattle.value_tests.proofs.paths.stars_and_complements.Goals as goal

pub returns-clause-nothing : goal.returns-clause-nothing
unfolding hidden-the_row-Path-0 hidden-the_row-Path-1 hidden
returns-clause-nothing c = refl

pub returns-clause-twice : goal.returns-clause-twice
unfolding hidden-the_row-Path-0 hidden-the_row-Path-1 hidden
returns-clause-twice c = refl

pub returns-clause-back : goal.returns-clause-back
unfolding hidden-the_row-Path-0 hidden-the_row-Path-1 hidden
returns-clause-back c = refl
