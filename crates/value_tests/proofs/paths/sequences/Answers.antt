use Rattle.std.proofs.Common.{refl}
use Rattle.merlin_model.specs.declared.policy.Path.TheBlock.{hidden-the_row-Path-0, hidden-the_row-Path-1}
use denote.Hole.Carrier.{hidden}
use Rattle.value_tests.proofs.paths.sequences.Goals as goal

pub returns-clause-grouped : goal.returns-clause-grouped
unfolding hidden-the_row-Path-0 hidden-the_row-Path-1 hidden
returns-clause-grouped c = refl

pub returns-clause-nothing : goal.returns-clause-nothing
unfolding hidden-the_row-Path-0 hidden-the_row-Path-1 hidden
returns-clause-nothing c = refl

pub returns-clause-empty : goal.returns-clause-empty
unfolding hidden-the_row-Path-0 hidden-the_row-Path-1 hidden
returns-clause-empty c = refl

pub returns-clause-rest : goal.returns-clause-rest
unfolding hidden-the_row-Path-0 hidden-the_row-Path-1 hidden
returns-clause-rest c = refl

pub returns-clause-whole : goal.returns-clause-whole
unfolding hidden-the_row-Path-0 hidden-the_row-Path-1 hidden
returns-clause-whole c = refl
