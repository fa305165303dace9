use Rattle.std.proofs.Common.{refl}
use Rattle.merlin_model.specs.declared.policy.Pred.TheBlock.{hidden-the_row-Pred-0}
use denote.Hole.Carrier.{hidden}
use Rattle.value_tests.proofs.values.all_and_any_of_no_predicate.Goals as goal

pub returns-clause-all : goal.returns-clause-all
unfolding hidden-the_row-Pred-0 hidden
returns-clause-all c packet = refl

pub returns-clause-any : goal.returns-clause-any
unfolding hidden-the_row-Pred-0 hidden
returns-clause-any c packet = refl
