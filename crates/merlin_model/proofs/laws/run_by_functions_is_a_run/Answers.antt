use Rattle.merlin_model.specs.Functions.{answers_of}
use Rattle.merlin_model.proofs.FunctionRuns.{runs-by}
use Rattle.merlin_model.proofs.laws.run_by_functions_is_a_run.Goals as goal

pub returns : goal.returns
returns c = λ net config answer f visits end keeps. runs-by net config (answers_of answer) keeps f visits end
