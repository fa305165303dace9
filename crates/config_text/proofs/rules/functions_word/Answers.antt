use Rattle.config_text.specs.Lines.{function_name}
use Rattle.config_text.proofs.Separators.{written_next}
use Rattle.config_text.proofs.rules.functions_word.Goals as goal

pub loop-function-preserved : goal.loop-function-preserved
loop-function-preserved c = written_next (function_name c.args.declared.now) c.args.functions.now c.loop-function.function-index 0 c.loop-function-test.true c.loop-function.invariant c.in_ok-listed_function.ensures
