use Rattle.std.proofs.Common.{map, take}
use Rattle.config_text.specs.Lines.{function_name}
use Rattle.config_text.specs.Separated.{AreTextsAdded}
use Rattle.config_text.proofs.rules.functions_word.Given as goal

abbrev pub invariant-loop-function : goal.invariant-loop-function
invariant-loop-function l = AreTextsAdded 32 l.fn.line (map (function_name l.declared) (take l.function-index l.functions)) l.separator l.line
