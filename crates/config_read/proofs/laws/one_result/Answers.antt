use Rattle.config_read.proofs.OneResult.{result_once}
use Rattle.config_read.proofs.laws.one_result.Goals as goal

pub returns-clause-one : goal.returns-clause-one
returns-clause-one c = λ net bytes r other is f g. result_once net is bytes other r g f

pub returns-clause-whole : goal.returns-clause-whole
returns-clause-whole c = λ net bytes r at text wrong. wrong.none (r, text.tree) text.is text.text
