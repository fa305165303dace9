use Rattle.path_regex.proofs.Meanings.{normal-takes, derivative-quotient}
use Rattle.path_regex.proofs.laws.normal_forms_keep_language.Goals as goal

pub returns : goal.returns
returns c = record { normal = normal-takes; derivative = λ path x n. derivative-quotient path n x }
