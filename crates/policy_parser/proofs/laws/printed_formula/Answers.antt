use Rattle.policy_parser.proofs.PrintedFormula.{formula_text_parses}
use Rattle.policy_parser.proofs.laws.printed_formula.Goals as goal

pub returns : goal.returns
returns c = formula_text_parses
