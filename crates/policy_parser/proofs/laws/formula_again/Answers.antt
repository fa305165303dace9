use Rattle.std.proofs.Common.{◌++◌, sym, subst}
use Rattle.std.specs.Prelude.{codes}
use Rattle.rate_formula.specs.FormulaLexemes.{IsWritable, HasLexemes, formula_lexemes}
use Rattle.policy_expansion.specs.declared.policy.Policy.{Policy}
use Rattle.policy_parser.specs.Policies.{IsPolicyText}
use Rattle.policy_parser.proofs.PrintedFormula.{formula_text_parses}
use Rattle.policy_parser.proofs.FormulaAlone.{alone}
use Rattle.policy_parser.proofs.laws.formula_again.Goals as goal

pub returns-clause-writable : goal.returns-clause-writable
returns-clause-writable c = λ text policy p. let a = alone text policy p in subst (λ (q : Policy). IsWritable q.formula.terms) (sym a.is) a.writable

pub returns-clause-again : goal.returns-clause-again
returns-clause-again c = λ text printed policy p has.
    let a = alone text policy p in
    let own : HasLexemes printed (formula_lexemes a.terms) = subst (λ (q : Policy). HasLexemes printed (formula_lexemes q.formula.terms)) a.is has in
    subst (IsPolicyText (codes "[ ], " ++ printed)) (sym a.is) (formula_text_parses printed a.terms a.some a.ids own)
