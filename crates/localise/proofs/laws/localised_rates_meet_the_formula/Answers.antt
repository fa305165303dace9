use Rattle.localise.proofs.Keeping.{within_maxima, within_minima, within_both}
use Rattle.localise.proofs.laws.localised_rates_meet_the_formula.Goals as goal

pub returns-clause-maxima : goal.returns-clause-maxima
returns-clause-maxima c = within_maxima c.shares_of_a_term_sum.ensures

pub returns-clause-minima : goal.returns-clause-minima
returns-clause-minima c = within_minima c.shares_of_a_term_sum.ensures

pub returns-clause-both : goal.returns-clause-both
returns-clause-both c = within_both c.shares_of_a_term_sum.ensures
