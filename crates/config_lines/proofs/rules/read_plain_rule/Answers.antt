use Rattle.std.proofs.Common.{◌∷◌, ◌++◌, ◌∙◌, ap, sym}
use Rattle.std.specs.Prelude.{codes}
use Rattle.std.specs.Fmt.{decimal}
use Rattle.config_text.specs.Lines.{name_at, match_text}
use Rattle.config_lines.specs.Courses.{course_actions}
use Rattle.config_lines.proofs.Then.{within_double}
use Rattle.config_lines.proofs.RuleParts.{parts, start, after_loc, after_priority, after_fits, from_loc, from_priority, from_fits, from_actions}
use Rattle.config_lines.proofs.rules.read_plain_rule.Goals as goal

pub returns-in_err-rest-clause-none : goal.returns-in_err-rest-clause-none
returns-in_err-rest-clause-none c = rw c.from_residual.ensures (λ rule more is e. c.in_err-rest.ensures.none (from_loc c.args.net.now rule more) (e ∙ parts c.args.net.now rule more))

pub returns-in_err-loc-clause-none : goal.returns-in_err-loc-clause-none
returns-in_err-loc-clause-none c = rw c.from_residual-in_err-loc.ensures (λ rule more is e. c.in_err-loc.ensures.none rule.loc (from_priority c.args.net.now rule more) is.loc (start c.args.net.now c.args.text.now c.in_ok-rest.rest.now rule more c.in_ok-rest.ensures.some e))

pub returns-in_err-priority-clause-none : goal.returns-in_err-priority-clause-none
returns-in_err-priority-clause-none c = rw c.from_residual-in_err-priority.ensures (λ rule more is e. c.in_err-priority.ensures.none rule.priority (from_fits c.args.net.now rule more) (within_double rule.priority is.priority) (after_loc c.args.net.now c.in_ok-rest.rest.now c.in_ok-loc.rest.now c.in_ok-loc.loc rule more c.in_ok-loc.ensures.some.0 c.in_ok-loc.ensures.some.1 is (start c.args.net.now c.args.text.now c.in_ok-rest.rest.now rule more c.in_ok-rest.ensures.some e)))

pub returns-in_err-fits-clause-none : goal.returns-in_err-fits-clause-none
returns-in_err-fits-clause-none c = rw c.from_residual-in_err-fits.ensures (λ rule more is e. c.in_err-fits.ensures.none rule.fits (from_actions c.args.net.now rule more) is.fits (after_priority c.args.net.now c.in_ok-loc.rest.now c.in_ok-priority.rest.now c.in_ok-priority.priority rule more c.in_ok-priority.ensures.some.0 c.in_ok-priority.ensures.some.1.high is (after_loc c.args.net.now c.in_ok-rest.rest.now c.in_ok-loc.rest.now c.in_ok-loc.loc rule more c.in_ok-loc.ensures.some.0 c.in_ok-loc.ensures.some.1 is (start c.args.net.now c.args.text.now c.in_ok-rest.rest.now rule more c.in_ok-rest.ensures.some e))))

pub returns-in_err-course-clause-none : goal.returns-in_err-course-clause-none
returns-in_err-course-clause-none c = rw c.from_residual-in_err-course.ensures (λ rule more is e. c.in_err-course.ensures.none rule.actions more is.actions (after_fits c.args.net.now c.in_ok-priority.rest.now c.in_ok-fits.rest.now c.in_ok-fits.fits rule more c.in_ok-fits.ensures.some.0 c.in_ok-fits.ensures.some.1 is (after_priority c.args.net.now c.in_ok-loc.rest.now c.in_ok-priority.rest.now c.in_ok-priority.priority rule more c.in_ok-priority.ensures.some.0 c.in_ok-priority.ensures.some.1.high is (after_loc c.args.net.now c.in_ok-rest.rest.now c.in_ok-loc.rest.now c.in_ok-loc.loc rule more c.in_ok-loc.ensures.some.0 c.in_ok-loc.ensures.some.1 is (start c.args.net.now c.args.text.now c.in_ok-rest.rest.now rule more c.in_ok-rest.ensures.some e)))))

pub returns-clause-some : goal.returns-clause-some
returns-clause-some c = (
  c.in_ok-rest.ensures.some ∙ ap (λ z. codes "rule " ++ z) (c.in_ok-loc.ensures.some.0 ∙ ap (λ z. name_at c.args.net.now c.in_ok-loc.loc ++ 32 ∷ z) (c.in_ok-priority.ensures.some.0 ∙ ap (λ z. decimal c.in_ok-priority.priority ++ 32 ∷ z) (c.in_ok-fits.ensures.some.0 ∙ ap (λ z. match_text c.in_ok-fits.fits ++ 32 ∷ z) (c.in_ok-course.ensures.some.0)))) ∙ sym (parts c.args.net.now (record { loc = c.in_ok-loc.loc; priority = c.in_ok-priority.priority; fits = c.in_ok-fits.fits; actions = course_actions c.in_ok-course.course }) c.in_ok-course.rest.now),
  record { loc = c.in_ok-loc.ensures.some.1; priority = c.in_ok-priority.ensures.some.1.high; fits = c.in_ok-fits.ensures.some.1; actions = c.in_ok-course.ensures.some.1 },
)
