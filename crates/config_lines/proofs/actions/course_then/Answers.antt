use Rattle.std.proofs.Common.{arith}
use Rattle.config_text.specs.Lines.{actions_text}
use Rattle.config_lines.proofs.Then.{no_byte, same_part}
use Rattle.config_lines.proofs.ActionTexts.{actions_free}
use Rattle.config_lines.proofs.actions.course_then.Goals as goal

pub returns-in_err-word-clause-none : goal.returns-in_err-word-clause-none
returns-in_err-word-clause-none c = rw c.from_residual.ensures (λ actions rest are e. no_byte 10 c.args.text.now (actions_text actions) rest c.in_err-word.ensures.none e)

pub returns-in_err-course-clause-none : goal.returns-in_err-course-clause-none
returns-in_err-course-clause-none c =
    rw c.from_residual-in_err-course.ensures (λ actions rest are e. c.in_err-course.ensures.none actions are
    (same_part 10 c.args.text.now c.in_ok-word.word.now c.in_ok-word.rest.now (actions_text actions) rest c.in_ok-word.ensures.some.0 c.in_ok-word.ensures.some.1 (actions_free 10 actions (omega arith) are) e).front)
