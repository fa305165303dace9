use Rattle.std.proofs.Common.{false}
use Rattle.std.specs.Fmt.{digits}
use Rattle.config_lines.proofs.Then.{no_byte, same_part}
use Rattle.config_lines.proofs.ClassTexts.{class_free}
use Rattle.config_lines.proofs.classes.class_then.Goals as goal

pub returns-in_err-word-clause-none : goal.returns-in_err-word-clause-none
returns-in_err-word-clause-none c = rw c.from_residual.ensures (λ n rest is e. no_byte c.args.byte c.args.text.now (digits 16 false n) rest c.in_err-word.ensures.none e)

pub returns-in_err-class-clause-none : goal.returns-in_err-class-clause-none
returns-in_err-class-clause-none c =
    rw c.from_residual-in_err-class.ensures (λ n rest is e. c.in_err-class.ensures.none n is
    (same_part c.args.byte c.args.text.now c.in_ok-word.word.now c.in_ok-word.rest.now (digits 16 false n) rest c.in_ok-word.ensures.some.0 c.in_ok-word.ensures.some.1 (class_free c.args.byte n c.requires is) e).front)
