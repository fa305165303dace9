use Rattle.std.specs.Fmt.{decimal}
use Rattle.config_lines.proofs.Then.{no_byte, same_part, number_free}
use Rattle.config_lines.proofs.words.number_then.Goals as goal

pub returns-in_err-word-clause-none : goal.returns-in_err-word-clause-none
returns-in_err-word-clause-none c = rw c.from_residual.ensures (λ n rest is e. no_byte c.args.byte c.args.text.now (decimal n) rest c.in_err-word.ensures.none e)

pub returns-in_err-number-clause-none : goal.returns-in_err-number-clause-none
returns-in_err-number-clause-none c =
    rw c.from_residual-in_err-number.ensures (λ n rest is e.
    c.in_err-number.ensures.none n is (same_part c.args.byte c.args.text.now c.in_ok-word.word.now c.in_ok-word.rest.now (decimal n) rest c.in_ok-word.ensures.some.0 c.in_ok-word.ensures.some.1
    (number_free c.args.byte n c.requires is) e).front)
