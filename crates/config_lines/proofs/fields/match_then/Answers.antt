use Rattle.std.proofs.Common.{arith}
use Rattle.config_text.specs.Lines.{match_text}
use Rattle.config_lines.proofs.Then.{no_byte, same_part}
use Rattle.config_lines.proofs.MatchTexts.{match_free}
use Rattle.config_lines.proofs.fields.match_then.Goals as goal

pub returns-in_err-word-clause-none : goal.returns-in_err-word-clause-none
returns-in_err-word-clause-none c = rw c.from_residual.ensures (λ m rest is e. no_byte 32 c.args.text.now (match_text m) rest c.in_err-word.ensures.none e)

pub returns-in_err-fits-clause-none : goal.returns-in_err-fits-clause-none
returns-in_err-fits-clause-none c =
    rw c.from_residual-in_err-fits.ensures (λ m rest is e. c.in_err-fits.ensures.none m is
    (same_part 32 c.args.text.now c.in_ok-word.word.now c.in_ok-word.rest.now (match_text m) rest c.in_ok-word.ensures.some.0 c.in_ok-word.ensures.some.1 (match_free 32 m (omega arith) is) e).front)
