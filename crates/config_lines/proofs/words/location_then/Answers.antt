use Rattle.std.proofs.Common.{arith}
use Rattle.config_text.specs.Lines.{name_at}
use Rattle.config_lines.proofs.Then.{no_byte, same_part, location_free}
use Rattle.config_lines.proofs.words.location_then.Goals as goal

pub returns-in_err-word-clause-none : goal.returns-in_err-word-clause-none
returns-in_err-word-clause-none c = rw c.from_residual.ensures (λ loc rest is e. no_byte 32 c.args.text.now (name_at c.args.net.now loc) rest c.in_err-word.ensures.none e)

pub returns-in_err-loc-clause-none : goal.returns-in_err-loc-clause-none
returns-in_err-loc-clause-none c =
    rw c.from_residual-in_err-loc.ensures (λ loc rest is e.
    c.in_err-loc.ensures.none loc is (same_part 32 c.args.text.now c.in_ok-word.word.now c.in_ok-word.rest.now (name_at c.args.net.now loc) rest c.in_ok-word.ensures.some.0 c.in_ok-word.ensures.some.1
    (location_free 32 c.args.net.now loc (omega arith) is) e).front)
