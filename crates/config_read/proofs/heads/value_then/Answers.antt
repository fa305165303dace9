use Rattle.std.proofs.Common.{sym, subst}
use Rattle.config_lines.proofs.Then.{no_byte, same_part}
use Rattle.config_read.specs.Heads.{IsWrittenValue}
use Rattle.config_read.proofs.HeadTexts.{value_free}
use Rattle.config_read.proofs.heads.value_then.Goals as goal

pub returns-in_err-word-clause-none : goal.returns-in_err-word-clause-none
returns-in_err-word-clause-none c = rw c.from_residual.ensures (λ value rest is e. no_byte 10 c.args.text.now value rest c.in_err-word.ensures.none e)

pub returns-else-is_value-clause-none : goal.returns-else-is_value-clause-none
returns-else-is_value-clause-none c = λ value rest is e.
    let same = same_part 10 c.args.text.now c.in_ok-word.word.now c.in_ok-word.rest.now value rest c.in_ok-word.ensures.some.0 c.in_ok-word.ensures.some.1 (value_free value is) e in
    c.is_value.ensures.no c.if-is_value.false (subst IsWrittenValue (sym same.front) is)
