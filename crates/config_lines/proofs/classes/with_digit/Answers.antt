use Rattle.std.proofs.Common.{◌++◌, ◌∷◌, ◌∙◌, [], false, ap, sym, arith}
use Rattle.std.specs.Fmt.{digits}
use Rattle.config_lines.proofs.ClassTexts.{digit_more}
use Rattle.config_lines.proofs.classes.with_digit.Goals as goal

pub returns-clause-some : goal.returns-clause-some
returns-clause-some c =
    let low = c.requires.low in let high = c.requires.high in let small = c.in_ok-digit.ensures.some.1 in (
      digit_more c.args.number c.in_ok-digit.digit (omega arith) (omega arith) small ∙ ap (λ b. digits 16 false c.args.number ++ b ∷ []) (sym c.in_ok-digit.ensures.some.0),
      omega arith,
      omega arith,
    )
