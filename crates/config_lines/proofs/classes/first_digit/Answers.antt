use Rattle.std.proofs.Common.{◌∷◌, ◌∙◌, [], ap, sym, arith}
use Rattle.std.proofs.lemmas.Fmt.{hex_one_digit}
use Rattle.config_lines.proofs.classes.first_digit.Goals as goal

pub returns-else-digit-eq0-clause-some : goal.returns-else-digit-eq0-clause-some
returns-else-digit-eq0-clause-some c =
    let small = c.in_ok-digit.ensures.some.1 in let some = c.if-digit-eq0.false in (
      ap (λ b. b ∷ []) c.in_ok-digit.ensures.some.0 ∙ sym (hex_one_digit _ c.in_ok-digit.digit small),
      record { low = omega arith; high = omega arith },
    )
