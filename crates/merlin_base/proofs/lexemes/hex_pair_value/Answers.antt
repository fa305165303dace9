use Rattle.merlin_base.proofs.Parts.{IsHexPair-high, IsHexPair-low}
use Rattle.merlin_base.proofs.lexemes.hex_pair_value.Goals as goal

pub returns-in_err-high-in-len2-clause-none : goal.returns-in_err-high-in-len2-clause-none
returns-in_err-high-in-len2-clause-none c = rw c.from_residual.ensures (λ n pair. let digit = IsHexPair-high _ n pair in c.in_err-high-in-len2.ensures.none digit.0 digit.1)

pub returns-in_err-low-in-len2-clause-none : goal.returns-in_err-low-in-len2-clause-none
returns-in_err-low-in-len2-clause-none c = rw c.from_residual-in_err-low-in-len2.ensures (λ n pair. let digit = IsHexPair-low _ n pair in c.in_err-low-in-len2.ensures.none digit.0 digit.1)
