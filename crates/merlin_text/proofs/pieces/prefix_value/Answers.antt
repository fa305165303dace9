use Rattle.merlin_text.proofs.Prefixes.{prefix_has_slash, prefix_parts, prefix_few}
use Rattle.merlin_text.proofs.pieces.prefix_value.Goals as goal

pub returns-in_err-address-clause-none : goal.returns-in_err-address-clause-none
returns-in_err-address-clause-none c = rw c.from_residual.ensures (λ v n p. prefix_has_slash _ v n c.in_err-address.ensures.none p)

pub returns-in_err-value-clause-none : goal.returns-in_err-value-clause-none
returns-in_err-value-clause-none c =
    rw c.from_residual-in_err-value.ensures
    (λ v n p. c.in_err-value.ensures.none v (prefix_parts _ _ _ v n c.in_ok-address.ensures.some.0 c.in_ok-address.ensures.some.1 p).0)

pub returns-in_err-length-clause-none : goal.returns-in_err-length-clause-none
returns-in_err-length-clause-none c =
    rw c.from_residual-in_err-length.ensures
    (λ v n p. c.in_err-length.ensures.none n (prefix_parts _ _ _ v n c.in_ok-address.ensures.some.0 c.in_ok-address.ensures.some.1 p).1 (prefix_few _ v n p))
