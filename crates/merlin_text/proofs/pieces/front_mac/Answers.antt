use Rattle.std.proofs.Common.{arith, subst}
use Rattle.merlin_base.specs.Lexemes.{IsMac}
use Rattle.merlin_text.specs.Fronts.{IsByteOf}
use Rattle.merlin_text.specs.Tokens.{EndsBefore}
use Rattle.merlin_text.specs.declared.pieces.Run.TheVariants as runs
use Rattle.merlin_text.proofs.Fronts.{mac_front}
use Rattle.merlin_text.proofs.pieces.front_mac.Goals as goal

pub returns-then-text-lt-MAC_LENGTH-clause-none : goal.returns-then-text-lt-MAC_LENGTH-clause-none
returns-then-text-lt-MAC_LENGTH-clause-none c = λ mac rest n e is. let front = mac_front c.args.text.now mac rest n e is.is in omega (arith, front.2)

pub returns-in_err-mac-clause-none : goal.returns-in_err-mac-clause-none
returns-in_err-mac-clause-none c =
    rw c.from_residual.ensures
    (λ mac rest n e is.
    let front = mac_front c.args.text.now mac rest n e is.is in
    c.in_err-mac.ensures.none n (rw c.split_at.ensures.front (subst (λ t. IsMac t n) front.0 is.is)))

pub returns-else-ends_before-clause-none : goal.returns-else-ends_before-clause-none
returns-else-ends_before-clause-none c = λ mac rest n e is.
    let front = mac_front c.args.text.now mac rest n e is.is in
    let ends : EndsBefore (IsByteOf runs.Mac) c.split_at.result.1.now = rw c.split_at.ensures.back (subst (EndsBefore (IsByteOf runs.Mac)) front.1 is.ends) in
    let clash : ⊥ = cc (c.if-ends_before.ensures.1 ends) in
    clash
