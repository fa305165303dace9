use Rattle.std.proofs.Common.{◌∙◌, ap, subst, sym}
use Rattle.merlin_model.specs.declared.policy.Field.TheVariants.{EthDst}
use Rattle.merlin_base.specs.Lexemes.{IsMac}
use Rattle.merlin_base.specs.Addresses.{mac_text}
use Rattle.merlin_base.proofs.Unique.{IsMac-one}
use Rattle.packet_model.proofs.Printed.{mac_reads_back}
use Rattle.packet_model.proofs.Values.{in_range}
use Rattle.config_lines.proofs.Then.{alike, unlike}
use Rattle.config_lines.proofs.addresses.read_mac.Goals as goal

pub returns-in_err-eth-clause-none : goal.returns-in_err-eth-clause-none
returns-in_err-eth-clause-none c = rw c.from_residual.ensures (λ n small e. c.in_err-eth.ensures.none n (subst (λ t. IsMac t n) (sym e) (mac_reads_back n small)))

pub returns-then-eq-clause-some : goal.returns-then-eq-clause-some
returns-then-eq-clause-some c = (
  alike c.args.word.now c.as_slice.result.now c.eq.result c.eq.ensures c.if-eq.true ∙ c.as_slice.ensures ∙ c.mac_bytes-text.ensures,
  in_range EthDst c.args.word.now c.in_ok-eth.eth c.in_ok-eth.ensures.value,
)

pub returns-else-eq-clause-none : goal.returns-else-eq-clause-none
returns-else-eq-clause-none c = λ n small e.
    let same = IsMac-one c.args.word.now n c.in_ok-eth.eth (subst (λ t. IsMac t n) (sym e) (mac_reads_back n small)) c.in_ok-eth.ensures.value in
    unlike c.args.word.now c.as_slice.result.now c.eq.result c.eq.ensures c.if-eq.false (e ∙ ap mac_text same ∙ sym c.mac_bytes-text.ensures ∙ sym c.as_slice.ensures)
