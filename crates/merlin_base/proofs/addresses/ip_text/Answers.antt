use Rattle.std.proofs.Common.{◌∙◌}
use Rattle.std.proofs.lemmas.Result.{IfOk-weaker}
use Rattle.merlin_base.specs.Addresses.{ip_text}
use Rattle.merlin_base.proofs.addresses.ip_text.Goals as goal

pub returns : goal.returns
unfolding ip_text
returns c = IfOk-weaker c.name_from.result _ _ (λ text e. e ∙ c.as_bytes.ensures.value ∙ rw c.in_ok-text.ensures.ok (rw c.to_be_bytes.ensures)) c.name_from.ensures
