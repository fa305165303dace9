use Rattle.std.proofs.Common.{rules, ℕ, IfNone, inl, inr, sym, subst}
use Rattle.merlin_model.specs.declared.policy.Field.{Field}
use Rattle.packet_model.specs.Texts.{IsValueText}
use Rattle.packet_model.proofs.reading.field_value.Goals as goal

pub returns-in-EthSrc-clause-none : goal.returns-in-EthSrc-clause-none
returns-in-EthSrc-clause-none c =
    let goal_at = λ (field : Field). IfNone c.mac_value.result ((n : ℕ) → IsValueText field c.args.part.now n → ⊥) in
    elim c.in-EthSrc.is [ inl e ↦ subst goal_at (sym e) c.mac_value.ensures.none | inr e ↦ subst goal_at (sym e) c.mac_value.ensures.none ]

pub returns-in_err-ip_value-in-IpSrc-clause-none : goal.returns-in_err-ip_value-in-IpSrc-clause-none
returns-in_err-ip_value-in-IpSrc-clause-none c =
    let goal_at = λ (field : Field). (n : ℕ) → IsValueText field c.args.part.now n → ⊥ in
    rw c.from_residual.ensures (elim c.in-IpSrc.is [ inl e ↦ subst goal_at (sym e) c.in_err-ip_value-in-IpSrc.ensures.none | inr e ↦ subst goal_at (sym e) c.in_err-ip_value-in-IpSrc.ensures.none ])

pub returns-in-Sport-clause-value : goal.returns-in-Sport-clause-value
returns-in-Sport-clause-value c = search rules
