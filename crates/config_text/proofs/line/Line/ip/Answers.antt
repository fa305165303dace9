use Rattle.std.proofs.Common.{append_assoc, ◌∙◌}
use Rattle.std.proofs.lemmas.Result.{on_ok_weaker}
use Rattle.merlin_base.specs.Addresses.{ip_text}
use Rattle.config_text.proofs.line.Line.ip.Goals as goal

pub returns : goal.returns
unfolding ip_text
returns c =
    on_ok_weaker c.number-4.result (λ e. e ∙ simp (c.in_ok-byte-3.ensures, c.in_ok-number-3.ensures, c.in_ok-byte-2.ensures, c.in_ok-number-2.ensures, c.in_ok-byte.ensures, c.in_ok-number.ensures, c.from.ensures, c.from-2.ensures, c.from-3.ensures, c.from-4.ensures, c.to_be_bytes.ensures, append_assoc)) c.number-4.ensures
