use Rattle.std.proofs.Common.{arith}
use Rattle.merlin_base.specs.Addresses.{ip_text}
use Rattle.config_lines.proofs.Then.{no_byte, same_part}
use Rattle.config_lines.proofs.AddressTexts.{ip_free}
use Rattle.config_lines.proofs.addresses.ip_then.Goals as goal

pub returns-in_err-word-clause-none : goal.returns-in_err-word-clause-none
returns-in_err-word-clause-none c = rw c.from_residual.ensures (λ n rest is e. no_byte 32 c.args.text.now (ip_text n) rest c.in_err-word.ensures.none e)

pub returns-in_err-ip-clause-none : goal.returns-in_err-ip-clause-none
returns-in_err-ip-clause-none c =
    rw c.from_residual-in_err-ip.ensures (λ n rest is e.
    c.in_err-ip.ensures.none n is (same_part 32 c.args.text.now c.in_ok-word.word.now c.in_ok-word.rest.now (ip_text n) rest c.in_ok-word.ensures.some.0 c.in_ok-word.ensures.some.1 (ip_free 32 n (omega arith)) e).front)
