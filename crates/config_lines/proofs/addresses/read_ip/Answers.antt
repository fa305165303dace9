use Rattle.std.proofs.Common.{◌≡◌, ◌<◌, ◌^◌, ℕ, Option, Some, None, IfSome, IfNone, subst, sym}
use Rattle.merlin_base.specs.Lexemes.{IsIp}
use Rattle.merlin_base.specs.Addresses.{ip_text}
use Rattle.packet_model.proofs.Printed.{ip_reads_back}
use Rattle.config_lines.proofs.AddressTexts.{ip_is}
use Rattle.config_lines.proofs.addresses.read_ip.Goals as goal

pub returns-clause-some : goal.returns-clause-some
returns-clause-some c = by c.ip_value.result c.ip_value.ensures.value
  where
    by : (o : Option ℕ) → IfSome o (IsIp c.args.word.now) → IfSome o (λ n. (c.args.word.now ≡ ip_text n) × (n < 2 ^ 32))
    by None h = tt
    by (Some n) h = ip_is c.args.word.now n h

pub returns-clause-none : goal.returns-clause-none
returns-clause-none c = by c.ip_value.result c.ip_value.ensures.none
  where
    by : (o : Option ℕ) → IfNone o ((n : ℕ) → IsIp c.args.word.now n → ⊥) → IfNone o ((n : ℕ) → n < 2 ^ 32 → c.args.word.now ≡ ip_text n → ⊥)
    by None h = λ n small e. h n (subst (λ t. IsIp t n) (sym e) (ip_reads_back n small))
    by (Some n) h = tt
