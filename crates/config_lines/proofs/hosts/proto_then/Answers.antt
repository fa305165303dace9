use Rattle.std.proofs.Common.{arith}
use Rattle.config_text.specs.Lines.{proto_text}
use Rattle.config_lines.proofs.Then.{no_byte, same_part}
use Rattle.config_lines.proofs.PortTexts.{proto_free}
use Rattle.config_lines.proofs.hosts.proto_then.Goals as goal

pub returns-in_err-word-clause-none : goal.returns-in_err-word-clause-none
returns-in_err-word-clause-none c = rw c.from_residual.ensures (λ n rest is e. no_byte 32 c.args.text.now (proto_text n) rest c.in_err-word.ensures.none e)

pub returns-in_err-proto-clause-none : goal.returns-in_err-proto-clause-none
returns-in_err-proto-clause-none c =
    rw c.from_residual-in_err-proto.ensures (λ n rest is e. c.in_err-proto.ensures.none n is
    (same_part 32 c.args.text.now c.in_ok-word.word.now c.in_ok-word.rest.now (proto_text n) rest c.in_ok-word.ensures.some.0 c.in_ok-word.ensures.some.1 (proto_free 32 n (omega arith) is) e).front)
