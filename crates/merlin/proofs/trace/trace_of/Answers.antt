use Rattle.std.proofs.Common.{◌≡◌, length, sym, ◌∙◌, arith}
use Rattle.std.specs.Prelude.{codes}
use Rattle.std.specs.String.{string_bytes}
use Rattle.merlin.proofs.Words.{same_bytes}
use Rattle.merlin.proofs.Tracing.{texts_of_five}
use Rattle.merlin.proofs.trace.trace_of.Goals as goal

pub returns-clause-some : goal.returns-clause-some
returns-clause-some c =
    let many : length c.args.words.now ≡ 5 = omega (arith, c.in-len5.len_at_least, c.in-len5.len_below) in
    let split = texts_of_five c.args.words.now c.command-item.result c.topology-item.result c.result-item.result c.host-item.result c.packet-item.result many c.command-item.is c.topology-item.is c.result-item.is c.host-item.is c.packet-item.is in
    let command : string_bytes c.command-item.result ≡ codes "trace" = sym c.as_str.ensures.value ∙ same_bytes _ _ c.if-ne.ensures in
    split ∙ rw (command, c.as_str-2.ensures.value, c.as_str-3.ensures.value, c.as_str-4.ensures.value, c.as_str-5.ensures.value)
