use Rattle.std.proofs.Common.{◌≡◌, length, sym, ◌∙◌, arith}
use Rattle.std.specs.Prelude.{codes}
use Rattle.std.specs.String.{string_bytes}
use Rattle.merlin.proofs.Words.{same_bytes}
use Rattle.merlin.proofs.Wiring.{texts_of_four_alone}
use Rattle.merlin.proofs.wire.wire_of.Goals as goal

pub returns-clause-some : goal.returns-clause-some
returns-clause-some c =
    let many : length c.args.words.now ≡ 4 = omega (arith, c.in-len4.len_at_least, c.in-len4.len_below) in
    let split = texts_of_four_alone c.args.words.now c.command-item.result c.topology-item.result c.result-item.result c.switch-item.result many c.command-item.is c.topology-item.is c.result-item.is c.switch-item.is in
    let command : string_bytes c.command-item.result ≡ codes "wire" = sym c.as_str.ensures.value ∙ same_bytes _ _ c.if-ne.ensures in
    split ∙ rw (command, c.as_str-2.ensures.value, c.as_str-3.ensures.value, c.as_str-4.ensures.value)
