use Rattle.std.proofs.Common.{◌≡◌, length, sym, ◌∙◌, arith}
use Rattle.std.specs.Prelude.{codes}
use Rattle.std.specs.String.{string_bytes}
use Rattle.merlin.proofs.Words.{texts_of_two, same_bytes}
use Rattle.merlin.proofs.fair.fair_of.Goals as goal

pub returns-clause-some : goal.returns-clause-some
returns-clause-some c =
    let two : length c.args.words.now ≡ 2 = omega (arith, c.in-len2.len_at_least, c.in-len2.len_below) in
    let split = texts_of_two c.args.words.now c.command-item.result c.demands-item.result two c.command-item.is c.demands-item.is in
    let command : string_bytes c.command-item.result ≡ codes "fair" = sym c.as_str.ensures.value ∙ same_bytes _ _ c.if-ne.ensures in
    split ∙ rw (command, c.as_str-2.ensures.value)
