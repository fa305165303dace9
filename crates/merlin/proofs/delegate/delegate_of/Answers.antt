use Rattle.std.proofs.Common.{◌≡◌, length, sym, ◌∙◌, arith}
use Rattle.std.specs.Prelude.{codes}
use Rattle.std.specs.String.{string_bytes}
use Rattle.merlin.proofs.Words.{texts_of_three, same_bytes}
use Rattle.merlin.proofs.delegate.delegate_of.Goals as goal

pub returns-clause-some : goal.returns-clause-some
returns-clause-some c =
    let three : length c.args.words.now ≡ 3 = omega (arith, c.in-len3.len_at_least, c.in-len3.len_below) in
    let split = texts_of_three c.args.words.now c.command-item.result c.tree-item.result c.topology-item.result three c.command-item.is c.tree-item.is c.topology-item.is in
    let command : string_bytes c.command-item.result ≡ codes "delegate" = sym c.as_str.ensures.value ∙ same_bytes _ _ c.if-ne.ensures in
    split ∙ rw (command, c.as_str-2.ensures.value, c.as_str-3.ensures.value)
