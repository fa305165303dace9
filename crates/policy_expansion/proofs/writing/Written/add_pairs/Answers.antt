use Rattle.std.proofs.Common.{List, subst}
use Rattle.policy_grammar.specs.declared.written.Literal.TheVariants.{Mac}
use Rattle.policy_grammar.specs.declared.written.WrittenStatement.{WrittenStatement}
use Rattle.policy_expansion.specs.Adding.{Adds}
use Rattle.policy_expansion.proofs.Numbering.{adds_both, one_more_pair}
use Rattle.policy_expansion.proofs.writing.Written.add_pairs.Goals as goal

pub loop-place-preserved : goal.loop-place-preserved
loop-place-preserved c =
    subst (λ (xs : List WrittenStatement). Adds c.args.self.now c.add.new.self xs)
    (one_more_pair c.args.statement.now c.args.pairs.now c.loop-place.place (Mac 0, Mac 0) c.in_ok-statement.statement c.in_ok-statement.ensures c.loop-place-test.true)
    (adds_both c.loop-place.invariant c.in_ok-add.ensures)
