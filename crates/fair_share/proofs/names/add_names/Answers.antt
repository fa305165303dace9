use Rattle.std.proofs.Common.{◌++◌, sym, ◌∙◌, subst, arith}
use Rattle.fair_share.specs.Reading.{names_written, IsFirstRepeatedName}
use Rattle.fair_share.specs.Failing.{key_texts}
use Rattle.fair_share.proofs.Repeated.{added-more, is-repeated, not-new, is-new}
use Rattle.fair_share.proofs.names.add_names.Goals as goal

pub returns-then-not-branch-clause-err : goal.returns-then-not-branch-clause-err
returns-then-not-branch-clause-err c = subst (IsFirstRepeatedName (key_texts c.args.numbers.now.keys ++ names_written c.args.entries.now)) (sym c.in_ok-repeated.ensures)
    (is-repeated (key_texts c.args.numbers.now.keys) c.args.entries.now c.loop-entry.entry-index c.loop-entry.numbers.keys c.entry-item.result c.in_ok-name.name c.loop-entry.invariant (omega arith) c.entry-item.is
    (c.in_ok-name.ensures.items ∙ c.bytes.ensures) (not-new _ _ c.in_ok-insert.ensures.added c.if-not-branch.true))

pub loop-entry-preserved : goal.loop-entry-preserved
loop-entry-preserved c = added-more (key_texts c.args.numbers.now.keys) c.args.entries.now c.loop-entry.entry-index c.loop-entry.numbers.keys c.entry-item.result c.in_ok-name.name c.loop-entry.invariant (omega arith) c.entry-item.is
    (c.in_ok-name.ensures.items ∙ c.bytes.ensures) c.insert.new.self.keys (is-new _ _ c.in_ok-insert.ensures.added c.if-not-branch.false) c.in_ok-insert.ensures.keys c.in_ok-insert.ensures.unique
