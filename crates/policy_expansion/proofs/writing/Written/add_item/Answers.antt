use Rattle.std.proofs.Common.{List, ◌∙◌, subst}
use Rattle.std.specs.Prelude.{OnOk}
use Rattle.policy_grammar.specs.declared.written.WrittenStatement.{WrittenStatement}
use Rattle.policy_expansion.specs.Adding.{Adds}
use Rattle.policy_expansion.specs.Tables.{under}
use Rattle.policy_expansion.proofs.Numbering.{each_written}
use Rattle.policy_expansion.proofs.writing.Written.add_item.Goals as goal

pub returns-in_ok-pairs-in-ForEach : goal.returns-in_ok-pairs-in-ForEach
returns-in_ok-pairs-in-ForEach c =
    let same = each_written (under c.args.sets.now) c.args.item c.in-ForEach.outer c.in-ForEach.inner c.in-ForEach.statement _ _ c.in-ForEach.is c.literals_in.ensures c.literals_in-in-ForEach.ensures c.deref.result.now (c.deref.ensures.value ∙ c.in_ok-pairs-in-ForEach.ensures) in
    subst (λ (xs : List WrittenStatement). OnOk c.add_pairs.result (Adds c.args.self.now c.add_pairs.new.self xs)) same c.add_pairs.ensures
