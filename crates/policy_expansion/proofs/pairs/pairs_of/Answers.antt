use Rattle.std.proofs.Common.{sym, ◌∙◌}
use Rattle.policy_expansion.proofs.Paired.{pairs_of_empty}
use Rattle.policy_expansion.proofs.pairs.pairs_of.Goals as goal

pub returns-then-is_empty : goal.returns-then-is_empty
returns-then-is_empty c = c.new-found.ensures.items ∙ sym (pairs_of_empty c.args.outer.now c.args.inner.now c.if-is_empty.ensures)
