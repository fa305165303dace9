use Rattle.policy_expansion.proofs.Consuming.{one_more}
use Rattle.policy_expansion.proofs.writing.write_out.Goals as goal

pub items-preserved : goal.items-preserved
items-preserved c = one_more _ _ _ _ _ _ _ c.items.invariant c.in-Some.ensures c.in_ok-add_item.ensures
