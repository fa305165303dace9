use Rattle.std.proofs.Common.{◌+◌, sym, subst}
use Rattle.product_graph.specs.Kept.{AreNumbersBelow}
use Rattle.product_graph.proofs.Listing.{numbers-next}
use Rattle.product_graph.proofs.product.numbers_below.Goals as goal

pub loop-number-preserved : goal.loop-number-preserved
loop-number-preserved c = subst (AreNumbersBelow (c.loop-number.number + 1)) (sym c.in_ok-push.ensures.ok) (numbers-next c.loop-number.number c.loop-number.numbers c.loop-number.invariant)
