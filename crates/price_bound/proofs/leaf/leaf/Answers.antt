use Rattle.std.proofs.Common.{◌∙◌, ◌++◌, ap, length, arith}
use Rattle.price_bound.specs.Priced.{pricing_of, rest}
use Rattle.price_bound.proofs.Rows.{one-more, whole, priced-is}
use Rattle.price_bound.proofs.leaf.leaf.Goals as goal

pub loop-row-preserved : goal.loop-row-preserved
loop-row-preserved c = one-more c.args.at.now c.loop-row.row 0 c.loop-row.weights _ c.loop-row-test.true c.loop-row.invariant c.in_ok-put.ensures

pub returns : goal.returns
returns c problem numbers flat links =
    whole problem numbers (pricing_of c.args.pricing) c.args.at.now c.loop-row.row c.loop-row.weights _ (priced-is problem (pricing_of c.args.pricing) c.args.links links c.requires.is_in) flat (let e = c.loop-row-test.false in let k = c.loop-row.auto.row-end in omega arith) c.loop-row.invariant
    (c.in_ok-put_priced.ensures ∙ ap (λ l. c.loop-row.weights ++ rest l (pricing_of c.args.pricing) (length c.args.at.now)) links)
