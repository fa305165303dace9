use Rattle.product_graph.proofs.Following.{symbols-among, have-rows}
use Rattle.product_graph.proofs.rows.followers_in.Goals as goal

pub rows-requires : goal.rows-requires
rows-requires c = symbols-among c.args.net.now c.args.symbols.now c.requires

pub invariant_of-result : goal.invariant_of-result
invariant_of-result c = record { whole = have-rows c.args.net.now c.args.symbols.now c.in_ok-rows.rows c.in_ok-places.places c.requires c.in_ok-places.ensures c.in_ok-rows.ensures.count c.in_ok-rows.ensures.each }
