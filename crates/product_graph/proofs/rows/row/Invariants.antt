use Rattle.product_graph.specs.Followers.{IsFollowerRow}
use Rattle.product_graph.proofs.rows.row.Given as goal

abbrev pub invariant-loop-number : goal.invariant-loop-number
invariant-loop-number l = IsFollowerRow l.net l.symbols l.loc l.number l.row
