use Rattle.std.proofs.Common.{◌≡◌, length}
use Rattle.product_graph.specs.Followers.{AreFollowerRows}
use Rattle.product_graph.proofs.rows.rows.Given as goal

abbrev pub invariant-loop-loc : goal.invariant-loop-loc
invariant-loop-loc l = (length l.rows ≡ l.loc) × AreFollowerRows l.net l.symbols l.rows
