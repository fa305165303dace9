use Rattle.std.proofs.Common.{take, List}
use Rattle.rules_model.specs.Products.{Group}
use Rattle.rule_tables.specs.Rows.{IsReady, AreAllBranches, AreSpotRows, spots_from}
use Rattle.rule_tables.proofs.rows.rows_of.Given as goal

abbrev pub invariant-loop-number : goal.invariant-loop-number
invariant-loop-number l = (of : List Group) → IsReady l.net of l.tags → AreAllBranches l.net of l.branches →
    AreSpotRows l.net of l.tags (spots_from 0 (take l.number l.branches)) l.rows.items
