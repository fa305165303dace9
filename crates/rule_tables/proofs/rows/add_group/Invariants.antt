use Rattle.std.proofs.Common.{take, List}
use Rattle.std.specs.List.{flat_map}
use Rattle.rules_model.specs.Products.{Group}
use Rattle.rule_tables.specs.Branches.{AreGroupBranches}
use Rattle.rule_tables.specs.Rows.{IsReady, AddsRows, spots_of_branch}
use Rattle.rule_tables.proofs.rows.add_group.Given as goal

abbrev pub invariant-loop-branch : goal.invariant-loop-branch
invariant-loop-branch l = (of : List Group) → IsReady l.net of l.tags → AreGroupBranches l.net of l.number l.group →
    AddsRows l.net of l.tags (flat_map (spots_of_branch l.number) (take l.branch-index l.group.branches)) l.fn.rows.items l.rows.items
