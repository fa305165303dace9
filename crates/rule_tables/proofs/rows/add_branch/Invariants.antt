use Rattle.std.proofs.Common.{◌≡◌, take, List}
use Rattle.rules_model.specs.Products.{Group, queue_in}
use Rattle.rule_tables.specs.Branches.{IsBranch}
use Rattle.rule_tables.specs.Rows.{IsReady, AddsRows, spots_of_branch}
use Rattle.rule_tables.proofs.rows.add_branch.Given as goal

abbrev pub invariant-loop-place : goal.invariant-loop-place
invariant-loop-place l = (of : List Group) → IsReady l.net of l.tags → IsBranch l.net of l.group l.branch → l.queue ≡ queue_in of l.group →
    AddsRows l.net of l.tags (take l.place (spots_of_branch l.group l.branch)) l.fn.rows.items l.rows.items
