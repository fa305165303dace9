use Rattle.std.proofs.Common.{◌≢◌, take, Contains}
use Rattle.rule_tables.specs.declared.branches.Branch.{Branch}
use Rattle.rule_tables.proofs.entries.branch_place.Given as goal

abbrev pub invariant-loop-place : goal.invariant-loop-place
invariant-loop-place l = (branch : Branch) → Contains (take l.place l.branches) branch → branch.dest ≢ l.dest
