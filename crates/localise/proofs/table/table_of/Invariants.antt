use Rattle.std.proofs.Common.{◌≡◌, ℕ, List, take, cond, Some, None}
use Rattle.localise.specs.Faults.{is_among}
use Rattle.localise.specs.Limits.{held_for, unlimited}
use Rattle.localise.proofs.table.table_of.Given as goal

abbrev pub invariant-loop-id : goal.invariant-loop-id
invariant-loop-id l = (name : List ℕ) → held_for l.table name ≡ cond (is_among (take l.id-index l.ids) name) (Some unlimited) None
