use Rattle.std.proofs.Common.{take}
use Rattle.merlin_compile.specs.Compiled.{AreIdsOf}
use Rattle.merlin_compile.proofs.identifying.list_ids.Given as goal

-- the ids so far are those of the ends so far
abbrev pub invariant-loop-end : goal.invariant-loop-end
invariant-loop-end l = AreIdsOf l.checked.policy (take l.end-index l.ends) l.ids.items
