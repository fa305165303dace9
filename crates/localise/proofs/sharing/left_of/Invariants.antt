use Rattle.std.proofs.Common.{◌≡◌, ◌+◌, take, sum_by}
use Rattle.merlin_model.specs.Rates.{constant_of_part}
use Rattle.localise.proofs.sharing.left_of.Given as goal

abbrev pub invariant-loop-part : goal.invariant-loop-part
invariant-loop-part l = l.left + sum_by constant_of_part (take l.part-index l.part-items) ≡ l.term.rate
