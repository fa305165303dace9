use Rattle.std.proofs.Common.{◌≡◌, ◌++◌, replicate}
use Rattle.price_bound.proofs.numbers.push_zeros.Given as goal

abbrev pub invariant-loop : goal.invariant-loop
invariant-loop l = l.numbers ≡ l.fn.numbers ++ replicate l.counter 0
