use Rattle.std.specs.Option.{option_copied}
use Rattle.price_bound.specs.Numbers.{AreFloors}
use Rattle.price_bound.proofs.floors.floors_on.Given as goal

abbrev pub invariant-loop-flow : goal.invariant-loop-flow
invariant-loop-flow l = AreFloors l.program.problem (option_copied l.cutoff) l.fixed l.link l.flow l.numbers
