use Rattle.std.specs.Option.{option_copied}
use Rattle.price_bound.specs.Numbers.{AreCosts}
use Rattle.price_bound.proofs.costs.find.Given as goal

abbrev pub invariant-loop-flow : goal.invariant-loop-flow
invariant-loop-flow l = AreCosts l.program.problem (option_copied l.cutoff) l.fixed l.flow l.costs
