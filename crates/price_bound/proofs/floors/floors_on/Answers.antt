use Rattle.std.proofs.Common.{List, ℕ, sym, subst}
use Rattle.std.specs.Option.{option_copied}
use Rattle.price_bound.specs.Numbers.{AreFloors}
use Rattle.price_bound.proofs.Flooring.{none-floors}
use Rattle.price_bound.proofs.floors.floors_on.Goals as goal

pub loop-flow-init : goal.loop-flow-init
loop-flow-init c = subst (λ (l : List ℕ). AreFloors c.args.program.now.problem (option_copied c.args.cutoff) c.args.fixed.now c.args.link 0 l) (sym c.new-numbers.ensures) (none-floors c.args.program.now.problem (option_copied c.args.cutoff) c.args.fixed.now c.args.link)
