use Rattle.std.proofs.Common.{◌≤◌, ◌^◌, sym, subst}
use Rattle.std.specs.List.{AllByRecursion}
use Rattle.price_bound.proofs.Flat.{all-small}
use Rattle.price_bound.proofs.Steps.{all-index}
use Rattle.price_bound.proofs.tried.try_leaf.Goals as goal

pub leaf-requires-clause-low : goal.leaf-requires-clause-low
leaf-requires-clause-low c k d h =
    let numbers = c.requires.numbers in
    all-index (λ m. m ≤ 2 ^ 60) c.args.numbers.now k d (subst (AllByRecursion (λ m. m ≤ 2 ^ 60)) (sym numbers.flat) (all-small numbers.at 0 c.args.program.now.problem.flows numbers.small)) h
