use Rattle.std.proofs.Common.{arith}
use Rattle.price_bound.proofs.floors.push_floor.Goals as goal

pub returns-then-fixed-most-clause-fixed : goal.returns-then-fixed-most-clause-fixed
returns-then-fixed-most-clause-fixed c h = let t = c.if-fixed-most.true in absurd (omega arith)
