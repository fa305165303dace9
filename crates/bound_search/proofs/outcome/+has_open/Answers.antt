use Rattle.std.proofs.Common.{refl}
use Rattle.bound_search.proofs.Trees.{first_open, second_open}
use Rattle.bound_search.proofs.outcome.+has_open.Goals as goal

pub returns-then-has_open : goal.returns-then-has_open
returns-then-has_open t c = first_open _ _ _ c.in-Split.one c.in-Split.variable _ c.in-Split.is c.get.ensures c.has_open.ensures c.if-has_open.true

pub returns-else-has_open : goal.returns-else-has_open
returns-else-has_open t c =
    second_open _ _ _ _ _ c.in-Split.variable _ _ c.in-Split.is c.get.ensures c.get-else-has_open.ensures c.has_open.ensures c.if-has_open.false c.has_open-else-has_open.ensures

pub returns-in-Unclosed : goal.returns-in-Unclosed
returns-in-Unclosed t c = λ box. rw c.in-Unclosed.is refl
