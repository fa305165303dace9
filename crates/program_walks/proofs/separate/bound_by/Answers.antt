use Rattle.program_walks.proofs.Adding.{ratio-by, reserved-by}
use Rattle.program_walks.proofs.separate.bound_by.Goals as goal

pub returns-in-Some-2 : goal.returns-in-Some-2
returns-in-Some-2 c =
    ratio-by c.args.problem.now c.in_ok-greatest_of_shares-in-Ratio.field-0 c.in-Some-2.load c.in-Some-2.capacity c.in_ok-greatest_of_shares-in-Ratio.ensures c.in-Some-2.is c.in-Ratio.is

pub returns-in-Some-3 : goal.returns-in-Some-3
returns-in-Some-3 c =
    reserved-by c.args.problem.now c.in_ok-greatest_of_shares-in-Reserved.field-0 c.in-Some-3.load c.in-Some-3.field-0-1 c.in_ok-greatest_of_shares-in-Reserved.ensures c.in-Some-3.is c.in-Reserved.is
