use Rattle.std.proofs.Common.{[]}
use Rattle.policy_configuration.proofs.Free.{no-ends, no-walks, none-meet, nothing-fits, none-least}
use Rattle.policy_configuration.proofs.laws.made_without_guarantees.Goals as goal

pub returns-clause-ends : goal.returns-clause-ends
returns-clause-ends c = no-ends

pub returns-clause-walks : goal.returns-clause-walks
returns-clause-walks c = no-walks

pub returns-clause-assigned : goal.returns-clause-assigned
returns-clause-assigned c net policy = tt

pub returns-clause-simple : goal.returns-clause-simple
returns-clause-simple c = none-meet

pub returns-clause-feasible : goal.returns-clause-feasible
returns-clause-feasible c = nothing-fits

pub returns-clause-least : goal.returns-clause-least
returns-clause-least c = none-least

pub returns-clause-delivers : goal.returns-clause-delivers
returns-clause-delivers c net policy config m = c.made_is_compiled.ensures.delivers net policy [] [] config m

pub returns-clause-caps : goal.returns-clause-caps
returns-clause-caps c net policy config m = c.made_keeps_caps.ensures.caps net policy [] [] config m

pub returns-clause-classes : goal.returns-clause-classes
returns-clause-classes c net policy config m = c.made_keeps_caps.ensures.lines net policy [] [] config m

pub returns-clause-guarantees : goal.returns-clause-guarantees
returns-clause-guarantees c net policy config m = c.made_meets_guarantees.ensures net policy [] [] config m (nothing-fits net policy)
