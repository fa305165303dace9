use Rattle.contract_edits.proofs.splits.shared_packet.Goals as goal

pub returns-clause-some : goal.returns-clause-some
returns-clause-some c = c.least_common.ensures.some

pub returns-clause-none : goal.returns-clause-none
returns-clause-none c = c.least_common.ensures.none

pub returns-clause-classes : goal.returns-clause-classes
returns-clause-classes c = c.least_common.ensures.classes

pub returns-clause-err : goal.returns-clause-err
returns-clause-err c = c.least_common.ensures.err
