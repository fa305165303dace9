use Rattle.fair_share.proofs.OneDivision.{one-division}
use Rattle.fair_share.proofs.OneVerdict.{sound-apart, first-one}
use Rattle.fair_share.proofs.laws.one_verdict.Goals as goal

pub returns-clause-division : goal.returns-clause-division
returns-clause-division c = one-division

pub returns-clause-apart : goal.returns-clause-apart
returns-clause-apart c = sound-apart

pub returns-clause-first : goal.returns-clause-first
returns-clause-first c = first-one
