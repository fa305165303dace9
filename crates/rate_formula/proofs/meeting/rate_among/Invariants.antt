use Rattle.std.proofs.Common.{◌≡◌, drop}
use Rattle.rate_formula.specs.Usage.{rate_among}
use Rattle.rate_formula.proofs.meeting.rate_among.Given as goal

-- the ids that are left decide
abbrev pub invariant-loop-place : goal.invariant-loop-place
invariant-loop-place l = rate_among (drop l.place l.ids) (drop l.place l.usage) l.id ≡ rate_among l.ids l.usage l.id
