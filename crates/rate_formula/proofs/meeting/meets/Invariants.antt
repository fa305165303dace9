use Rattle.std.proofs.Common.{◌↔◌, drop}
use Rattle.merlin_model.specs.Rates.{Meets}
use Rattle.rate_formula.specs.Usage.{rate_among}
use Rattle.rate_formula.proofs.meeting.meets.Given as goal

-- the terms that are left decide
abbrev pub invariant-loop-term : goal.invariant-loop-term
invariant-loop-term l = Meets (rate_among l.ids l.usage) (drop l.term-index l.term-items) ↔ Meets (rate_among l.ids l.usage) l.term-items
