use Rattle.std.proofs.Common.{◌≡◌, ◌≤◌, ◌*◌, ◌^◌, sum_by, take}
use Rattle.merlin_model.specs.Rates.{rate_of_part}
use Rattle.rate_formula.specs.Usage.{rate_among}
use Rattle.rate_formula.proofs.meeting.total.Given as goal

abbrev pub invariant-loop-part : goal.invariant-loop-part
invariant-loop-part l = record {
  sum : l.total ≡ sum_by (rate_of_part (rate_among l.ids l.usage)) (take l.part-index l.part-items);
  small : l.total ≤ 2 ^ 64 * l.part-index;
}
