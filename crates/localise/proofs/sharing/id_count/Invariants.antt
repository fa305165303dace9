use Rattle.std.proofs.Common.{◌≡◌, ◌+◌, ◌≤◌, length, drop}
use Rattle.std.specs.Prelude.{filter_map}
use Rattle.merlin_model.specs.Rates.{id_of_part}
use Rattle.localise.proofs.sharing.id_count.Given as goal

abbrev pub invariant-loop-part : goal.invariant-loop-part
invariant-loop-part l = record {
  rest : l.count + length (filter_map id_of_part (drop l.part-index l.part-items)) ≡ length (filter_map id_of_part l.part-items);
  few : l.count ≤ l.part-index;
}
