use Rattle.std.proofs.Common.{◌≡◌, ℕ, List, [], take, drop}
use Rattle.std.specs.Prelude.{filter_map}
use Rattle.merlin_model.specs.Rates.{id_of_part}
use Rattle.localise.specs.Faults.{is_among}
use Rattle.localise.specs.Limits.{has_met}
use Rattle.localise.proofs.Repeated.{later}
use Rattle.localise.proofs.asking.ask_term.Given as goal

abbrev pub invariant-loop-part : goal.invariant-loop-part
invariant-loop-part l = record {
  met : (name : List ℕ) → has_met l.met name ≡ is_among (filter_map id_of_part (take l.part-index l.part-items)) name;
  rest : later (filter_map id_of_part (take l.part-index l.part-items)) (filter_map id_of_part (drop l.part-index l.part-items)) ≡ later [] (filter_map id_of_part l.part-items);
}
