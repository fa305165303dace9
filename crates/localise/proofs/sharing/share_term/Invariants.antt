use Rattle.std.proofs.Common.{◌≡◌, ◌+◌, ℕ, List, length, drop, option_map}
use Rattle.std.specs.Prelude.{filter_map}
use Rattle.merlin_model.specs.Networks.{AreDifferent}
use Rattle.merlin_model.specs.Rates.{id_of_part}
use Rattle.localise.specs.Limits.{held_for, together, limits_in}
use Rattle.localise.proofs.Divided.{asked_from}
use Rattle.localise.proofs.sharing.share_term.Given as goal

abbrev pub invariant-loop-part : goal.invariant-loop-part
invariant-loop-part l = record {
  asked : (name : List ℕ) → asked_from l.amount l.count l.term.bound l.place (filter_map id_of_part (drop l.part-index l.part-items)) name (held_for l.table name) ≡ option_map (λ held. together held (limits_in name l.term)) (held_for l.initial.table name);
  places : l.place + length (filter_map id_of_part (drop l.part-index l.part-items)) ≡ l.count;
  different : AreDifferent (filter_map id_of_part (drop l.part-index l.part-items));
}
