use Rattle.std.proofs.Common.{◌≡◌, take}
use Rattle.std.specs.List.{AllByRecursion}
use Rattle.packet_model.specs.Fields.{packet_with}
use Rattle.predicate_split.specs.Stretches.{IsInStretch}
use Rattle.predicate_split.proofs.grids.stretch_of.Given as goal

abbrev pub invariant-loop-choice : goal.invariant-loop-choice
invariant-loop-choice l = record {
  field : l.stretch.field ≡ l.field;
  each : AllByRecursion (λ c. IsInStretch l.stretch (packet_with l.packet l.field c.value)) (take l.choice-index l.choices);
}
