use Rattle.std.proofs.Common.{◌↔◌, Contains, drop}
use Rattle.std.specs.Prelude.{filter_map}
use Rattle.merlin_model.specs.Rates.{id_of_part}
use Rattle.negotiator.proofs.marking.has_id.Given as goal

abbrev pub invariant-loop-part : goal.invariant-loop-part
invariant-loop-part l = (Contains (filter_map id_of_part l.parts) l.id) ↔ Contains (filter_map id_of_part (drop l.part-index l.parts)) l.id
