use Rattle.std.proofs.Common.{◌≡◌, drop, filter, not, is_some}
use Rattle.std.specs.Prelude.{filter_map}
use Rattle.merlin_model.specs.Rates.{id_of_part}
use Rattle.localise.specs.Limits.{held_for}
use Rattle.localise.proofs.asking.first_unknown.Given as goal

abbrev pub invariant-loop-part : goal.invariant-loop-part
invariant-loop-part l =
    filter (λ id. not (is_some (held_for l.table id))) (filter_map id_of_part (drop l.part-index l.part-items)) ≡ filter (λ id. not (is_some (held_for l.table id))) (filter_map id_of_part l.part-items)
