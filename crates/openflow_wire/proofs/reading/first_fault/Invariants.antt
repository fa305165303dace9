use Rattle.std.proofs.Common.{◌≡◌, not, drop}
use Rattle.std.specs.List.{find}
use Rattle.openflow_wire.specs.Fields.{is_taken}
use Rattle.openflow_wire.proofs.reading.first_fault.Given as goal

abbrev pub invariant-loop-field : goal.invariant-loop-field
invariant-loop-field l =
    find (λ field. not (is_taken l.message field)) l.fields ≡ find (λ field. not (is_taken l.message field)) (drop l.field-index l.fields)
