use Rattle.std.proofs.Common.{◌≡◌, ◌-◌, pos, get_or, to_z, of_z, w64, ◌∙◌, ap, arith}
use Rattle.std.proofs.lemmas.Int.{ints}
use Rattle.std.specs.Option.{option_copied}
use Rattle.merlin_model.specs.declared.network.DirectedLink.{DirectedLink}
use Rattle.cutoff_program.specs.Flows.{room}
use Rattle.merlin_program.proofs.Standing.{right-flow, right-link, right-last}
use Rattle.merlin_program.proofs.reading.right_at.Goals as goal

abbrev no_link : DirectedLink
no_link = record { from = 0; out_port = 0; to = 0; in_port = 0; capacity = 0; back = 0; weight = 0 }

pub returns-then-row-flows : goal.returns-then-row-flows
returns-then-row-flows c =
    let fits : to_z w64 (of_z w64 (get_or c.as_slice.result.now c.args.row (pos 0))) ≡ get_or c.as_slice.result.now c.args.row (pos 0) = omega (arith, ints) in
    fits ∙ right-flow c.args.problem.now (option_copied c.args.cutoff) c.args.rows.now c.as_slice.result.now c.flow_rows-flows.result c.args.row c.requires.is c.as_slice.ensures c.flow_rows-flows.ensures c.if-row-flows.true

pub returns-then-link-len : goal.returns-then-link-len
returns-then-link-len c =
    let fits : to_z w64 (of_z w64 c.room_of.result) ≡ c.room_of.result = omega (arith, ints) in
    let h = c.if-row-flows.false in
    let w = c.len.ensures in
    let l = c.if-link-len.true in
    fits ∙ c.room_of.ensures ∙ ap (λ ws. room c.args.problem.now.objective (option_copied c.args.cutoff) (get_or ws (c.args.row - c.flow_rows-flows.result) no_link).capacity) c.as_slice-then-link-len.ensures
    ∙ right-link c.args.problem.now (option_copied c.args.cutoff) c.flow_rows-flows.result c.args.row no_link c.flow_rows-flows.ensures (omega arith) (omega arith)

pub returns-else-link-len : goal.returns-else-link-len
returns-else-link-len c =
    let fits : to_z w64 (of_z w64 c.right_of.result) ≡ c.right_of.result = omega (arith, ints) in
    let h = c.if-row-flows.false in
    let w = c.len.ensures in
    let l = c.if-link-len.false in
    fits ∙ c.right_of.ensures ∙ right-last c.args.problem.now (option_copied c.args.cutoff) c.flow_rows-flows.result c.args.row c.total.result c.flow_rows-flows.ensures c.requires.in_range (omega arith) (omega arith) c.total.ensures.value
