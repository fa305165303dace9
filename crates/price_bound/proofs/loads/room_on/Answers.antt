use Rattle.std.proofs.Common.{◌≡◌, ◌∙◌, ◌+◌, ◌-◌, None, length, to_z, of_z, w64, ap, arith}
use Rattle.std.proofs.lemmas.Int.{ints}
use Rattle.std.specs.Option.{option_copied}
use Rattle.cutoff_program.specs.declared.flow.Problem.{Problem}
use Rattle.cutoff_program.proofs.Forms.{count-rows}
use Rattle.graph_search.proofs.Places.{below-get}
use Rattle.price_bound.proofs.Loading.{row-of-link, room-of-link}
use Rattle.price_bound.proofs.loads.room_on.Goals as goal

pub overflow_sub-flow_rows-2 : goal.overflow_sub-flow_rows-2
overflow_sub-flow_rows-2 c =
    let n = count-rows c.args.program.now.problem None in
    let r = c.rows.ensures in
    let l = c.len.ensures ∙ ap (λ (p : Problem). length p.links) c.problem.ensures in
    omega arith

pub right-requires-clause-in_range : goal.right-requires-clause-in_range
right-requires-clause-in_range c =
    let n = count-rows c.args.program.now.problem None in
    let r = c.rows.ensures in
    let l = c.len.ensures ∙ ap (λ (p : Problem). length p.links) c.problem.ensures in
    let h = c.requires.in_range in
    omega arith

pub returns : goal.returns
returns c =
    let problem = c.args.program.now.problem in
    let l = c.len.ensures ∙ ap (λ (p : Problem). length p.links) c.problem.ensures in
    let here = below-get problem.links c.args.link c.requires.in_range in
    let row = row-of-link problem c.rows.result c.len.result c.args.link c.rows.ensures l c.requires.in_range in
    let small = c.right.type_inv in
    let back : to_z w64 (of_z w64 c.right.result) ≡ c.right.result = omega (arith, ints) in
    back ∙ c.right.ensures ∙ room-of-link problem (option_copied c.args.cutoff) (c.rows.result - 1 - c.len.result + c.args.link) c.args.link here.0 row here.1
