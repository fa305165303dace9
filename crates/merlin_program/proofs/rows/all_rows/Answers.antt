use Rattle.std.proofs.Common.{◌≡◌, ◌≤◌, ◌++◌, [], pos, length, None, false, ap, to_z, w64, arith}
use Rattle.std.proofs.lemmas.Int.{ints}
use Rattle.cutoff_program.specs.Flows.{flow_rows_from, link_rows_from}
use Rattle.merlin_program.proofs.Totals.{total-small}
use Rattle.merlin_program.proofs.Growing.{last-row, made-same}
use Rattle.merlin_program.proofs.rows.all_rows.Goals as goal

pub total_length-total-requires-clause-few : goal.total_length-total-requires-clause-few
total_length-total-requires-clause-few c = let e = ap length c.requires.are in let f = c.requires.is.few_variables in omega arith

pub overflow_cast-total : goal.overflow_cast-total
overflow_cast-total c =
    let few : length c.args.variables.now ≤ 32768 = (let e = ap length c.requires.are in let f = c.requires.is.few_variables in omega arith) in
    let s = total-small c.args.problem.now c.args.variables.now few c.requires.costs in let e = c.total_length-total.ensures in omega (arith, ints)

pub returns : goal.returns
returns c =
    let few : length c.args.variables.now ≤ 32768 = (let e = ap length c.requires.are in let f = c.requires.is.few_variables in omega arith) in
    let s = total-small c.args.problem.now c.args.variables.now few c.requires.costs in
    let e = c.total_length-total.ensures in
    let fits : to_z w64 c.total_length-total.result ≡ pos c.total_length-total.result = omega (arith, ints) in
    let flows = c.in_ok-push_flows.ensures [] (made-same _ _ _ [] [] [] c.new.ensures c.new-2.ensures c.new-3.ensures) in
    let links = c.in_ok-push_links.ensures (flow_rows_from c.args.problem.now 0 c.args.problem.now.flows) flows in
    last-row c.args.problem.now c.args.variables.now c.total_length-total.result _ c.push_row.new.rows c.requires.are e fits
    (c.in_ok-push_row.ensures (flow_rows_from c.args.problem.now 0 c.args.problem.now.flows ++ link_rows_from c.args.problem.now None 0 c.args.problem.now.links) false links)
