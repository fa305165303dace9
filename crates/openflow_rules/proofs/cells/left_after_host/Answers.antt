use Rattle.std.proofs.Common.{◌<◌, length, arith}
use Rattle.std.proofs.lemmas.Result.{err_from_is_err_and}
use Rattle.product_graph.proofs.Lists.{all-at}
use Rattle.configuration_model.specs.Pairs.{cells_of_pair}
use Rattle.openflow_rules.proofs.Rooms.{cell-wider, sum-next, sum-passes, sum-whole, sum-below}
use Rattle.openflow_rules.proofs.cells.left_after_host.Goals as goal

pub left_after_pair-requires-clause-dst : goal.left_after_pair-requires-clause-dst
left_after_pair-requires-clause-dst c = all-at (λ k. k < length c.args.net.now.locations) c.args.hosts.now c.loop-dst.dst-index 0 c.loop-dst-test.true c.requires.hosts

pub left_after_pair-requires-clause-few : goal.left_after_pair-requires-clause-few
left_after_pair-requires-clause-few c =
    let few = c.requires.few in
    let low = sum-below (cells_of_pair c.args.net.now c.args.checked.now.policy c.args.src) c.args.hosts.now c.loop-dst.dst-index c.loop-dst.after c.args.left c.loop-dst.invariant in
    omega (arith, few, low)

pub returns-in_err-after-clause-err : goal.returns-in_err-after-clause-err
returns-in_err-after-clause-err c =
    let p = err_from_is_err_and c.from_residual.result c.from_residual.ensures.1 in
    rw (p.1, p.2)
    (cell-wider _ _ _ _ (sum-passes (cells_of_pair c.args.net.now c.args.checked.now.policy c.args.src) c.args.hosts.now c.loop-dst.dst-index c.loop-dst.after c.args.left c.loop-dst-test.true c.loop-dst.invariant) _ c.in_err-after.ensures.err)

pub loop-dst-preserved : goal.loop-dst-preserved
loop-dst-preserved c = sum-next (cells_of_pair c.args.net.now c.args.checked.now.policy c.args.src) c.args.hosts.now c.loop-dst.dst-index c.loop-dst.after _ c.args.left c.loop-dst-test.true c.loop-dst.invariant c.in_ok-after.ensures.ok

pub returns-clause-ok : goal.returns-clause-ok
returns-clause-ok c = sum-whole (cells_of_pair c.args.net.now c.args.checked.now.policy c.args.src) c.args.hosts.now c.loop-dst.dst-index c.loop-dst.after c.args.left (let past = c.loop-dst-test.false in omega (arith, past)) c.loop-dst.invariant
