use Rattle.std.proofs.Common.{◌<◌, ◌≤◌, ℕ, List, length, subst, arith}
use Rattle.std.specs.Prelude.{sum_by}
use Rattle.std.proofs.lemmas.Result.{err_from_is_err_and}
use Rattle.predicate_split.specs.declared.fault.TheConstants.{MAX_CELLS}
use Rattle.product_graph.proofs.Lists.{all-at}
use Rattle.configuration_model.specs.Pairs.{cells_of_pair}
use Rattle.openflow_rules.proofs.Rooms.{cell-wider, sum-next, sum-passes, sum-whole, sum-below}
use Rattle.openflow_rules.proofs.cells.ask_cells.Goals as goal

pub left_after_host-requires-clause-src : goal.left_after_host-requires-clause-src
left_after_host-requires-clause-src c = all-at (λ k. k < length c.args.net.now.locations) c.args.hosts.now c.loop-src.src-index 0 c.loop-src-test.true c.requires.hosts

pub left_after_host-requires-clause-few : goal.left_after_host-requires-clause-few
left_after_host-requires-clause-few c = sum-below (λ s. sum_by (cells_of_pair c.args.net.now c.args.checked.now.policy s) c.args.hosts.now) c.args.hosts.now c.loop-src.src-index c.loop-src.left MAX_CELLS c.loop-src.invariant

pub returns-in_err-left-clause-err : goal.returns-in_err-left-clause-err
returns-in_err-left-clause-err c =
    let p = err_from_is_err_and c.from_residual.result c.from_residual.ensures.1 in
    rw (p.1, p.2)
    (cell-wider _ _ _ _
    (λ full. subst (λ (hosts : List ℕ). MAX_CELLS < sum_by (λ s. sum_by (cells_of_pair c.args.net.now c.args.checked.now.policy s) hosts) hosts) c.requires.all
    (sum-passes (λ s. sum_by (cells_of_pair c.args.net.now c.args.checked.now.policy s) c.args.hosts.now) c.args.hosts.now c.loop-src.src-index c.loop-src.left MAX_CELLS c.loop-src-test.true c.loop-src.invariant full))
    _ c.in_err-left.ensures.err)

pub loop-src-preserved : goal.loop-src-preserved
loop-src-preserved c = sum-next (λ s. sum_by (cells_of_pair c.args.net.now c.args.checked.now.policy s) c.args.hosts.now) c.args.hosts.now c.loop-src.src-index c.loop-src.left _ MAX_CELLS c.loop-src-test.true c.loop-src.invariant c.in_ok-left.ensures.ok

pub returns-clause-ok : goal.returns-clause-ok
returns-clause-ok c =
    let whole = sum-whole (λ s. sum_by (cells_of_pair c.args.net.now c.args.checked.now.policy s) c.args.hosts.now) c.args.hosts.now c.loop-src.src-index c.loop-src.left MAX_CELLS (let past = c.loop-src-test.false in omega (arith, past)) c.loop-src.invariant in
    subst (λ (hosts : List ℕ). sum_by (λ s. sum_by (cells_of_pair c.args.net.now c.args.checked.now.policy s) hosts) hosts ≤ MAX_CELLS) c.requires.all (omega (arith, whole))
