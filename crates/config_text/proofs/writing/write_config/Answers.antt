use Rattle.std.proofs.lemmas.Result.{err_from_is_err_and, on_err_weaker}
use Rattle.config_text.specs.Lines.{rule_lines, process_lines, queue_lines, host_lines}
use Rattle.config_text.proofs.Handing.{in_first, in_second, in_third, in_fourth}
use Rattle.config_text.proofs.writing.write_config.Goals as goal

pub returns-in_err-write_each-clause-err : goal.returns-in_err-write_each-clause-err
returns-in_err-write_each-clause-err g c =
    let p = err_from_is_err_and c.from_residual.result c.from_residual.ensures.1 in
    let net = c.args.net.now in
    let config = c.args.config.now in
    rw p.1 (in_first (rule_lines net config.rules) (process_lines net config.processes) (queue_lines net config.queues) (host_lines net config.hosts) _ _ (rw c.as_slice.ensures at c.in_err-write_each.ensures.err))

pub returns-in_err-write_each-2-clause-err : goal.returns-in_err-write_each-2-clause-err
returns-in_err-write_each-2-clause-err g c =
    let p = err_from_is_err_and c.from_residual-in_err-write_each-2.result c.from_residual-in_err-write_each-2.ensures.1 in
    let net = c.args.net.now in
    let config = c.args.config.now in
    rw p.1 (in_second (rule_lines net config.rules) (process_lines net config.processes) (queue_lines net config.queues) (host_lines net config.hosts) _ _ _
    (rw c.as_slice.ensures at c.in_ok-write_each.ensures.ok) (rw c.as_slice-2.ensures at c.in_err-write_each-2.ensures.err))

pub returns-in_err-write_each-3-clause-err : goal.returns-in_err-write_each-3-clause-err
returns-in_err-write_each-3-clause-err g c =
    let p = err_from_is_err_and c.from_residual-in_err-write_each-3.result c.from_residual-in_err-write_each-3.ensures.1 in
    let net = c.args.net.now in
    let config = c.args.config.now in
    rw p.1 (in_third (rule_lines net config.rules) (process_lines net config.processes) (queue_lines net config.queues) (host_lines net config.hosts) _ _ _ _
    (rw c.as_slice.ensures at c.in_ok-write_each.ensures.ok) (rw c.as_slice-2.ensures at c.in_ok-write_each-2.ensures.ok) (rw c.as_slice-3.ensures at c.in_err-write_each-3.ensures.err))

pub returns-clause-err : goal.returns-clause-err
returns-clause-err g c =
    let net = c.args.net.now in
    let config = c.args.config.now in
    on_err_weaker c.write_each-4.result (in_fourth (rule_lines net config.rules) (process_lines net config.processes) (queue_lines net config.queues) (host_lines net config.hosts) _ _ _ _ _
    (rw c.as_slice.ensures at c.in_ok-write_each.ensures.ok) (rw c.as_slice-2.ensures at c.in_ok-write_each-2.ensures.ok) (rw c.as_slice-3.ensures at c.in_ok-write_each-3.ensures.ok)) (rw c.as_slice-4.ensures at c.write_each-4.ensures.err)
