use Rattle.std.proofs.lemmas.Result.{err_from_is_err_and}
use Rattle.std.proofs.lemmas.Option.{slice_get-get_or}
use Rattle.policy_check.proofs.Guaranteed.{first-at-fault}
use Rattle.policy_check.proofs.guarantees.ends_of_all.Goals as goal

pub returns-in_err-ends_of-clause-err : goal.returns-in_err-ends_of-clause-err
returns-in_err-ends_of-clause-err c =
    let p = err_from_is_err_and c.from_residual.result c.from_residual.ensures.1 in
    rw (p.1, p.2) (first-at-fault c.args.net.now c.args.checked.now.policy c.args.statements.now c.requires.guaranteed c.loop-statement.ends.items c.loop-statement.statement-index _ _ c.requires.few c.loop-statement.invariant.places c.loop-statement.invariant.each
    (slice_get-get_or c.args.statements.now c.loop-statement.statement-index 0 c.loop-statement-test.true) c.in_err-ends_of.ensures.err)
