use Rattle.std.proofs.Common.{Err, ◌∙◌}
use Rattle.std.proofs.lemmas.Result.{err_from_is_err_and}
use Rattle.policy_check.proofs.Forms.{built-same}
use Rattle.policy_check.proofs.automata.add_path.Goals as goal

pub returns-in_err-number-clause-err : goal.returns-in_err-number-clause-err
returns-in_err-number-clause-err c =
    let p = err_from_is_err_and c.from_residual-in_err-number.result c.from_residual-in_err-number.ensures.1 in
    rw (p.1, p.2) (built-same c.args.symbols.now c.in_ok-form.form c.args.path.now (c.in_ok-form.ensures.own ∙ c.in_ok-form.ensures.is) (Err _) c.in_err-number.ensures.err)

pub returns-clause-ok : goal.returns-clause-ok
returns-clause-ok c = λ paths shared. rw c.in_ok-push.ensures.ok (c.in_ok-number.ensures.ok paths c.args.path.now c.in_ok-form.ensures.is shared)
