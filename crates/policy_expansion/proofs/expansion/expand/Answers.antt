use Rattle.std.proofs.lemmas.Result.{err_from_is_err_and}
use Rattle.policy_expansion.proofs.Ordered.{refused}
use Rattle.policy_expansion.proofs.Consuming.{expanded}
use Rattle.policy_expansion.proofs.expansion.expand.Goals as goal

pub returns-in_err-whole : goal.returns-in_err-whole
returns-in_err-whole c =
    let fault = rw c.as_slice.ensures at c.in_err-whole.ensures.err in
    let p = err_from_is_err_and c.from_residual.result c.from_residual.ensures.1 in
    rw (p.1, p.2) (refused c.args.written _ fault)

pub returns : goal.returns
returns c =
    let ok = rw c.as_slice.ensures at c.in_ok-whole.ensures.ok in
    expanded c.args.written c.in_ok-whole.whole _ ok.0 ok.1 c.in_ok-append.ensures
