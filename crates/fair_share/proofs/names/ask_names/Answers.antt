use Rattle.std.proofs.lemmas.Result.{err_from_is_err_and}
use Rattle.fair_share.proofs.Repeated.{repeated-caps}
use Rattle.fair_share.proofs.names.ask_names.Goals as goal

pub returns-in_err-add_names-clause-err : goal.returns-in_err-add_names-clause-err
returns-in_err-add_names-clause-err c =
    let p = err_from_is_err_and c.from_residual.result c.from_residual.ensures.1 in
    rw (p.1, p.2) (repeated-caps c.new-numbers.result.keys c.deref.result.now c.args.entries.now.caps.items c.args.entries.now.tenants.items _ c.new-numbers.ensures.empty c.deref.ensures.value c.in_err-add_names.ensures.err)
