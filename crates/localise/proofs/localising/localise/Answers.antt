use Rattle.std.proofs.Common.{◌∙◌}
use Rattle.std.proofs.lemmas.Result.{err_from_is_err_and, IfErr-weaker, IfOk-weaker}
use Rattle.localise.specs.Limits.{held_for}
use Rattle.localise.proofs.Ordered.{by_unknown, by_repeated, by_constant, by_conflict, no_fault, rates_are}
use Rattle.localise.proofs.localising.localise.Goals as goal

pub returns-in_err-ask_known-clause-err : goal.returns-in_err-ask_known-clause-err
returns-in_err-ask_known-clause-err c =
    let p = err_from_is_err_and c.from_residual-in_err-ask_known.result c.from_residual-in_err-ask_known.ensures.1 in
    let fault = rw c.as_slice-terms.ensures at c.in_err-ask_known.ensures.err in
    rw (p.1, p.2) (by_unknown c.args.formula.now.terms c.args.ids.now (held_for c.in_ok-table.table) c.in_ok-table.ensures _ fault)

pub returns-in_err-ask_different-clause-err : goal.returns-in_err-ask_different-clause-err
returns-in_err-ask_different-clause-err c =
    let p = err_from_is_err_and c.from_residual-in_err-ask_different.result c.from_residual-in_err-ask_different.ensures.1 in
    let unknown = rw c.as_slice-terms.ensures at c.in_ok-ask_known.ensures.ok in
    let fault = rw c.as_slice-terms.ensures at c.in_err-ask_different.ensures.err in
    rw (p.1, p.2) (by_repeated c.args.formula.now.terms c.args.ids.now (held_for c.in_ok-table.table) c.in_ok-table.ensures unknown _ fault)

pub returns-in_err-ask_constants-clause-err : goal.returns-in_err-ask_constants-clause-err
returns-in_err-ask_constants-clause-err c =
    let p = err_from_is_err_and c.from_residual-in_err-ask_constants.result c.from_residual-in_err-ask_constants.ensures.1 in
    let unknown = rw c.as_slice-terms.ensures at c.in_ok-ask_known.ensures.ok in
    let repeated = rw c.as_slice-terms.ensures at c.in_ok-ask_different.ensures.ok in
    let fault = rw c.as_slice-terms.ensures at c.in_err-ask_constants.ensures.err in
    rw (p.1, p.2) (by_constant c.args.formula.now.terms c.args.ids.now (held_for c.in_ok-table.table) c.in_ok-table.ensures unknown repeated _ fault)

pub returns-clause-ok : goal.returns-clause-ok
returns-clause-ok c =
    let unknown = rw c.as_slice-terms.ensures at c.in_ok-ask_known.ensures.ok in
    let repeated = rw c.as_slice-terms.ensures at c.in_ok-ask_different.ensures.ok in
    let large = rw c.as_slice-terms.ensures at c.in_ok-ask_constants.ensures.ok in
    let shared = rw c.as_slice-terms.ensures at c.share_all.ensures in
    IfOk-weaker c.rates_in.result _ _ (λ rates given. (no_fault c.args.formula.now.terms c.args.ids.now (held_for c.in_ok-table.table) c.in_ok-table.ensures unknown repeated large (held_for c.share_all.new.table) shared given.0, given.1 ∙ rates_are c.args.formula.now.terms c.args.ids.now (held_for c.in_ok-table.table) c.in_ok-table.ensures unknown repeated large (held_for c.share_all.new.table) shared)) c.rates_in.ensures.ok

pub returns-clause-err : goal.returns-clause-err
returns-clause-err c =
    let unknown = rw c.as_slice-terms.ensures at c.in_ok-ask_known.ensures.ok in
    let repeated = rw c.as_slice-terms.ensures at c.in_ok-ask_different.ensures.ok in
    let large = rw c.as_slice-terms.ensures at c.in_ok-ask_constants.ensures.ok in
    let shared = rw c.as_slice-terms.ensures at c.share_all.ensures in
    IfErr-weaker c.rates_in.result _ _ (λ fault first. by_conflict c.args.formula.now.terms c.args.ids.now (held_for c.in_ok-table.table) c.in_ok-table.ensures unknown repeated large (held_for c.share_all.new.table) shared fault first) c.rates_in.ensures.err
