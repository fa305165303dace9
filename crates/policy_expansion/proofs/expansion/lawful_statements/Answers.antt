use Rattle.std.proofs.Common.{List, [], subst}
use Rattle.std.proofs.lemmas.Result.{err_from_is_err_and}
use Rattle.policy_grammar.specs.declared.written.WrittenStatement.{WrittenStatement}
use Rattle.policy_grammar.specs.declared.written.WrittenPolicy.{WrittenPolicy}
use Rattle.policy_expansion.specs.WrittenOut.{without_formula}
use Rattle.policy_expansion.specs.Adding.{Adds}
use Rattle.policy_expansion.specs.Tables.{under}
use Rattle.policy_expansion.proofs.Ordered.{by_names, by_count, by_ids, no_fault, as_statements}
use Rattle.policy_expansion.proofs.expansion.lawful_statements.Goals as goal

pub returns-in_err-ask_names-clause-err : goal.returns-in_err-ask_names-clause-err
returns-in_err-ask_names-clause-err c =
    let w : WrittenPolicy = without_formula c.args.sets.now c.args.items c.args.default_path.now in
    let sets = c.in_ok-known.ensures.ok in
    let names = rw c.as_slice-list.ensures at c.in_err-ask_names.ensures.err in
    let p = err_from_is_err_and c.from_residual-in_err-ask_names.result c.from_residual-in_err-ask_names.ensures.1 in
    rw (p.1, p.2) (by_names w (under c.in_ok-known.known) sets.0 _ sets.1 c.in_ok-ask_kinds.ensures.ok names)

pub returns-in_err-ask_count-clause-err : goal.returns-in_err-ask_count-clause-err
returns-in_err-ask_count-clause-err c =
    let w : WrittenPolicy = without_formula c.args.sets.now c.args.items c.args.default_path.now in
    let sets = c.in_ok-known.ensures.ok in
    let names = rw c.as_slice-list.ensures at c.in_ok-ask_names.ensures.ok in
    let count = rw c.as_slice-list.ensures at c.in_err-ask_count.ensures.err in
    let p = err_from_is_err_and c.from_residual-in_err-ask_count.result c.from_residual-in_err-ask_count.ensures.1 in
    rw (p.1, p.2) (by_count w (under c.in_ok-known.known) sets.0 sets.1 c.in_ok-ask_kinds.ensures.ok names _ count)

pub returns-in_err-ask_ids-clause-err : goal.returns-in_err-ask_ids-clause-err
returns-in_err-ask_ids-clause-err c =
    let w : WrittenPolicy = without_formula c.args.sets.now c.args.items c.args.default_path.now in
    let sets = c.in_ok-known.ensures.ok in
    let names = rw c.as_slice-list.ensures at c.in_ok-ask_names.ensures.ok in
    let count = rw c.as_slice-list.ensures at c.in_ok-ask_count.ensures.ok in
    let ids = rw c.as_slice.ensures at c.in_err-ask_ids.ensures.err in
    let p = err_from_is_err_and c.from_residual-in_err-ask_ids.result c.from_residual-in_err-ask_ids.ensures.1 in
    rw (p.1, p.2) (by_ids w (under c.in_ok-known.known) sets.0 sets.1 c.in_ok-ask_kinds.ensures.ok names count c.in_ok-whole.whole.statements c.in_ok-whole.ensures.statements _ ids)

pub returns-clause-ok : goal.returns-clause-ok
returns-clause-ok c =
    let w : WrittenPolicy = without_formula c.args.sets.now c.args.items c.args.default_path.now in
    let sets = c.in_ok-known.ensures.ok in
    let names = rw c.as_slice-list.ensures at c.in_ok-ask_names.ensures.ok in
    let count = rw c.as_slice-list.ensures at c.in_ok-ask_count.ensures.ok in
    let ids = rw c.as_slice.ensures at c.in_ok-ask_ids.ensures.ok in (
      no_fault w (under c.in_ok-known.known) sets.0 sets.1 c.in_ok-ask_kinds.ensures.ok names count c.in_ok-whole.whole.statements c.in_ok-whole.ensures.statements ids,
      subst (λ (xs : List WrittenStatement). Adds (record { statements = []; terms = [] }) c.in_ok-whole.whole xs) (as_statements w (under c.in_ok-known.known) sets.0) c.in_ok-whole.ensures,
    )
