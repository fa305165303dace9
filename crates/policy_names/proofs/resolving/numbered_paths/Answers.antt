use Rattle.std.proofs.Common.{◌≡◌, ◌≤◌, [], List, length, map, sym, ◌∙◌, ap, arith}
use Rattle.std.proofs.lemmas.List.{take_all}
use Rattle.std.proofs.lemmas.Result.{err_from_is_err_and}
use Rattle.policy_expansion.specs.declared.policy.Statement.{Statement}
use Rattle.policy_names.specs.Names.{meaning_of, name_faults}
use Rattle.policy_names.specs.Meanings.{meaning_in}
use Rattle.policy_names.proofs.Ordered.{refused_at, refused_default}
use Rattle.policy_names.proofs.resolving.numbered_paths.Goals as goal

pub returns-in_err-add_path-clause-err : goal.returns-in_err-add_path-clause-err
returns-in_err-add_path-clause-err c =
    let items = c.as_slice-statement-items.result.now in
    let p = err_from_is_err_and c.from_residual-in_err-add_path.result c.from_residual-in_err-add_path.ensures.1 in
    rw (p.1, p.2) (refused_at c.args.policy.now (meaning_of c.args.net.now) (meaning_in c.in_ok-names.names) c.in_ok-names.ensures items c.as_slice-statement-items.ensures c.loop-statement.statement-index c.statement-item.result c.loop-statement-test.true c.statement-item.is c.loop-statement.invariant.clear _ c.in_err-add_path.ensures.err)

pub returns-in_err-add_default-clause-err : goal.returns-in_err-add_default-clause-err
returns-in_err-add_default-clause-err c =
    let items = c.as_slice-statement-items.result.now in
    let past : length items ≤ c.loop-statement.statement-index = omega arith in
    let clear : name_faults (meaning_in c.in_ok-names.names) (map (λ (s : Statement). s.path) items) ≡ [] =
    ap (λ (l : List Statement). name_faults (meaning_in c.in_ok-names.names) (map (λ s. s.path) l)) (sym (take_all c.loop-statement.statement-index items past)) ∙ c.loop-statement.invariant.clear in
    let p = err_from_is_err_and c.from_residual-in_err-add_default.result c.from_residual-in_err-add_default.ensures.1 in
    rw (p.1, p.2) (refused_default c.args.policy.now (meaning_of c.args.net.now) (meaning_in c.in_ok-names.names) c.in_ok-names.ensures items c.as_slice-statement-items.ensures clear _ c.in_err-add_default.ensures.err)
