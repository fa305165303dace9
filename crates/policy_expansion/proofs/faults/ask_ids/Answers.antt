use Rattle.std.proofs.Common.{ap, sym, ◌∙◌, length, ◌≤◌, Some, arith}
use Rattle.std.specs.Option.{option_map}
use Rattle.policy_expansion.specs.declared.policy.ExpansionFault.TheVariants.{DuplicateId}
use Rattle.policy_expansion.specs.Tables.{is_met}
use Rattle.policy_expansion.proofs.Places.{from_not_true, from_not_false}
use Rattle.policy_expansion.proofs.Repeated.{first_here, clear_past, no_repeat}
use Rattle.policy_expansion.proofs.Tabled.{met_more}
use Rattle.policy_expansion.proofs.faults.ask_ids.Goals as goal

pub returns-then-not-branch-clause-err : goal.returns-then-not-branch-clause-err
returns-then-not-branch-clause-err c =
    let x = c.statement-item.result in
    let met = ap (is_met c.loop-statement.met) (sym c.bytes.ensures) ∙ from_not_false _ _ c.in_ok-insert.ensures.added c.if-not-branch.true in
    let first = first_here (λ s. s.id) c.args.statements.now c.loop-statement.statement-index x c.loop-statement-test.true c.statement-item.is c.loop-statement.invariant.clear (sym (c.loop-statement.invariant.met x.id) ∙ met) in
    ap (option_map DuplicateId) first ∙ ap (λ id. Some (DuplicateId id)) (sym c.in_ok-id.ensures)

pub loop-statement-preserved : goal.loop-statement-preserved
loop-statement-preserved c =
    let x = c.statement-item.result in
    let not_met = ap (is_met c.loop-statement.met) (sym c.bytes.ensures) ∙ from_not_true _ _ c.in_ok-insert.ensures.added c.if-not-branch.false in
    record {
      met = met_more (λ s. s.id) c.args.statements.now c.loop-statement.statement-index x c.loop-statement-test.true c.statement-item.is c.loop-statement.met c.insert.new.self c.loop-statement.invariant.met c.bytes.result.now c.bytes.ensures c.in_ok-insert.ensures.updates;
      clear = clear_past (λ s. s.id) c.args.statements.now c.loop-statement.statement-index x c.loop-statement-test.true c.statement-item.is c.loop-statement.invariant.clear (sym (c.loop-statement.invariant.met x.id) ∙ not_met);
    }

pub returns-clause-ok : goal.returns-clause-ok
returns-clause-ok c =
    let past : length c.args.statements.now ≤ c.loop-statement.statement-index = omega arith in
    ap (option_map DuplicateId) (no_repeat (λ s. s.id) c.args.statements.now c.loop-statement.statement-index past c.loop-statement.invariant.clear)
