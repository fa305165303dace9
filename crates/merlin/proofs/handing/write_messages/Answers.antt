use Rattle.std.proofs.Common.{◌≡◌, ◌==◌, true, false, refl, le_trans, arith}
use Rattle.std.proofs.lemmas.Result.{err_from_is_err_and}
use Rattle.merlin.proofs.BodyLines.{one_handed, one_broken, passed_over}
use Rattle.merlin.proofs.handing.write_messages.Goals.{then-rule-switch+in_ok-write_message, else-rule-switch}
use Rattle.merlin.proofs.handing.write_messages.Goals as goal

pub returns-in_err-write_message-clause-err : goal.returns-in_err-write_message-clause-err
returns-in_err-write_message-clause-err g c =
    let p = err_from_is_err_and c.from_residual.result c.from_residual.ensures.1 in
    let here : (c.rule-item.result.loc == c.args.switch) ≡ true = (let t = c.if-rule-switch.true in grind arith) in
    rw p.1 (one_broken _ _ _ c.args.switch c.args.rules.now c.loop-rule.rule-index c.loop-rule.number c.rule-item.result c.loop-rule-test.true c.rule-item.is c.loop-rule.invariant.0 here c.in_err-write_message.ensures.err)

pub loop-rule-preserved : goal.loop-rule-preserved
loop-rule-preserved g c =
    elim c.if-rule-switch.branch [
      | then-rule-switch+in_ok-write_message w ↦
          let here : (c.rule-item.result.loc == c.args.switch) ≡ true = (let t = w.if-rule-switch.true in grind arith) in
          rw (w.out-is, w.number-is) (
            one_handed _ _ _ c.args.switch c.args.rules.now c.loop-rule.rule-index c.loop-rule.number c.rule-item.result c.loop-rule-test.true c.rule-item.is c.loop-rule.invariant.0 here w.in_ok-write_message.ensures.ok,
            (let few = c.loop-rule.invariant.1 in omega arith),
            le_trans c.loop-rule.invariant.2 w.in_ok-write_message.ensures.later,
          )
      | else-rule-switch w ↦
          let elsewhere : (c.rule-item.result.loc == c.args.switch) ≡ false = (let t = w.if-rule-switch.false in grind arith) in
          rw (w.out-is, w.number-is) (
            passed_over _ _ _ c.args.switch c.args.rules.now c.loop-rule.rule-index c.loop-rule.number c.rule-item.result c.loop-rule-test.true c.rule-item.is c.loop-rule.invariant.0 elsewhere refl,
            (let few = c.loop-rule.invariant.1 in omega arith),
            c.loop-rule.invariant.2,
          )
    ]
