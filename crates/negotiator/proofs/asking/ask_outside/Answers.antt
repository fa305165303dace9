use Rattle.std.proofs.Common.{◌≡◌, ◌<◌, ◌≤◌, ℕ, Bool, true, false, nat_lt, length, refl, sym, subst, arith}
use Rattle.std.proofs.lemmas.Bool.{ltb-false}
use Rattle.std.proofs.lemmas.Bool.Decides.{Decides-ltb}
use Rattle.negotiator.specs.Amounts.{IsWithinReserves}
use Rattle.negotiator.specs.Marks.{AreMarks, AreUnreserved}
use Rattle.negotiator.proofs.InOrder.{one-later}
use Rattle.negotiator.proofs.MarkedPlaces.{marked-here, past-unmarked, is-outside, unmarked-within}
use Rattle.negotiator.proofs.asking.ask_outside.Goals.{else-is_outside-via-then-is_outside+else-sum-gt0, else-is_outside-via-else-is_outside}
use Rattle.negotiator.proofs.asking.ask_outside.Goals as goal

pub returns-then-sum-gt0-clause-err : goal.returns-then-sum-gt0-clause-err
returns-then-sum-gt0-clause-err c net are =
    let free = subst (AreUnreserved c.args.parent.now.policy) (sym c.deref.ensures.value) c.in_ok-unreserved.ensures in
    let marks = subst (AreMarks c.args.contacts.now c.deref.result.now c.statements.result) (sym c.deref-is_outside-items.ensures.value) c.in_ok-outside.ensures in
    let here = marked-here c.deref-is_outside-items.result.now c.loop-statement.statement _ true c.loop-statement-test.true c.if-is_outside.true in
    let guaranteed = subst (λ (n : ℕ). 0 < n) c.guarantee_of-sum.ensures.is c.if-sum-gt0.true in
    record {
      statement = c.loop-statement.statement;
      outside = is-outside net c.args.parent.now.policy c.args.child.now.policy c.args.contacts.now are c.requires.within c.deref.result.now c.deref-is_outside-items.result.now c.statements.result free marks c.loop-statement.statement here guaranteed;
      sum_is = c.guarantee_of-sum.ensures.is;
      before = c.loop-statement.invariant net are;
    }

pub loop-statement-preserved : goal.loop-statement-preserved
loop-statement-preserved c net are =
    let free = subst (AreUnreserved c.args.parent.now.policy) (sym c.deref.ensures.value) c.in_ok-unreserved.ensures in
    let marks = subst (AreMarks c.args.contacts.now c.deref.result.now c.statements.result) (sym c.deref-is_outside-items.ensures.value) c.in_ok-outside.ensures in
    one-later (IsWithinReserves net c.args.parent.now.policy c.args.child.now.policy) c.loop-statement.statement (c.loop-statement.invariant net are)
    (elim c.else-is_outside.branch [
      | else-is_outside-via-then-is_outside+else-sum-gt0 w ↦ λ guaranteed j touches.
          let zero = w.if-sum-gt0.false in
          let is = c.guarantee_of-sum.ensures.is in
          absurd (omega (arith, zero, is, guaranteed))
      | else-is_outside-via-else-is_outside w ↦
          unmarked-within net c.args.parent.now.policy c.args.child.now.policy c.args.contacts.now are c.requires.within c.deref.result.now c.deref-is_outside-items.result.now c.statements.result free marks c.loop-statement.statement
          (marked-here c.deref-is_outside-items.result.now c.loop-statement.statement _ false c.loop-statement-test.true w.if-is_outside.false)
    ])

pub returns-clause-ok : goal.returns-clause-ok
returns-clause-ok c net are i = by (nat_lt i c.loop-statement.statement) refl
  where
    by : (b : Bool) → nat_lt i c.loop-statement.statement ≡ b → IsWithinReserves net c.args.parent.now.policy c.args.child.now.policy i
    by true e = c.loop-statement.invariant net are i ((Decides-ltb i c.loop-statement.statement).0 e)
    by false e =
        let free = subst (AreUnreserved c.args.parent.now.policy) (sym c.deref.ensures.value) c.in_ok-unreserved.ensures in
        let marks = subst (AreMarks c.args.contacts.now c.deref.result.now c.statements.result) (sym c.deref-is_outside-items.ensures.value) c.in_ok-outside.ensures in
        let past : length c.deref-is_outside-items.result.now ≤ i = (let test = c.loop-statement-test.false in let over = ltb-false i c.loop-statement.statement e in omega (arith, test, over)) in
        unmarked-within net c.args.parent.now.policy c.args.child.now.policy c.args.contacts.now are c.requires.within c.deref.result.now c.deref-is_outside-items.result.now c.statements.result free marks i (past-unmarked c.deref-is_outside-items.result.now i past)
