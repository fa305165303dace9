use Rattle.std.proofs.Common.{ℕ, ◌≤◌, List, Bool, length, sum_by, ◌∙◌, ap, subst, arith}
use Rattle.merlin_model.specs.Rates.{amount_of, min_of}
use Rattle.negotiator.specs.Marks.{marked}
use Rattle.negotiator.proofs.asking.ask_reserve.Goals as goal

pub sum_of_guarantees-sum-requires : goal.sum_of_guarantees-sum-requires
sum_of_guarantees-sum-requires c =
    let few = c.statements-sound.ensures.sound.few in
    let size = c.in_ok-touched.ensures.size in
    let same = ap length c.deref.ensures.value in
    omega (arith, few, size, same)

pub returns-then-sum-amount-clause-ok : goal.returns-then-sum-amount-clause-ok
returns-then-sum-amount-clause-ok c net are bound =
    let sum = c.sum_of_guarantees-sum.ensures ∙ ap (λ (l : List Bool). sum_by (min_of c.args.child.now.policy) (marked l)) c.deref.ensures.value in
    let law = c.all_touching_decide.ensures.reserves net c.args.parent.now.policy c.args.child.now.policy c.args.term.now (marked c.in_ok-touched.touched.items) (c.in_ok-touched.ensures.touching net are) in
    law.1 (subst (λ (n : ℕ). n ≤ amount_of c.args.term.now) sum (subst (λ (n : ℕ). c.sum_of_guarantees-sum.result ≤ n) c.amount.ensures c.if-sum-amount.true))
