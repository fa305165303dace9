use Rattle.std.proofs.Common.{ℕ, List, Bool, Option, length, ◌∙◌, ap, subst, arith}
use Rattle.merlin_model.specs.Rates.{amount_of}
use Rattle.refinement_model.specs.Refinement.{IsAtMost, sum_of_caps}
use Rattle.negotiator.specs.Marks.{marked}
use Rattle.negotiator.proofs.asking.ask_cap.Goals as goal

pub sum_of_caps-sum-requires : goal.sum_of_caps-sum-requires
sum_of_caps-sum-requires c =
    let few = c.statements-sound.ensures.sound.few in
    let size = c.in_ok-touched.ensures.size in
    let same = ap length c.deref.ensures.value in
    omega (arith, few, size, same)

pub returns-then-is_at_most-clause-ok : goal.returns-then-is_at_most-clause-ok
returns-then-is_at_most-clause-ok c net are bound =
    let most = c.is_at_most.ensures.0 c.if-is_at_most.true in
    let sum = c.sum_of_caps-sum.ensures ∙ ap (λ (l : List Bool). sum_of_caps c.args.child.now.policy (marked l)) c.deref.ensures.value in
    let law = c.all_touching_decide.ensures.caps net c.args.parent.now.policy c.args.child.now.policy c.args.term.now (marked c.in_ok-touched.touched.items) (c.in_ok-touched.ensures.touching net are) in
    law.1 (subst (λ (o : Option ℕ). IsAtMost o (amount_of c.args.term.now)) sum (subst (λ (n : ℕ). IsAtMost c.sum_of_caps-sum.result n) c.amount.ensures most))
