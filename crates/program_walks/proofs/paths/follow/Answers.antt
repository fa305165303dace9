use Rattle.std.proofs.Common.{arith}
use Rattle.program_walks.proofs.Going.{goes-step, goes-ends, goes-full}
use Rattle.program_walks.proofs.paths.follow.Goals.{else-loop-step-test, then-loop-step-test+in_default}
use Rattle.program_walks.proofs.paths.follow.Goals as goal

pub loop-step-preserved : goal.loop-step-preserved
loop-step-preserved c = λ ks way.
    goes-step c.args.variables.now c.args.numbers.now c.args.next.now c.loop-step.vertex c.loop-step.path c.push.new.self c.loop-step._step ks (c.in-Some.number, c.in-Some.to) (c.loop-step.invariant ks way) c.in-Some.ensures c.in_ok-push.ensures.ok

pub returns : goal.returns
returns c = λ ks way. elim c.loop-step-test.branch [
  | else-loop-step-test w ↦ let g = c.loop-step.invariant ks way in let f = way.few in let e = w.loop-step-test.false in goes-full c.args.variables.now c.args.numbers.now c.args.next.now c.loop-step.vertex c.loop-step.path c.loop-step._step ks g (omega arith)
  | then-loop-step-test+in_default w ↦ goes-ends c.args.variables.now c.args.numbers.now c.args.next.now c.loop-step.vertex c.loop-step.path c.loop-step._step ks (c.loop-step.invariant ks way) w.in_default.ensures
]
