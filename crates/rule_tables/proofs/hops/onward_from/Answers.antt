use Rattle.rule_tables.proofs.Going.{going-start, going-more, going-over, onward-is}
use Rattle.rule_tables.proofs.hops.onward_from.Goals.{else-loop-step-test, then-loop-step-test+in_ok-add_function+in_default}
use Rattle.rule_tables.proofs.hops.onward_from.Goals as goal

pub loop-step-init : goal.loop-step-init
loop-step-init c = going-start c.args.steps.now c.args.start c.args.loc _ c.new-functions.ensures

pub loop-step-preserved : goal.loop-step-preserved
loop-step-preserved c = λ v us stands leads here.
    going-more c.args.steps.now c.args.loc v us c.loop-step.place c.loop-step._step c.loop-step.functions (c.loop-step.invariant v us stands leads here) _ c.in_ok-add_function.ensures c.in-Some.next c.in-Some.ensures.some.0 c.in-Some.ensures.some.1

pub returns : goal.returns
returns c = λ v us stands leads here.
    let going = c.loop-step.invariant v us stands leads here in
    elim c.loop-step-test.branch [
      | else-loop-step-test w ↦ absurd (going-over c.args.steps.now c.args.loc v us c.loop-step.place c.loop-step._step c.loop-step.functions going c.args.start leads w.loop-step-test.false)
      | then-loop-step-test+in_ok-add_function+in_default w ↦
          onward-is c.args.steps.now c.args.loc v us c.loop-step.place c.loop-step._step c.loop-step.functions going _ w.in_ok-add_function.ensures here (record { functions = c.loop-step-test.functions; next = c.next_of.result }) w.functions-is c.next_of.ensures w.in_default.ensures.none
    ]
