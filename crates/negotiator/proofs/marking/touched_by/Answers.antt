use Rattle.std.proofs.Common.{sym, subst}
use Rattle.std.proofs.lemmas.Result.{IfOk-weaker}
use Rattle.negotiator.specs.Marks.{AreBounded}
use Rattle.negotiator.proofs.MarkedPlaces.{touching-by}
use Rattle.negotiator.proofs.marking.touched_by.Goals as goal

pub returns-clause-touching : goal.returns-clause-touching
returns-clause-touching c net are =
    let bounds = subst (AreBounded c.args.parent.now.policy c.args.term.now) (sym c.deref.ensures.value) c.in_ok-bounded.ensures in
    IfOk-weaker c.marks_of.result _ _ (λ marks touched. touching-by net c.args.parent.now.policy c.args.child.now.policy c.args.contacts.now are c.requires c.args.term.now c.deref.result.now marks.items _ bounds touched) c.marks_of.ensures
