use Rattle.std.proofs.Common.{List, Option, MatchOption, sym, subst}
use Rattle.negotiator.specs.declared.contacts.Contact.{Contact}
use Rattle.negotiator.specs.declared.paths.WidePath.{WidePath}
use Rattle.negotiator.specs.Refusals.{RefusesAmounts, RefusesRules}
use Rattle.negotiator.specs.Wider.{AreContacts, IsWidePath, KeepsPaths}
use Rattle.negotiator.proofs.InOrder.{amounts-refused}
use Rattle.negotiator.proofs.Refined.{if-err, rules-ok}
use Rattle.negotiator.proofs.refining.ask_rules.Goals as goal

pub returns-clause-ok : goal.returns-clause-ok
returns-clause-ok c net symbols is =
    let are = subst (λ (cs : List Contact). AreContacts net c.args.parent.now.policy c.args.child.now.policy cs) (sym c.deref.ensures.value) is.touching in
    let paths = subst (λ (o : Option WidePath). MatchOption o (KeepsPaths net c.args.parent.now.policy c.args.child.now.policy) (IsWidePath net c.args.parent.now.policy c.args.child.now.policy symbols)) c.in_default.is is.paths in
    rules-ok net c.args.parent.now.policy c.args.child.now.policy c.ask_amounts.result paths
    (c.ask_amounts.ensures.caps net are) (c.ask_amounts.ensures.reserves net are) (c.ask_amounts.ensures.outside net are)

pub returns-clause-err : goal.returns-clause-err
returns-clause-err c net symbols is =
    let are = subst (λ (cs : List Contact). AreContacts net c.args.parent.now.policy c.args.child.now.policy cs) (sym c.deref.ensures.value) is.touching in
    let paths = subst (λ (o : Option WidePath). MatchOption o (KeepsPaths net c.args.parent.now.policy c.args.child.now.policy) (IsWidePath net c.args.parent.now.policy c.args.child.now.policy symbols)) c.in_default.is is.paths in
    if-err c.ask_amounts.result (RefusesAmounts net c.args.parent.now.policy c.args.child.now.policy) (RefusesRules net c.args.parent.now.policy c.args.child.now.policy symbols)
    (amounts-refused net c.args.parent.now.policy c.args.child.now.policy symbols paths) (c.ask_amounts.ensures.err net are)
