use Rattle.policy_check.proofs.Forms.{found-form, known-form, added-form}
use Rattle.policy_check.proofs.automata.number_with.Goals as goal

pub returns-in-Some-clause-ok : goal.returns-in-Some-clause-ok
returns-in-Some-clause-ok c =
    λ paths path is shared.
    known-form c.args.symbols.now paths path c.args.form is c.args.automata.now shared c.in-Some.number
    (found-form c.as_slice.result.now c.args.automata.now.forms c.args.form c.in-Some.number c.as_slice.ensures c.in-Some.ensures)

pub returns-in-None-clause-ok : goal.returns-in-None-clause-ok
returns-in-None-clause-ok c =
    added-form c.args.symbols.now c.args.form c.args.automata.now c.add_form.new.automata c.add_form.result c.add_form.ensures.number c.add_form.ensures.forms c.add_form.ensures.numbers c.add_form.ensures.built
