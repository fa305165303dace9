use Rattle.std.proofs.Common.{◌≡◌, Some, subst}
use Rattle.std.proofs.lemmas.Result.{IfOk-weaker}
use Rattle.merlin_model.specs.Policies.{match_of}
use Rattle.policy_check.specs.Checked.{automaton_of_statement}
use Rattle.negotiator.specs.declared.contacts.Contact.{Contact}
use Rattle.negotiator.proofs.Walking.{read-by, width-of}
use Rattle.negotiator.proofs.Straying.{least-word}
use Rattle.negotiator.proofs.paths.least_word.Goals as goal

pub included-requires-clause-second : goal.included-requires-clause-second
included-requires-clause-second c =
    let j = match_of c.args.case.now.parent.now.policy c.args.wide.now.packet in
    let stands = subst (λ (k : Contact). automaton_of_statement c.args.case.now.parent.now k.parent ≡ Some c.automaton-other.result.now) c.contact_of-contact.ensures c.automaton-other.ensures in
    let q = read-by c.args.case.now.symbols.now c.args.case.now.parent.now c.requires.case.parent j (c.statements-2.ensures.sound.total c.args.wide.now.packet c.requires.wide.is_packet) c.automaton-other.result.now stands in
    width-of c.args.case.now.symbols.now c.args.case.now.parent.now.policy j c.automaton-other.result.now q

pub returns : goal.returns
returns c =
    let i = match_of c.args.case.now.child.now.policy c.args.wide.now.packet in
    let j = match_of c.args.case.now.parent.now.policy c.args.wide.now.packet in
    let here = subst (λ (k : Contact). automaton_of_statement c.args.case.now.child.now k.child ≡ Some c.automaton-path.result.now) c.contact_of-contact.ensures c.automaton-path.ensures in
    let there = subst (λ (k : Contact). automaton_of_statement c.args.case.now.parent.now k.parent ≡ Some c.automaton-other.result.now) c.contact_of-contact.ensures c.automaton-other.ensures in
    let r = read-by c.args.case.now.symbols.now c.args.case.now.child.now c.requires.case.child i (c.statements.ensures.sound.total c.args.wide.now.packet c.requires.wide.is_packet) c.automaton-path.result.now here in
    let q = read-by c.args.case.now.symbols.now c.args.case.now.parent.now c.requires.case.parent j (c.statements-2.ensures.sound.total c.args.wide.now.packet c.requires.wide.is_packet) c.automaton-other.result.now there in
    IfOk-weaker c.included.result _ _ (λ word answer. least-word c.args.case.now.net.now c.args.case.now.parent.now.policy c.args.case.now.child.now.policy c.locations-lawful.ensures.lawful.lawful c.args.case.now.symbols.now c.requires.case.symbols
    c.args.wide.now.src c.args.wide.now.dst c.args.wide.now.packet c.requires.wide c.automaton-path.result.now c.automaton-other.result.now r q word answer) c.included.ensures
