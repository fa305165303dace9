use Rattle.std.proofs.Common.{ℕ, List, ap, ap₂, ◌∙◌}
use Rattle.merlin_model.specs.declared.policy.Pred.{Pred}
use Rattle.negotiator.specs.declared.contacts.Contact.{Contact}
use Rattle.negotiator.specs.Contacts.{first_holding}
use Rattle.negotiator.proofs.Finding.{first-is}
use Rattle.negotiator.proofs.contacts.contact_of.Goals as goal

pub returns : goal.returns
returns c =
    let of_child = c.first_holding.ensures ∙ (ap (λ (ps : List Pred). first_holding ps c.args.packet.now) c.preds.ensures ∙ first-is c.args.case.now.child.now.policy.statements c.args.packet.now) in
    let of_parent = c.first_holding-2.ensures ∙ (ap (λ (ps : List Pred). first_holding ps c.args.packet.now) c.preds-2.ensures ∙ first-is c.args.case.now.parent.now.policy.statements c.args.packet.now) in
    ap₂ (λ (x y : ℕ). let contact : Contact = record { child = x; parent = y } in contact) of_child of_parent
