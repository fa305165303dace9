use Rattle.std.proofs.Common.{◌↔◌, ◌≡◌, ◌++◌, ◌∷◌, [], true, cond, subst, ap, ◌∙◌}
use Rattle.negotiator.specs.declared.contacts.Contact.{Contact}
use Rattle.negotiator.specs.Between.{HasWalk, StaysWithin}
use Rattle.negotiator.proofs.Finding.{noted}
use Rattle.negotiator.proofs.contacts.note_packet.Goals as goal

pub returns-clause-found : goal.returns-clause-found
returns-clause-found c packets was =
    let v = c.in_ok-verdict.verdict in
    let at = c.contact_of-contact.ensures in
    let walk = subst (λ (k : Contact). (v.walks ≡ true) ↔ HasWalk c.args.case.now.net.now c.args.case.now.child.now.policy c.args.src c.args.dst k.child) at c.in_ok-verdict.ensures.verdict.walks in
    let stay = subst (λ (k : Contact). (v.stays ≡ true) ↔ StaysWithin c.args.case.now.net.now c.args.case.now.parent.now.policy c.args.case.now.child.now.policy c.args.src c.args.dst k.child k.parent) at c.in_ok-verdict.ensures.verdict.stays in
    let contacts = c.in_ok-note_contact.ensures ∙ ap (λ (k : Contact). c.args.found.now.contacts.items ++ cond v.walks (k ∷ []) []) at in
    noted c.args.case.now.net.now c.args.case.now.parent.now.policy c.args.case.now.child.now.policy c.args.src c.args.dst c.args.packet c.requires.packet c.requires.proper v.walks v.stays walk stay
    c.args.found.now (record { contacts = c.note_contact.new.contacts; wide = c.wide_with-found.result }) contacts c.wide_with-found.ensures packets was
