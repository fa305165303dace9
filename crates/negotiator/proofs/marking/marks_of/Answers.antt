use Rattle.std.proofs.Common.{◌<◌, List, length, take, sym, subst}
use Rattle.std.proofs.lemmas.List.{take_more}
use Rattle.negotiator.specs.declared.contacts.Contact.{Contact}
use Rattle.negotiator.specs.Marks.{AreMarks}
use Rattle.negotiator.proofs.MarkedPlaces.{step-marks, within-at}
use Rattle.negotiator.proofs.marking.marks_of.Goals as goal

pub loop-contact-preserved : goal.loop-contact-preserved
loop-contact-preserved c =
    let within = within-at (λ (k : Contact). (k.child < c.args.count) × (k.parent < length c.args.chosen.now)) c.args.contacts.now c.loop-contact.contact-index _ c.loop-contact-test.true c.requires in
    subst (λ (l : List Contact). AreMarks l c.args.chosen.now c.args.count c.mark_contact.new.marks.items) (sym (take_more c.args.contacts.now c.loop-contact.contact-index _ c.loop-contact-test.true))
    (subst (AreMarks _ c.args.chosen.now c.args.count) (sym c.mark_contact.ensures)
    (step-marks (take c.loop-contact.contact-index c.args.contacts.now) _ c.args.chosen.now c.args.count c.loop-contact.marks.items c.loop-contact.invariant within.0))
