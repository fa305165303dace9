use Rattle.std.proofs.Common.{take}
use Rattle.negotiator.specs.Marks.{AreMarks}
use Rattle.negotiator.proofs.marking.marks_of.Given as goal

abbrev pub invariant-loop-contact : goal.invariant-loop-contact
invariant-loop-contact l = AreMarks (take l.contact-index l.contacts) l.chosen l.count l.marks.items
