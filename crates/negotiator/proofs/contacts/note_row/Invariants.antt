use Rattle.std.proofs.Common.{[]}
use Rattle.negotiator.specs.Contacts.{IsFoundUpTo}
use Rattle.negotiator.proofs.contacts.note_row.Given as goal

abbrev pub invariant-loop-dst : goal.invariant-loop-dst
invariant-loop-dst l = IsFoundUpTo l.case.net.now l.case.parent.now.policy l.case.child.now.policy l.src 0 [] l.initial.found → IsFoundUpTo l.case.net.now l.case.parent.now.policy l.case.child.now.policy l.src l.dst [] l.found
