use Rattle.std.proofs.Common.{[]}
use Rattle.negotiator.specs.Contacts.{IsFoundUpTo}
use Rattle.negotiator.proofs.contacts.note_all.Given as goal

abbrev pub invariant-loop-src : goal.invariant-loop-src
invariant-loop-src l = IsFoundUpTo l.case.net.now l.case.parent.now.policy l.case.child.now.policy 0 0 [] l.initial.found → IsFoundUpTo l.case.net.now l.case.parent.now.policy l.case.child.now.policy l.src 0 [] l.found
