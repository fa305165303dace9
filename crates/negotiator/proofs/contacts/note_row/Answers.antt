use Rattle.std.proofs.Common.{ℕ, ◌≡◌, [], length, subst, arith}
use Rattle.negotiator.specs.Contacts.{IsFoundUpTo}
use Rattle.negotiator.proofs.Finding.{next-row}
use Rattle.negotiator.proofs.contacts.note_row.Goals as goal

pub returns : goal.returns
returns c was =
    let past = c.loop-dst-test.false in
    let within = c.loop-dst.auto.dst-end in
    let count = c.locations-dst-end.ensures.count in
    let end : c.loop-dst.dst ≡ length c.args.case.now.net.now.locations = omega arith in
    next-row c.args.case.now.net.now c.args.case.now.parent.now.policy c.args.case.now.child.now.policy c.args.src c.loop-dst.found (subst (λ (n : ℕ). IsFoundUpTo c.args.case.now.net.now c.args.case.now.parent.now.policy c.args.case.now.child.now.policy c.args.src n [] c.loop-dst.found) end (c.loop-dst.invariant was))
