use Rattle.std.proofs.Common.{ℕ, ◌≡◌, [], length, subst, arith}
use Rattle.negotiator.specs.Contacts.{IsFoundUpTo}
use Rattle.negotiator.proofs.Finding.{all-rows}
use Rattle.negotiator.proofs.contacts.note_all.Goals as goal

pub returns : goal.returns
returns c was =
    let past = c.loop-src-test.false in
    let within = c.loop-src.auto.src-end in
    let count = c.locations-src-end.ensures.count in
    let end : c.loop-src.src ≡ length c.args.case.now.net.now.locations = omega arith in
    all-rows c.args.case.now.net.now c.args.case.now.parent.now.policy c.args.case.now.child.now.policy c.loop-src.found (subst (λ (n : ℕ). IsFoundUpTo c.args.case.now.net.now c.args.case.now.parent.now.policy c.args.case.now.child.now.policy n 0 [] c.loop-src.found) end (c.loop-src.invariant was))
