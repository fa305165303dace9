use Rattle.std.proofs.Common.{◌≡◌, sym, ◌∙◌, arith}
use Rattle.merlin_model.specs.Packets.{source_of, destination_of}
use Rattle.negotiator.proofs.Finding.{no-pair, no-address}
use Rattle.negotiator.proofs.contacts.note_pair.Goals as goal

pub returns-then-src-dst : goal.returns-then-src-dst
returns-then-src-dst c =
    let test = c.if-src-dst.true in
    let same : c.args.src ≡ c.args.dst = grind (arith, test) in
    no-pair c.args.case.now.net.now c.args.case.now.parent.now.policy c.args.case.now.child.now.policy c.args.src c.args.dst (λ p h. h.differ same) c.args.found.now

pub returns-in_default : goal.returns-in_default
returns-in_default c = no-pair c.args.case.now.net.now c.args.case.now.parent.now.policy c.args.case.now.child.now.policy c.args.src c.args.dst (λ p h. no-address (source_of p) (sym c.in_default.is ∙ (c.host.ensures ∙ h.source))) c.args.found.now

pub returns-in_default-host : goal.returns-in_default-host
returns-in_default-host c = no-pair c.args.case.now.net.now c.args.case.now.parent.now.policy c.args.case.now.child.now.policy c.args.src c.args.dst (λ p h. no-address (destination_of p) (sym c.in_default-host.is ∙ (c.host-2.ensures ∙ h.destination))) c.args.found.now
