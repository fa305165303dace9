use Rattle.std.proofs.Common.{◌≡◌, ◌∙◌, true, not, get_or, sym, ap, add-one, drop-cons}
use Rattle.merlin_model.specs.declared.config.HostLine.TheVariants.{Root}
use Rattle.merlin_model.specs.Machine.{class_of, leaves}
use Rattle.packet_trace.proofs.Reading.{read_on}
use Rattle.packet_trace.proofs.hosts.class_by.Goals as goal

pub loop-line-preserved : goal.loop-line-preserved
loop-line-preserved c =
    let x = get_or c.args.lines.now c.loop-line.line-index (Root 0) in
    let stays : not (leaves c.args.host c.args.packet.now (get_or c.args.lines.now c.loop-line.line-index (Root 0))) ≡ true = ap not (sym c.leaves.ensures ∙ c.if-leaves.false) in
    let here = rw (drop-cons c.args.lines.now c.loop-line.line-index (Root 0) c.loop-line-test.true) at c.loop-line.invariant in
    rw (add-one, c.or-class.ensures, c.class_of.ensures)
    (here ∙ read_on (λ line. not (leaves c.args.host c.args.packet.now line)) (class_of c.args.host c.args.packet.now) c.loop-line.class x _ stays)
