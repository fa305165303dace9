use Rattle.std.proofs.lemmas.List.{length-map}
use Rattle.std.proofs.Common.{◌≡◌, ◌<◌, ◌≤◌, ◌+◌, ◌∙◌, length, map, sym, ap, subst, arith, length-append}
use Rattle.merlin_model.specs.Machine.{start}
use Rattle.packet_trace.specs.declared.trace.TheConstants.{MAX_HOPS}
use Rattle.packet_trace.specs.Fitting.{frame, frame_of}
use Rattle.packet_trace.specs.Steps.{functions_by_line}
use Rattle.packet_trace.specs.Trace.{record_of}
use Rattle.packet_trace.proofs.Hops.{hop_by, host_located, leaves_for, starts, went_on, delivered, dropped}
use Rattle.packet_trace.proofs.tracer.Tracer.trace.Goals as goal

pub hops-init : goal.hops-init
hops-init g c = record {
  reaches = starts c.args.self.now.net.now c.args.self.now.config.now _ (start c.args.host c.args.packet) c.new-visits.result c.new-visits.ensures;
  located = host_located c.args.self.now.net.now c.args.host c.requires.host;
  few = subst (λ vs. length vs ≤ 65536) (sym c.new-visits.ensures) (omega arith);
}

pub next_move-requires : goal.next_move-requires
next_move-requires g c = c.hops.invariant.located

pub returns-in-Arrives : goal.returns-in-Arrives
returns-in-Arrives g c =
    let few : length c.hops.visits < 65536 = omega (arith, c.len.ensures, c.hops-test.true) in
    delivered c.args.self.now.net.now c.args.self.now.config.now _ c.hops.visits (start c.args.host c.args.packet) (frame_of c.hops.frame) c.hops.invariant.reaches few c.in-Arrives.host c.in-Arrives.packet c.in-Arrives.ensures

pub returns-in-Drops : goal.returns-in-Drops
returns-in-Drops g c =
    let few : length c.hops.visits < 65536 = omega (arith, c.len.ensures, c.hops-test.true) in
    dropped c.args.self.now.net.now c.args.self.now.config.now _ c.hops.visits (start c.args.host c.args.packet) (frame_of c.hops.frame) c.hops.invariant.reaches few c.in-Drops.loc c.in-Drops.ensures

pub hops-smaller : goal.hops-smaller
hops-smaller g c =
    let count : length c.push_visit.new.visits ≡ length c.hops.visits + 1 = ap length c.in_ok-push_visit-in-Leaves.ensures ∙ simp length-append in
    omega (arith, count, c.len.ensures, c.hops-test.true)

pub hops-preserved : goal.hops-preserved
hops-preserved g c =
    let net = c.args.self.now.net.now in
    let config = c.args.self.now.config.now in
    let ran = c.functions_by_line-functions.ensures ∙ ap (λ lines. functions_by_line lines c.in-Leaves.left.process) c.as_slice.ensures in
    let hop = hop_by net config _ (frame_of c.hops.frame) c.in-Leaves.to c.in-Leaves.port c.in-Leaves.tag c.in-Leaves.left c.functions_by_line-functions.result.now c.after_functions.result c.in-Leaves.ensures ran c.after_functions.ensures in
    let count : length c.push_visit.new.visits ≡ length c.hops.visits + 1 = ap length c.in_ok-push_visit-in-Leaves.ensures ∙ simp length-append in
    record {
      reaches =
          went_on net config _ c.hops.visits c.push_visit.new.visits c.functions_by_line-functions.result.now (start c.args.host c.args.packet) (frame_of c.hops.frame)
          (frame c.in-Leaves.to c.in-Leaves.port c.in-Leaves.tag c.after_functions.result) c.in-Leaves.left ran c.in_ok-push_visit-in-Leaves.ensures c.hops.invariant.reaches hop;
      located = leaves_for net config c.locations-locations.ensures.lawful.lawful (frame_of c.hops.frame) c.in-Leaves.to c.in-Leaves.port c.in-Leaves.tag c.in-Leaves.left c.in-Leaves.ensures;
      few = omega (arith, count, c.len.ensures, c.hops-test.true);
    }

pub returns : goal.returns
returns g c =
    let all : length (map record_of c.hops.visits) ≡ MAX_HOPS = omega (arith, length-map c.hops.visits record_of, c.hops.invariant.few, c.len.ensures, c.hops-test.false) in
    (c.new.ensures, record { visits = map record_of c.hops.visits; last = frame_of c.hops.frame; reaches = c.hops.invariant.reaches; many = all })
