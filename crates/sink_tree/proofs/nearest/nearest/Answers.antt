use Rattle.std.proofs.Common.{◌<◌, [], ℕ, List, length, take, get_or, sym, subst, arith}
use Rattle.sink_tree.proofs.Choosing.{IsChoosing, chosen, choosing-none, take-next, take-all, all-at}
use Rattle.sink_tree.proofs.nearest.nearest.Goals as goal

pub loop-edge-init : goal.loop-edge-init
loop-edge-init c = subst (IsChoosing c.args.distance.now []) (sym c.in_ok-next.ensures) (choosing-none c.args.distance.now)

pub choose-requires : goal.choose-requires
choose-requires c =
    let ends = all-at (λ (e : ℕ × ℕ). (e.0 < length c.args.distance.now) × (e.1 < length c.args.distance.now)) c.args.edges.now c.loop-edge.edge-index (0, 0) c.loop-edge-test.true c.requires in
    let size = c.loop-edge.invariant.size in
    let from = ends.0 in
    record { from = omega (arith, from, size); to = ends.1; known = c.loop-edge.invariant.below (get_or c.args.edges.now c.loop-edge.edge-index (0, 0)).0 }

pub loop-edge-preserved : goal.loop-edge-preserved
loop-edge-preserved c =
    let edges : List (ℕ × ℕ) = c.args.edges.now in
    let e : ℕ × ℕ = get_or edges c.loop-edge.edge-index (0, 0) in
    let ends = all-at (λ (x : ℕ × ℕ). (x.0 < length c.args.distance.now) × (x.1 < length c.args.distance.now)) edges c.loop-edge.edge-index (0, 0) c.loop-edge-test.true c.requires in
    subst (λ (done : List (ℕ × ℕ)). IsChoosing c.args.distance.now done c.choose.new.next) (sym (take-next edges c.loop-edge.edge-index (0, 0) c.loop-edge-test.true))
    (chosen c.args.distance.now (take c.loop-edge.edge-index edges) e.0 e.1 c.loop-edge.next c.choose.new.next ends.0 ends.1 c.choose.ensures c.loop-edge.invariant)

pub returns : goal.returns
returns c =
    let whole : IsChoosing c.args.distance.now c.args.edges.now c.loop-edge.next = subst (λ (done : List (ℕ × ℕ)). IsChoosing c.args.distance.now done c.loop-edge.next) (take-all c.args.edges.now c.loop-edge.edge-index c.loop-edge-test.false) c.loop-edge.invariant in
    record { size = whole.size; each = whole.each }
