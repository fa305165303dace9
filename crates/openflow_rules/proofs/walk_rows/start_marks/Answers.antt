use Rattle.std.proofs.Common.{◌≡◌, ◌<◌, ℕ, List, true, length, map, take, get_or, sym, ◌∙◌, ap, subst}
use Rattle.std.specs.Prelude.{slice_set}
use Rattle.product_graph.specs.declared.span.Vertex.{Vertex as ListedVertex}
use Rattle.product_graph.proofs.Lists.{all-at}
use Rattle.openflow_rules.specs.Sources.{listed_loc, AreMarkedAmong}
use Rattle.openflow_rules.proofs.Steps.{mapped-next}
use Rattle.openflow_rules.proofs.WalkStarts.{marks-next}
use Rattle.openflow_rules.proofs.walk_rows.start_marks.Goals as goal

pub loop-start-preserved : goal.loop-start-preserved
loop-start-preserved c =
    let vertices : List ListedVertex = c.vertices-vertices.result.now in
    let starts : List ℕ = c.starts-starts.result.now in
    let i : ℕ = c.loop-start.start-index in
    let lt : i < length starts = c.loop-start-test.true in
    let place : ℕ = get_or starts i 0 in
    let within = all-at (λ k. (k < length c.args.product.now.vertices) × (listed_loc c.args.product.now.vertices k < c.args.locations)) c.args.product.now.starts i 0
    (subst (λ (l : List ℕ). i < length l) c.starts-starts.ensures lt) c.requires in
    let same : listed_loc c.args.product.now.vertices (get_or c.args.product.now.starts i 0) ≡ listed_loc vertices place =
    sym (ap (λ (vs : List ListedVertex). listed_loc vs (get_or starts i 0)) c.vertices-vertices.ensures ∙ ap (λ (l : List ℕ). listed_loc c.args.product.now.vertices (get_or l i 0)) c.starts-starts.ensures) in
    subst (λ (l : List ℕ). AreMarkedAmong c.args.locations l c.set.new.self) (sym (mapped-next (listed_loc vertices) starts i 0 lt))
    (marks-next c.args.locations (map (listed_loc vertices) (take i starts)) (listed_loc vertices place) c.loop-start.marks c.set.new.self (subst (λ n. n < c.args.locations) same within.1) c.loop-start.invariant
    (c.set.ensures ∙ ap (λ (n : ℕ). slice_set c.loop-start.marks n true) c.loc_at.ensures))
