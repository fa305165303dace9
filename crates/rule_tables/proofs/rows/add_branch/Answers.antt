use Rattle.std.proofs.Common.{◌<◌, ◌∷◌, [], ℕ, List, None, get_or, take, sym, ◌∙◌, ap, subst}
use Rattle.rules_model.specs.Products.{Vertex}
use Rattle.rule_tables.specs.declared.branches.Step.{Step}
use Rattle.rule_tables.specs.Branches.{vertex_in}
use Rattle.rule_tables.specs.Rows.{Spot, IsRowOrHost, AddsRows, spots_of_branch}
use Rattle.rule_tables.proofs.Spotting.{adds-more, adds-row, adds-host, spots-next, vertex-next}
use Rattle.rule_tables.proofs.rows.add_branch.Goals.{in-Some+in_ok-push, in_default}
use Rattle.rule_tables.proofs.rows.add_branch.Goals as goal

abbrev no_step : Step
no_step = record { vertex = record { symbol = record { loc = 0; fun = None }; state = 0 }; next = None }

pub loop-place-preserved : goal.loop-place-preserved
loop-place-preserved c = λ of ready is queue.
    let net = c.args.net.now in
    let tags = c.args.tags.now in
    let g : ℕ = c.args.group in
    let d : ℕ = c.args.branch.now.dest in
    let i : ℕ = c.loop-place.place in
    let steps : List Step = c.args.branch.now.steps in
    let within = subst (λ n. i < n) c.len-place-end.ensures c.loop-place-test.true in
    let v : Vertex = vertex_in (get_or steps i no_step) in
    let made : IsRowOrHost net of tags g d v c.in_ok-row.field-0 = c.in_ok-row.ensures of v ready is queue (vertex-next steps i no_step within) in
    let spot : Spot = (g, d, v) in
    let before = c.loop-place.invariant of ready is queue in
    subst (λ (spots : List Spot). AddsRows net of tags spots c.args.rows.now.items c.match-branch-2.rows.items) (sym (spots-next g c.args.branch.now i no_step within))
    (adds-more net of tags (take i (spots_of_branch g c.args.branch.now)) (spot ∷ []) c.args.rows.now.items c.loop-place.rows.items c.match-branch-2.rows.items before
    (elim c.match-branch-2.branch [
      | in-Some+in_ok-push w ↦ adds-row net of tags spot c.loop-place.rows.items c.match-branch-2.rows.items w.in-Some.row (ap (λ r. r.items) w.rows-is ∙ w.in_ok-push.ensures.items) (subst (IsRowOrHost net of tags g d v) w.in-Some.is made)
      | in_default w ↦ adds-host net of tags spot c.loop-place.rows.items c.match-branch-2.rows.items (ap (λ r. r.items) w.rows-is) (subst (IsRowOrHost net of tags g d v) w.in_default.is made)
    ]))
