use Rattle.std.proofs.Common.{◌≡◌, ◌<◌, ◌++◌, ℕ, List, get_or, take, length, sym, ◌∙◌, ap, subst}
use Rattle.std.specs.List.{flat_map}
use Rattle.rule_tables.specs.declared.branches.Branch.{Branch}
use Rattle.rule_tables.specs.Rows.{Spot, AddsRows, spots_of_branch}
use Rattle.rule_tables.proofs.Spotting.{adds-more, branches-next}
use Rattle.rule_tables.proofs.rows.add_group.Goals as goal

pub loop-branch-preserved : goal.loop-branch-preserved
loop-branch-preserved c = λ of ready are.
    let net = c.args.net.now in
    let tags = c.args.tags.now in
    let g : ℕ = c.args.number in
    let i : ℕ = c.loop-branch.branch-index in
    let branches : List Branch = c.args.group.now.branches in
    let branch : Branch = c.branch-item.result in
    let list : c.as_slice-branch-items.result.now ≡ branches = c.as_slice-branch-items.ensures in
    let within : i < length branches = subst (λ (l : List Branch). i < length l) list c.loop-branch-test.true in
    let here : branch ≡ get_or branches i branch = subst (λ (l : List Branch). branch ≡ get_or l i branch) list c.branch-item.is in
    subst (λ (spots : List Spot). AddsRows net of tags spots c.args.rows.now.items c.add_branch.new.rows.items) (sym (branches-next g branches i branch within ∙ ap (λ b. flat_map (spots_of_branch g) (take i branches) ++ spots_of_branch g b) (sym here)))
    (adds-more net of tags (flat_map (spots_of_branch g) (take i branches)) (spots_of_branch g branch) c.args.rows.now.items c.loop-branch.rows.items c.add_branch.new.rows.items (c.loop-branch.invariant of ready are)
    (c.in_ok-add_branch.ensures of ready (are.each branch (i, within, sym here)) are.queue))
