use Rattle.std.proofs.Common.{◌≡◌, ◌<◌, ◌+◌, ◌++◌, ℕ, List, Some, get_or, slice_get, take, length, add-one, zero-add, sym, ◌∙◌, ap, subst}
use Rattle.rule_tables.specs.declared.branches.GroupBranches.{GroupBranches}
use Rattle.rule_tables.specs.Rows.{Spot, AreSpotRows, AddsRows, spots_from, spots_of_group}
use Rattle.rule_tables.proofs.Searching.{get-some}
use Rattle.rule_tables.proofs.Spotting.{rows-append, groups-next}
use Rattle.rule_tables.proofs.rows.rows_of.Goals as goal

pub loop-number-preserved : goal.loop-number-preserved
loop-number-preserved c = λ of ready are.
    let net = c.args.net.now in
    let tags = c.args.tags.now in
    let groups : List GroupBranches = c.args.branches.now in
    let i : ℕ = c.loop-number.number in
    let group : GroupBranches = c.index-branches-number.result in
    let within : i < length groups = c.loop-number-test.true in
    let here : group ≡ get_or groups i group = c.index-branches-number.is in
    let there : slice_get groups i ≡ Some group = get-some groups i group within ∙ ap Some (sym here) in
    let added : AddsRows net of tags (spots_of_group i group) c.loop-number.rows.items c.add_group.new.rows.items = c.in_ok-add_group.ensures of ready (are i group there) in
    let spots : spots_from 0 (take (i + 1) groups) ≡ spots_from 0 (take i groups) ++ spots_of_group i group =
    ap (λ n. spots_from 0 (take n groups)) (add-one i) ∙ groups-next 0 groups i group within ∙ ap (λ n. spots_from 0 (take i groups) ++ spots_of_group n (get_or groups i group)) (zero-add i) ∙ ap (λ x. spots_from 0 (take i groups) ++ spots_of_group i x) (sym here) in
    subst (λ (s : List Spot). AreSpotRows net of tags s c.add_group.new.rows.items) (sym spots)
    (subst (AreSpotRows net of tags (spots_from 0 (take i groups) ++ spots_of_group i group)) (sym added.1)
    (rows-append net of tags (spots_from 0 (take i groups)) (spots_of_group i group) c.loop-number.rows.items added.0 (c.loop-number.invariant of ready are) added.2))
