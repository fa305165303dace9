use Rattle.std.proofs.Common.{◌∙◌, ℕ, List, get_or, sym, subst}
use Rattle.product_graph.proofs.Lists.{some-same, get-at, get-contains}
use Rattle.configuration_model.specs.Groups.{Leads}
use Rattle.openflow_rules.specs.declared.walk_rows.WalkRow.{WalkRow}
use Rattle.openflow_rules.specs.Sources.{AreWalkRows}
use Rattle.openflow_rules.proofs.SharedWalks.{rows-shared}
use Rattle.openflow_rules.proofs.SourceSteps.{done-all}
use Rattle.openflow_rules.proofs.sources.sources_of.Goals as goal

pub rows_to-requires-clause-statement : goal.rows_to-requires-clause-statement
rows_to-requires-clause-statement c =
    let leaders : List ℕ = c.args.leaders.now in
    let here = get-at leaders c.loop-group.group 0 c.loop-group-test.true in
    ((c.requires.grouped.leaders_are (get_or leaders c.loop-group.group 0)).0 (get-contains leaders c.loop-group.group (get_or leaders c.loop-group.group 0) here)).0

pub put_group-requires-clause-rows : goal.put_group-requires-clause-rows
put_group-requires-clause-rows c = λ i at.
    let leaders : List ℕ = c.args.leaders.now in
    let leader = c.requires.grouped.each i c.loop-group.group at in
    let here = get-at leaders c.loop-group.group 0 c.loop-group-test.true in
    let leads = subst (Leads c.args.search.now.site.checked.now.policy i) (some-same (sym leader.1 ∙ here)) leader.2 in
    subst (λ (rows : List WalkRow). AreWalkRows c.args.search.now.site.net.now c.args.search.now.site.checked.now.policy i rows) (sym c.as_slice.ensures)
    (rows-shared c.args.search.now.site.net.now c.args.search.now.site.checked.now c.requires.search.automata i (get_or leaders c.loop-group.group 0) leads c.in_ok-rows.rows c.in_ok-rows.ensures)

pub returns : goal.returns
returns c =
    done-all c.args.search.now.site.net.now c.args.search.now.site.checked.now.policy c.args.search.now.group_of.now c.args.leaders.now c.loop-group.group _ c.requires.grouped c.loop-group-test.false c.loop-group.invariant
