use Rattle.std.proofs.Common.{ℕ, List, length, map, sym, ◌∙◌, ap, subst, arith}
use Rattle.std.specs.List.{AllZip}
use Rattle.merlin_model.specs.declared.policy.Ends.{Ends}
use Rattle.merlin_model.specs.declared.policy.Symbol.{Symbol}
use Rattle.merlin_model.specs.Networks.{Network}
use Rattle.merlin_model.specs.Policies.{paths_of}
use Rattle.topology.specs.Symbols.{network_symbols}
use Rattle.rules_model.specs.Products.{Group}
use Rattle.rules_model.specs.Tables.{all_hosts, all_owned}
use Rattle.product_graph.proofs.Lists.{all-contained, if-ok}
use Rattle.policy_check.specs.Checked.{CheckedPolicy}
use Rattle.configuration_model.specs.Pairs.{pair_cells}
use Rattle.configuration_model.specs.Tables.{grouped_cells, AreTables}
use Rattle.rule_tables.specs.declared.branches.TagKey.{TagKey}
use Rattle.rule_tables.specs.declared.branches.Branch.{Branch}
use Rattle.rule_tables.specs.declared.branches.GroupBranches.{GroupBranches}
use Rattle.rule_tables.specs.declared.branches.OwnedCell.{OwnedCell}
use Rattle.rule_tables.specs.Branches.{key_of, owned_of, AreTablesOf}
use Rattle.openflow_rules.specs.Planning.{statement_automata, AreTags}
use Rattle.openflow_rules.specs.GroupSpans.{spans_over}
use Rattle.openflow_rules.specs.Gathered.{AreAllBelow, IsBranchFor}
use Rattle.openflow_rules.specs.WalkGroups.{AreGroupsFor}
use Rattle.openflow_rules.proofs.ChosenGroups.{walked, are-walked, ends-few}
use Rattle.openflow_rules.proofs.ChosenTables.{written, prepared, whole}
use Rattle.openflow_rules.proofs.ChosenWalks.{words}
use Rattle.openflow_rules.proofs.making.tables_with.Goals as goal

pub all_groups-requires-clause-leaders : goal.all_groups-requires-clause-leaders
all_groups-requires-clause-leaders c =
    let checked : CheckedPolicy = c.args.chosen.now.checked.now in
    subst (AreAllBelow (length (paths_of checked.policy))) (sym c.as_slice-leaders.ensures)
    (all-contained _ c.args.parts.now.groups.leaders (λ j i. ((c.requires.plan.parts.grouped.leaders_are j).0 i).0))

pub all_groups-requires-clause-few : goal.all_groups-requires-clause-few
all_groups-requires-clause-few c =
    let few = ends-few c.args.chosen.now.net.now c.args.chosen.now.checked.now c.args.chosen.now.ends.now c.requires.plan.automata c.requires.plan.ends_are in
    let most = c.statements.ensures.sound.few in
    omega (arith, few, most)

pub returns : goal.returns
returns c =
    let net : Network = c.args.chosen.now.net.now in
    let checked : CheckedPolicy = c.args.chosen.now.checked.now in
    let ends : List Ends = c.args.chosen.now.ends.now in
    let walks : List (List Symbol) = words c.args.chosen.now.walks.now in
    let automata = c.requires.plan.automata in
    let all = c.requires.plan.ends_are in
    let parts = c.requires.plan.parts in
    let leaders : List ℕ = c.args.parts.now.groups.leaders in
    let group_of : List ℕ = c.args.parts.now.groups.group_of in
    let groups : List Group = map (walked net checked ends automata all walks) leaders in
    let are = are-walked net checked ends automata all walks leaders (λ j i. ((parts.grouped.leaders_are j).0 i).0) in
    let branches = subst (λ (l : List ℕ). AllZip (IsBranchFor net parts.groups) (spans_over (all_hosts net) ends l) c.as_slice-branches.result.now) (sym c.as_slice-leaders.ensures)
    (subst (λ (l : List Branch). AllZip (IsBranchFor net parts.groups) (spans_over (all_hosts net) ends leaders) l) (sym c.as_slice-branches.ensures) parts.branches) in
    let made = subst (λ (l : List GroupBranches). AreGroupsFor net checked ends walks parts.groups leaders l) (sym c.deref.ensures.value)
    (subst (λ (l : List ℕ). AreGroupsFor net checked ends walks parts.groups l c.in_ok-groups.groups.items) c.as_slice-leaders.ensures (c.in_ok-groups.ensures parts.groups branches)) in
    let owned = ap (λ (l : List OwnedCell). map owned_of l) c.as_slice-4.ensures ∙ c.in_ok-owned.ensures ∙ ap (λ (l : List ℕ). all_owned net (grouped_cells checked.policy l (pair_cells net checked.policy))) c.as_slice-2.ensures in
    let tags = subst (λ (l : List TagKey). AreTags net parts.groups (map key_of l)) (sym c.as_slice-3.ensures) parts.tags in
    if-ok (λ t. AreTablesOf net groups (grouped_cells checked.policy group_of (pair_cells net checked.policy)) t.rules t.processes)
    (λ t. AreTables net checked.policy (network_symbols net) (statement_automata checked) ends walks (pair_cells net checked.policy) t.rules t.processes) c.tables_of.result
    (λ t is. whole net checked ends automata all walks c.requires.assigned c.requires.simple leaders group_of parts.grouped parts.groups groups parts.are are t.rules t.processes is)
    (c.tables_of.ensures groups (grouped_cells checked.policy group_of (pair_cells net checked.policy))
    (written net checked ends automata all walks c.requires.assigned c.requires.simple leaders group_of parts.grouped parts.groups groups parts.are are)
    (prepared net checked ends automata all walks c.requires.assigned c.requires.simple leaders group_of parts.grouped parts.groups groups parts.are are c.as_slice-3.result.now tags c.deref.result.now made c.as_slice-4.result.now owned))
