use Rattle.std.proofs.Common.{◌≡◌, ◌≢◌, List, Some, slice_get, Contains, sym, subst, option_map}
use Rattle.rules_model.specs.Tables.{IsFirstHop}
use Rattle.rule_tables.specs.declared.branches.GroupBranches.{GroupBranches}
use Rattle.rule_tables.specs.declared.branches.Branch.{Branch}
use Rattle.rule_tables.specs.declared.branches.Step.{Step}
use Rattle.rule_tables.specs.Hops.{table_hop}
use Rattle.rule_tables.specs.Rows.{tags_alone}
use Rattle.rule_tables.proofs.Placing.{if-ok}
use Rattle.rule_tables.proofs.Entering.{no-branch, no-start, no-next, first-is, first-made, found-branch}
use Rattle.rule_tables.proofs.entries.first_hop.Goals as goal

pub returns-in_default-branch_place : goal.returns-in_default-branch_place
returns-in_default-branch_place c = λ of ready are between.
    let cell = c.args.owned.now in
    let group : GroupBranches = c.in-Some.group.now in
    no-branch c.args.net.now c.locations-lawful.ensures.lawful.lawful of c.args.tags.now ready c.args.branches.now are cell.group cell.source cell.dest between.source between.dest between.differ
    group (sym c.in-Some.ensures) (subst (λ (l : List Branch). (b : Branch) → Contains l b → b.dest ≢ cell.dest) c.as_slice.ensures c.in_default-branch_place.ensures)

pub returns-in_default-step_at : goal.returns-in_default-step_at
returns-in_default-step_at c = λ of ready are between.
    let cell = c.args.owned.now in
    let group : GroupBranches = c.in-Some.group.now in
    let branch : Branch = c.in-Some-get.branch.now in
    let found = found-branch group.branches c.in-Some-branch_place.place cell.dest branch
    (subst (λ (l : List Branch). (b : Branch) × (slice_get l c.in-Some-branch_place.place ≡ Some b) × (b.dest ≡ cell.dest)) c.as_slice.ensures c.in-Some-branch_place.ensures) (sym c.in-Some-get.ensures.value) in
    no-start c.args.net.now c.locations-lawful.ensures.lawful.lawful of c.args.tags.now ready c.args.branches.now are cell.group cell.source cell.dest between.source between.dest between.differ
    group (sym c.in-Some.ensures) branch found.0 found.1 (subst (λ (l : List Step). (s : Step) → Contains l s → s.vertex.symbol.loc ≢ cell.source) c.as_slice-2.ensures c.in_default-step_at.ensures)

pub returns-in-Some-next : goal.returns-in-Some-next
returns-in-Some-next c = λ of ready are between.
    let net = c.args.net.now in
    let tags = c.args.tags.now in
    let cell = c.args.owned.now in
    let group : GroupBranches = c.in-Some.group.now in
    let branch : Branch = c.in-Some-get.branch.now in
    let found = found-branch group.branches c.in-Some-branch_place.place cell.dest branch
    (subst (λ (l : List Branch). (b : Branch) × (slice_get l c.in-Some-branch_place.place ≡ Some b) × (b.dest ≡ cell.dest)) c.as_slice.ensures c.in-Some-branch_place.ensures) (sym c.in-Some-get.ensures.value) in
    let start : Step = c.in-Some-step_at.start in
    let stands = subst (λ (l : List Step). Contains l start × (start.vertex.symbol.loc ≡ cell.source)) c.as_slice-2.ensures c.in-Some-step_at.ensures in
    let ok = c.locations-lawful.ensures.lawful.lawful in
    let first = first-is net ok of tags ready c.args.branches.now are cell.group cell.source cell.dest between.source between.dest between.differ group (sym c.in-Some.ensures) branch found.0 found.1 start stands.0 stands.1 c.in-Some-next.next c.in-Some-next.is in
    if-ok _ (λ hop. IsFirstHop net of (tags_alone tags) cell.group cell.source cell.dest (option_map table_hop hop))
    (first-made net ok of tags ready c.args.branches.now are cell.group cell.source cell.dest between.source between.dest between.differ group (sym c.in-Some.ensures) branch found.0 found.1 start stands.0 stands.1 c.in-Some-next.next first)
    c.hop_from.result (c.hop_from.ensures first.u first.us first.stands first.leads ready.ascend first.can)

pub returns-in-None : goal.returns-in-None
returns-in-None c = λ of ready are between walk.
    let cell = c.args.owned.now in
    let group : GroupBranches = c.in-Some.group.now in
    let branch : Branch = c.in-Some-get.branch.now in
    let found = found-branch group.branches c.in-Some-branch_place.place cell.dest branch
    (subst (λ (l : List Branch). (b : Branch) × (slice_get l c.in-Some-branch_place.place ≡ Some b) × (b.dest ≡ cell.dest)) c.as_slice.ensures c.in-Some-branch_place.ensures) (sym c.in-Some-get.ensures.value) in
    let start : Step = c.in-Some-step_at.start in
    let stands = subst (λ (l : List Step). Contains l start × (start.vertex.symbol.loc ≡ cell.source)) c.as_slice-2.ensures c.in-Some-step_at.ensures in
    no-next c.args.net.now c.locations-lawful.ensures.lawful.lawful of c.args.tags.now ready c.args.branches.now are cell.group cell.source cell.dest between.source between.dest between.differ
    group (sym c.in-Some.ensures) branch found.0 found.1 start stands.0 stands.1 c.in-None.is
