use Rattle.std.proofs.Common.{◌≡◌, ℕ, List, Option, length, get_or, refl, subst}
use Rattle.std.specs.Prelude.{MatchOption}
use Rattle.merlin_model.specs.declared.policy.Ends.{Ends}
use Rattle.merlin_model.specs.Networks.{Network}
use Rattle.rules_model.specs.Tables.{all_hosts}
use Rattle.policy_check.specs.Checked.{CheckedPolicy}
use Rattle.openflow_rules.specs.GroupSpans.{ends_for, spans_by}
use Rattle.openflow_rules.specs.WalkGroups.{IsPlaceFor}
use Rattle.openflow_rules.proofs.ChosenSteps.{products-long, enough, made-next, made-all}
use Rattle.openflow_rules.proofs.Steps.{taken-all}
use Rattle.openflow_rules.proofs.ChosenWalks.{words}
use Rattle.openflow_rules.proofs.chosen.all_groups.Goals as goal

-- so many products there are over all hosts
as-long : (net : Network) (hosts : List ℕ) (ends : List Ends) (g j : ℕ) (place : Option ℕ) (count : ℕ) → hosts ≡ all_hosts net → IsPlaceFor ends j place → MatchOption place (count ≡ length hosts) (λ k. count ≡ 1) →
    count ≡ length (spans_by (all_hosts net) g j (ends_for ends j))
as-long net hosts ends g j place count all p is = subst (λ h. count ≡ length (spans_by h g j (ends_for ends j))) all (products-long hosts ends g j place count p is)

pub split_at-requires : goal.split_at-requires
split_at-requires c =
    let net : Network = c.args.chosen.now.net.now in
    let checked : CheckedPolicy = c.args.chosen.now.checked.now in
    let ends : List Ends = c.args.chosen.now.ends.now in
    let leaders : List ℕ = c.args.leaders.now in
    let n : ℕ = c.loop-leader.leader-index in
    let j : ℕ = get_or leaders n 0 in
    enough net checked ends (words c.args.chosen.now.walks.now) c.requires.branches.0 leaders n c.loop-leader.rest.now c.loop-leader.made.items (c.loop-leader.invariant c.requires.branches.0 c.requires.branches.1) c.loop-leader-test.true j refl c.products_with.result
    (as-long net c.args.hosts.now ends n j c.place_for-place.result c.products_with.result c.requires.hosts c.place_for-place.ensures c.products_with.ensures)

pub loop-leader-preserved : goal.loop-leader-preserved
loop-leader-preserved c = λ bare are.
    let net : Network = c.args.chosen.now.net.now in
    let checked : CheckedPolicy = c.args.chosen.now.checked.now in
    let ends : List Ends = c.args.chosen.now.ends.now in
    let leaders : List ℕ = c.args.leaders.now in
    let n : ℕ = c.loop-leader.leader-index in
    let j : ℕ = get_or leaders n 0 in
    made-next net checked ends (words c.args.chosen.now.walks.now) bare leaders n c.loop-leader.rest.now c.loop-leader.made.items (c.loop-leader.invariant bare are) c.loop-leader-test.true j refl
    c.place_for-place.result c.products_with.result c.split_at.result.0.now c.split_at.result.1.now c.in_ok-group_at.field-0 c.push.new.self.items
    c.place_for-place.ensures (as-long net c.args.hosts.now ends n j c.place_for-place.result c.products_with.result c.requires.hosts c.place_for-place.ensures c.products_with.ensures)
    c.split_at.ensures.front c.split_at.ensures.back c.in_ok-group_at.ensures c.in_ok-push.ensures.items

pub returns : goal.returns
returns c = λ bare are.
    made-all c.args.chosen.now.net.now c.args.chosen.now.checked.now c.args.chosen.now.ends.now (words c.args.chosen.now.walks.now) bare c.args.leaders.now c.loop-leader.leader-index c.loop-leader.rest.now c.loop-leader.made.items
    (c.loop-leader.invariant bare are) (taken-all c.args.leaders.now c.loop-leader.leader-index c.loop-leader-test.false)
