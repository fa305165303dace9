use Rattle.std.proofs.Common.{List, ℕ, sym, subst}
use Rattle.std.proofs.lemmas.Result.{err_from_is_err_and}
use Rattle.configuration_model.specs.Groups.{AreGrouped}
use Rattle.openflow_rules.specs.PlanParts.{IsGatheredFor}
use Rattle.openflow_rules.proofs.Limits.{within-limits, passes-rest}
use Rattle.openflow_rules.proofs.preparing.prepare.Goals as goal

pub gather_groups-requires-clause-leaders : goal.gather_groups-requires-clause-leaders
gather_groups-requires-clause-leaders c =
    (c.in_ok-groups.groups.group_of, subst (λ (l : List ℕ). AreGrouped c.args.checked.now.policy l c.in_ok-groups.groups.group_of) (sym c.as_slice-leaders.ensures) c.in_ok-groups.ensures)

pub returns-in_err-ask_rest-clause-err : goal.returns-in_err-ask_rest-clause-err
returns-in_err-ask_rest-clause-err c =
    let p = err_from_is_err_and c.from_residual-in_err-ask_rest.result c.from_residual-in_err-ask_rest.ensures.1 in
    let h = subst (λ (l : List ℕ). IsGatheredFor c.args.net.now c.args.checked.now c.args.ends.now l c.in_ok-gathered.gathered) c.as_slice-leaders.ensures c.in_ok-gathered.ensures.ok in
    rw (p.1, p.2)
    (passes-rest c.args.net.now c.args.checked.now c.args.ends.now c.in_ok-groups.groups.leaders c.in_ok-groups.groups.group_of c.in_ok-groups.ensures c.in_ok-gathered.gathered h _ c.in_err-ask_rest.ensures.err)

pub returns-clause-limits : goal.returns-clause-limits
returns-clause-limits c =
    let h = subst (λ (l : List ℕ). IsGatheredFor c.args.net.now c.args.checked.now c.args.ends.now l c.in_ok-gathered.gathered) c.as_slice-leaders.ensures c.in_ok-gathered.ensures.ok in
    within-limits c.args.net.now c.args.checked.now c.args.ends.now c.in_ok-groups.groups.leaders c.in_ok-groups.groups.group_of c.in_ok-groups.ensures c.in_ok-gathered.gathered h c.in_ok-ask_rest.ensures.ok
