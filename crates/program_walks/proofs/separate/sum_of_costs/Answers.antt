use Rattle.std.proofs.Common.{◌≡◌, ℕ, ◌+◌, ◌-◌, ◌<◌, length, refl, ◌∙◌, subst, arith}
use Rattle.program_walks.specs.Paths.{IsLeastPath, IsLeastPathIf}
use Rattle.program_walks.proofs.Adding.{flow_at, flow-stands, no-costs, cost-more, least-cost, no-cost, path-small, total-fits, all-costs, flow-without}
use Rattle.program_walks.proofs.separate.sum_of_costs.Goals as goal

pub flows-init : goal.flows-init
flows-init c = (let e = c.len-number.ensures in omega arith, no-costs c.args.problem.now c.len-number.result c.len-number.ensures)

pub returns-in-None : goal.returns-in-None
returns-in-None c =
    let problem = c.args.problem.now in
    let n : ℕ = c.flows.number - 1 in
    let t = c.flows-test.true in
    let i = c.flows.invariant.0 in
    let below : n < length problem.flows = omega arith in
    flow-without problem n below (no-cost problem c.as_slice.result.now n (flow_at problem n) c.requires.is (c.as_slice.ensures ∙ c.in_ok-point.ensures)
    (subst (IsLeastPathIf problem c.as_slice.result.now n (flow_at problem n)) c.in-None.is (c.in_ok-least_path.ensures (flow_at problem n) (flow-stands problem n below))))

pub overflow_add-total : goal.overflow_add-total
overflow_add-total c =
    let problem = c.args.problem.now in
    let n : ℕ = c.flows.number - 1 in
    let t = c.flows-test.true in
    let i = c.flows.invariant.0 in
    let below : n < length problem.flows = omega arith in
    let found : IsLeastPath problem c.as_slice.result.now n (flow_at problem n) c.in-Some.found =
    subst (IsLeastPathIf problem c.as_slice.result.now n (flow_at problem n)) c.in-Some.is (c.in_ok-least_path.ensures (flow_at problem n) (flow-stands problem n below)) in
    let s = total-fits problem c.flows.number c.flows.total c.in-Some.found.cost c.requires.is c.flows.invariant.1 (path-small problem c.as_slice.result.now n (flow_at problem n) c.in-Some.found c.requires.is found) in
    omega (arith, s)

pub flows-preserved : goal.flows-preserved
flows-preserved c =
    let problem = c.args.problem.now in
    let n : ℕ = c.flows.number - 1 in
    let t = c.flows-test.true in
    let i = c.flows.invariant.0 in
    let below : n < length problem.flows = omega arith in
    let next : c.flows.number ≡ n + 1 = omega arith in
    let found : IsLeastPath problem c.as_slice.result.now n (flow_at problem n) c.in-Some.found =
    subst (IsLeastPathIf problem c.as_slice.result.now n (flow_at problem n)) c.in-Some.is (c.in_ok-least_path.ensures (flow_at problem n) (flow-stands problem n below)) in (
      omega arith,
      cost-more problem n c.flows.number c.flows.total _ c.in-Some.found.cost next c.flows.invariant.0 c.flows.invariant.1
          (least-cost problem c.as_slice.result.now n (flow_at problem n) c.in-Some.found c.requires.is (c.as_slice.ensures ∙ c.in_ok-point.ensures) found)
          (path-small problem c.as_slice.result.now n (flow_at problem n) c.in-Some.found c.requires.is found) refl,
    )

pub returns : goal.returns
returns c = all-costs c.args.problem.now c.flows.number c.flows.total (let t = c.flows-test.false in omega arith) c.flows.invariant.1
