use Rattle.std.proofs.Common.{◌≡◌, ℕ, ◌+◌, ◌-◌, ◌<◌, cond, length, ◌∙◌, ap, subst, arith}
use Rattle.merlin_model.specs.Assignments.{ratio_lt}
use Rattle.program_walks.specs.Widths.{IsLeastShareIf}
use Rattle.program_walks.proofs.Adding.{flow_at, flow-stands, no-shares, share-more, all-shares, flow-without}
use Rattle.program_walks.proofs.separate.greatest_of_shares.Goals as goal

pub flows-init : goal.flows-init
flows-init c = (let e = c.len-number.ensures in omega arith, no-shares c.args.problem.now c.len-number.result c.len-number.ensures)

pub returns-in-None : goal.returns-in-None
returns-in-None c =
    let problem = c.args.problem.now in
    let n : ℕ = c.flows.number - 1 in
    let t = c.flows-test.true in
    let i = c.flows.invariant.0 in
    let below : n < length problem.flows = omega arith in
    flow-without problem n below (subst (IsLeastShareIf problem n (flow_at problem n)) c.in-None.is (c.in_ok-least_share.ensures (flow_at problem n) (flow-stands problem n below)))

pub flows-preserved : goal.flows-preserved
flows-preserved c =
    let problem = c.args.problem.now in
    let n : ℕ = c.flows.number - 1 in
    let t = c.flows-test.true in
    let i = c.flows.invariant.0 in
    let below : n < length problem.flows = omega arith in
    let next : c.flows.number ≡ n + 1 = omega arith in (
      omega arith,
      share-more problem n c.flows.number c.flows.greatest c.greater-greatest.result c.in-Some.share next c.flows.invariant.0 c.flows.invariant.1
          (subst (IsLeastShareIf problem n (flow_at problem n)) c.in-Some.is (c.in_ok-least_share.ensures (flow_at problem n) (flow-stands problem n below)))
          (λ rest e. c.greater-greatest.ensures ∙ ap (λ (g : ℕ × ℕ). cond (ratio_lt c.in-Some.share g) g c.in-Some.share) e),
    )

pub returns : goal.returns
returns c = all-shares c.args.problem.now c.flows.number c.flows.greatest (let t = c.flows-test.false in omega arith) c.flows.invariant.1
