use Rattle.std.proofs.Common.{◌≡◌, ◌≤◌, sym, ◌∙◌, ap, subst, length, arith}
use Rattle.fair_share.specs.Shares.{share_rates}
use Rattle.fair_share.specs.Filling.{demands, IsRaised}
use Rattle.fair_share.proofs.Filling.{shares-long, raised, at-some}
use Rattle.fair_share.proofs.Rates.{rates-long}
use Rattle.fair_share.proofs.fill.rise.Goals as goal

pub first_step-requires-clause-shares : goal.first_step-requires-clause-shares
first_step-requires-clause-shares c =
    sym (rates-long c.args.given.now.shares.items) ∙ shares-long (demands c.args.caps.now c.args.tenants.now) (share_rates c.args.given.now.shares.items) c.requires.filled.feasible

pub at_level-requires-clause-shares : goal.at_level-requires-clause-shares
at_level-requires-clause-shares c =
    let same : c.deref.result.now ≡ c.tries.given.shares.items = c.deref.ensures.value in
    ap (λ ss. length ss) same ∙ sym (rates-long c.tries.given.shares.items) ∙ shares-long (demands c.args.caps.now c.args.tenants.now) (share_rates c.tries.given.shares.items) c.tries.invariant.0.feasible

pub tries-preserved-in-Some : goal.tries-preserved-in-Some
tries-preserved-in-Some c =
    let same : c.deref.result.now ≡ c.tries.given.shares.items = c.deref.ensures.value in
    let low : c.tries.low ≤ c.next_try-middle.result = (let t = c.next_try-middle.ensures.0 in omega arith) in
    let high : c.next_try-middle.result ≤ c.tries.high = c.next_try-middle.ensures.1 in
    let found : IsRaised (demands c.args.caps.now c.args.tenants.now) (share_rates c.tries.given.shares.items) c.args.rising.now c.next_try-middle.result (share_rates c.in-Some.found.shares.items) c.in-Some.found.used.items =
    subst (λ ss. IsRaised (demands c.args.caps.now c.args.tenants.now) (share_rates ss) c.args.rising.now c.next_try-middle.result (share_rates c.in-Some.found.shares.items) c.in-Some.found.used.items) same
    (at-some c.in_ok-found.field-0 c.in-Some.found
    (λ given. IsRaised (demands c.args.caps.now c.args.tenants.now) (share_rates c.deref.result.now) c.args.rising.now c.next_try-middle.result (share_rates given.shares.items) given.used.items) c.in-Some.is c.in_ok-found.ensures) in (
      raised (demands c.args.caps.now c.args.tenants.now) (share_rates c.tries.given.shares.items) (share_rates c.in-Some.found.shares.items) c.args.rising.now c.tries.given.used.items c.in-Some.found.used.items c.tries.low
          c.next_try-middle.result c.tries.invariant.0 low found.feasible found.taken found.each,
      (let a = c.tries.invariant.1 in omega arith),
      high,
      c.tries.invariant.3,
    )
