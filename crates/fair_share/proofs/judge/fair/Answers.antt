use Rattle.std.proofs.Common.{◌≡◌, MatchOption, sym, subst}
use Rattle.fair_share.specs.Shares.{IsSound, IsFirstUnsound}
use Rattle.fair_share.specs.Filling.{demands}
use Rattle.fair_share.specs.Kept.{demands_in}
use Rattle.fair_share.proofs.Judging.{fair-best}
use Rattle.fair_share.proofs.judge.fair.Goals as goal

pub returns-clause-best : goal.returns-clause-best
returns-clause-best c =
    let caps : c.deref.result.now ≡ c.demands.inside.caps.items = c.deref.ensures.value in
    let tenants : c.deref-2.result.now ≡ c.demands.inside.tenants.items = c.deref-2.ensures.value in
    rw (sym c.demands.view_is) (fair-best (demands_in c.demands.inside) c.args.shares.now c.judged.result c.demands.invariant
    (subst (λ cs. MatchOption c.judged.result (IsSound (demands cs c.demands.inside.tenants.items) c.args.shares.now) (IsFirstUnsound (demands cs c.demands.inside.tenants.items) c.args.shares.now)) caps
    (subst (λ ts. MatchOption c.judged.result (IsSound (demands c.deref.result.now ts) c.args.shares.now) (IsFirstUnsound (demands c.deref.result.now ts) c.args.shares.now)) tenants c.judged.ensures)))
