use Rattle.std.proofs.Common.{◌≡◌, sym, subst}
use Rattle.std.proofs.lemmas.Result.{IfOk-weaker}
use Rattle.fair_share.specs.Shares.{IsSound}
use Rattle.fair_share.specs.Filling.{demands}
use Rattle.fair_share.specs.Kept.{demands_in}
use Rattle.fair_share.proofs.Judging.{sound-best}
use Rattle.fair_share.proofs.OneDivision.{sound-shares}
use Rattle.fair_share.proofs.dividing.divide.Goals as goal

pub returns-clause-best : goal.returns-clause-best
returns-clause-best c =
    let caps : c.deref.result.now ≡ c.demands.inside.caps.items = c.deref.ensures.value in
    let tenants : c.deref-2.result.now ≡ c.demands.inside.tenants.items = c.deref-2.ensures.value in
    rw (sym c.demands.view_is) (IfOk-weaker c.divided.result _ _ (λ shares h. sound-best (demands_in c.demands.inside) shares.items c.demands.invariant
    (subst (λ cs. IsSound (demands cs c.demands.inside.tenants.items) shares.items) caps (subst (λ ts. IsSound (demands c.deref.result.now ts) shares.items) tenants h))) c.divided.ensures.sound)

pub returns-clause-lines : goal.returns-clause-lines
returns-clause-lines c =
    let caps : c.deref.result.now ≡ c.demands.inside.caps.items = c.deref.ensures.value in
    let tenants : c.deref-2.result.now ≡ c.demands.inside.tenants.items = c.deref-2.ensures.value in
    rw (sym c.demands.view_is) (IfOk-weaker c.divided.result _ _ (λ shares h. sound-shares (demands_in c.demands.inside) shares.items c.demands.invariant
    (subst (λ cs. IsSound (demands cs c.demands.inside.tenants.items) shares.items) caps (subst (λ ts. IsSound (demands c.deref.result.now ts) shares.items) tenants h))) c.divided.ensures.sound)
