use Rattle.std.proofs.Common.{◌≡◌, sym, subst}
use Rattle.std.proofs.lemmas.Result.{IfOk-weaker}
use Rattle.fair_share.specs.Filling.{demands}
use Rattle.fair_share.specs.Kept.{demands_in}
use Rattle.fair_share.specs.ShareTexts.{AreNamed, HaveNames, IsSharesText}
use Rattle.fair_share.proofs.OneDivision.{are-named, have-names, one-division}
use Rattle.fair_share.proofs.share_text.read_shares.Goals as goal

pub read_lines-requires-clause-caps : goal.read_lines-requires-clause-caps
read_lines-requires-clause-caps c = subst AreNamed (sym c.deref.ensures.value) (are-named (demands_in c.demands.inside) c.demands.invariant)

pub read_lines-requires-clause-tenants : goal.read_lines-requires-clause-tenants
read_lines-requires-clause-tenants c = subst HaveNames (sym c.deref-2.ensures.value) (have-names (demands_in c.demands.inside) c.demands.invariant)

pub returns-clause-only : goal.returns-clause-only
returns-clause-only c =
    let caps : c.deref.result.now ≡ c.demands.inside.caps.items = c.deref.ensures.value in
    let tenants : c.deref-2.result.now ≡ c.demands.inside.tenants.items = c.deref-2.ensures.value in
    rw (sym c.demands.view_is) (IfOk-weaker c.read_lines.result _ _ (λ shares h other o. one-division (demands_in c.demands.inside) c.args.bytes.now other shares.items c.demands.invariant o
    (subst (λ cs. IsSharesText (demands cs c.demands.inside.tenants.items) c.args.bytes.now shares.items) caps (subst (λ ts. IsSharesText (demands c.deref.result.now ts) c.args.bytes.now shares.items) tenants h))) c.read_lines.ensures.ok)
