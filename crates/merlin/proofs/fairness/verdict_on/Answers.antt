use Rattle.std.proofs.Common.{◌≡◌, sym, ◌∙◌, ap, option_map, unwrap_or}
use Rattle.std.proofs.lemmas.Option.{slice_get_within}
use Rattle.fair_share.specs.declared.cap.Tenant.{Tenant}
use Rattle.merlin.proofs.fairness.verdict_on.Goals as goal

pub tenant-requires : goal.tenant-requires
tenant-requires c = let first = c.in-Some.ensures.sound in slice_get_within _ _ first.tenant first.stands

pub returns-in_ok-copy-in-Some : goal.returns-in_ok-copy-in-Some
returns-in_ok-copy-in-Some c =
    let first = c.in-Some.ensures.sound in
    let named : c.tenant.result.now ≡ first.tenant.name =
    ap (λ o. unwrap_or o c.tenant.result.now) (sym c.tenant.ensures ∙ ap (option_map (λ (t : Tenant). t.name)) first.stands) in
    λ text bytes read. record { demands = c.args.demands.now; shares = c.args.shares.now; read = read; place = c.in-Some.place; first = first; named = c.in_ok-copy-in-Some.ensures ∙ named }
