use Rattle.std.proofs.Common.{map, refl, arith}
use Rattle.std.proofs.lemmas.Result.{err_from_is_err_and}
use Rattle.fair_share.proofs.NamedRates.{unknown-weaker}
use Rattle.fair_share.proofs.Numbering.{tenants-push, first-unknown-tenant}
use Rattle.fair_share.proofs.reader.tenants_of.Goals as goal

pub returns-in_err-under-clause-err : goal.returns-in_err-under-clause-err
returns-in_err-under-clause-err c =
    let p = err_from_is_err_and c.from_residual-in_err-under.result c.from_residual-in_err-under.ensures.1 in
    rw (p.1, p.2) (unknown-weaker _ _ (λ name h. first-unknown-tenant (map (λ cap. cap.name) c.args.caps.now) c.args.entries.now c.loop-place.place c.loop-place.tenants.items c.index-entries-place.result name c.loop-place.invariant (let t = c.loop-place-test.true in omega arith)
    c.index-entries-place.is h.0 h.1) _ c.in_err-under.ensures.err)

pub loop-place-preserved : goal.loop-place-preserved
loop-place-preserved c =
    tenants-push (map (λ cap. cap.name) c.args.caps.now) c.args.entries.now c.loop-place.place c.loop-place.tenants.items c.push.new.self.items c.index-entries-place.result _ c.loop-place.invariant (let t = c.loop-place-test.true in omega arith) c.index-entries-place.is
    (record { name = c.in_ok-name.ensures; demand = refl; under = c.in_ok-under.ensures.ok }) c.in_ok-push.ensures.items
