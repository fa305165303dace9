use Rattle.std.proofs.Common.{List, map, refl, sym, subst, arith}
use Rattle.std.proofs.lemmas.Result.{err_from_is_err_and}
use Rattle.fair_share.specs.declared.cap.Cap.{Cap}
use Rattle.fair_share.specs.Reading.{IsPlaceOfCap}
use Rattle.fair_share.proofs.NamedRates.{unknown-weaker}
use Rattle.fair_share.proofs.Numbering.{caps-push, first-unknown-cap}
use Rattle.fair_share.proofs.reader.caps_of.Goals as goal

pub returns-in_err-under-clause-err : goal.returns-in_err-under-clause-err
returns-in_err-under-clause-err c =
    let p = err_from_is_err_and c.from_residual-in_err-under.result c.from_residual-in_err-under.ensures.1 in
    rw (p.1, p.2) (unknown-weaker _ _ (λ name h. first-unknown-cap c.args.entries.now c.loop-place.place c.loop-place.caps.items c.index-entries-place.result name c.loop-place.invariant (let t = c.loop-place-test.true in omega arith) c.index-entries-place.is h.0
    (λ place is. h.1 place (subst (λ (cs : List Cap). IsPlaceOfCap (map (λ cap. cap.name) cs) c.index-entries-place.result.under place) (sym c.deref.ensures.value) is))) _ c.in_err-under.ensures.err)

pub loop-place-preserved : goal.loop-place-preserved
loop-place-preserved c =
    caps-push c.args.entries.now c.loop-place.place c.loop-place.caps.items c.push.new.self.items c.index-entries-place.result _ c.loop-place.invariant (let t = c.loop-place-test.true in omega arith) c.index-entries-place.is c.in_ok-name.ensures refl
    (subst (λ (cs : List Cap). IsPlaceOfCap (map (λ cap. cap.name) cs) c.index-entries-place.result.under c.in_ok-under.under) c.deref.ensures.value c.in_ok-under.ensures.ok) c.in_ok-push.ensures.items
