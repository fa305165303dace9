use Rattle.std.proofs.Common.{List, map, subst}
use Rattle.std.proofs.lemmas.Result.{err_from_is_err_and}
use Rattle.fair_share.specs.declared.cap.Cap.{Cap}
use Rattle.fair_share.specs.declared.entry.NamedRate.{NamedRate}
use Rattle.fair_share.specs.Reading.{AreCapsOf, AreTenantsOf}
use Rattle.fair_share.proofs.Numbering.{refused-read, as-demands, are-demands}
use Rattle.fair_share.proofs.reader.numbered.Goals as goal

pub returns-in_err-tenants-clause-err : goal.returns-in_err-tenants-clause-err
returns-in_err-tenants-clause-err c =
    let caps : AreCapsOf c.args.entries.now.caps.items c.in_ok-caps.caps.items = subst (λ (es : List NamedRate). AreCapsOf es c.in_ok-caps.caps.items) c.deref.ensures.value c.in_ok-caps.ensures.ok in
    let p = err_from_is_err_and c.from_residual-in_err-tenants.result c.from_residual-in_err-tenants.ensures.1 in
    rw (p.1, p.2) (refused-read c.args.entries.now c.in_ok-caps.caps.items c.deref-2.result.now c.deref-3.result.now _ c.in_ok-ask_counts.ensures.ok c.in_ok-ask_names.ensures.ok caps c.deref-2.ensures.value c.deref-3.ensures.value c.in_err-tenants.ensures.err)

pub returns-clause-ok : goal.returns-clause-ok
returns-clause-ok c =
    let caps : AreCapsOf c.args.entries.now.caps.items c.in_ok-caps.caps.items = subst (λ (es : List NamedRate). AreCapsOf es c.in_ok-caps.caps.items) c.deref.ensures.value c.in_ok-caps.ensures.ok in
    let tenants : AreTenantsOf (map (λ cap. cap.name) c.in_ok-caps.caps.items) c.args.entries.now.tenants.items c.in_ok-tenants.tenants.items =
    subst (λ (cs : List Cap). AreTenantsOf (map (λ cap. cap.name) cs) c.args.entries.now.tenants.items c.in_ok-tenants.tenants.items) c.deref-2.ensures.value
    (subst (λ (es : List NamedRate). AreTenantsOf (map (λ cap. cap.name) c.deref-2.result.now) es c.in_ok-tenants.tenants.items) c.deref-3.ensures.value c.in_ok-tenants.ensures.ok) in
    as-demands c.args.entries.now c.in_ok-caps.caps.items c.in_ok-tenants.tenants.items c.in_ok-ask_counts.ensures.ok c.in_ok-ask_names.ensures.ok caps tenants

pub invariant_of-result : goal.invariant_of-result
invariant_of-result c =
    let caps : AreCapsOf c.args.entries.now.caps.items c.in_ok-caps.caps.items = subst (λ (es : List NamedRate). AreCapsOf es c.in_ok-caps.caps.items) c.deref.ensures.value c.in_ok-caps.ensures.ok in
    let tenants : AreTenantsOf (map (λ cap. cap.name) c.in_ok-caps.caps.items) c.args.entries.now.tenants.items c.in_ok-tenants.tenants.items =
    subst (λ (cs : List Cap). AreTenantsOf (map (λ cap. cap.name) cs) c.args.entries.now.tenants.items c.in_ok-tenants.tenants.items) c.deref-2.ensures.value
    (subst (λ (es : List NamedRate). AreTenantsOf (map (λ cap. cap.name) c.deref-2.result.now) es c.in_ok-tenants.tenants.items) c.deref-3.ensures.value c.in_ok-tenants.ensures.ok) in
    are-demands c.args.entries.now _ c.requires (as-demands c.args.entries.now c.in_ok-caps.caps.items c.in_ok-tenants.tenants.items c.in_ok-ask_counts.ensures.ok c.in_ok-ask_names.ensures.ok caps tenants)
