use Rattle.std.proofs.Common.{◌≡◌, zero, ◌+◌, ◌<◌, ◌++◌, ◌∷◌, [], length, take, slice_index, replicate, sym, ◌∙◌, ap, subst, arith}
use Rattle.std.proofs.lemmas.List.{length-replicate}
use Rattle.std.specs.List.{AllZip}
use Rattle.fair_share.specs.Shares.{IsFeasible, share_rates}
use Rattle.fair_share.specs.Filling.{demands, AreUsed, AreTops, IsFinalShare, IsNamed}
use Rattle.fair_share.proofs.Filling.{shares-long, place-of, slice_get-at, seam}
use Rattle.fair_share.proofs.Naming.{none-named, rates-take, zip-take, all-rates, all-named, named-right}
use Rattle.fair_share.proofs.Rates.{rates-long, rate-at}
use Rattle.fair_share.proofs.dividing.divided.Goals as goal

pub loop-index-init : goal.loop-index-init
loop-index-init c = none-named (demands c.args.caps.now c.args.tenants.now) (share_rates c.as_slice-shares.result.now) c.args.tenants.now c.new-lines.result.items c.new-lines.ensures.items

pub top_all-requires-clause-as_many : goal.top_all-requires-clause-as_many
top_all-requires-clause-as_many c =
    let same : c.as_slice-shares.result.now ≡ c.in_ok-given.given.shares.items = c.as_slice-shares.ensures.value in
    ap (λ ss. length ss) same ∙ sym (rates-long c.in_ok-given.given.shares.items) ∙ shares-long (demands c.args.caps.now c.args.tenants.now) (share_rates c.in_ok-given.given.shares.items) c.in_ok-given.ensures.feasible

pub bounds-shares-index : goal.bounds-shares-index
bounds-shares-index c =
    let same : c.as_slice-shares.result.now ≡ c.in_ok-given.given.shares.items = c.as_slice-shares.ensures.value in
    let long = ap (λ ss. length ss) same ∙ sym (rates-long c.in_ok-given.given.shares.items) ∙ shares-long (demands c.args.caps.now c.args.tenants.now) (share_rates c.in_ok-given.given.shares.items) c.in_ok-given.ensures.feasible in
    let t = c.loop-index-test.true in
    omega arith

pub line_of-line-requires-clause-place : goal.line_of-line-requires-clause-place
line_of-line-requires-clause-place c = place-of c.args.caps.now c.args.tenants.now c.loop-index.index c.index-tenants-index.result c.requires.places (omega arith) c.index-tenants-index.is

pub loop-index-preserved : goal.loop-index-preserved
loop-index-preserved c =
    let same : c.as_slice-shares.result.now ≡ c.in_ok-given.given.shares.items = c.as_slice-shares.ensures.value in
    let t = c.loop-index-test.true in
    let lt : c.loop-index.index < length c.args.tenants.now = omega arith in
    let long = ap (λ ss. length ss) same ∙ sym (rates-long c.in_ok-given.given.shares.items) ∙ shares-long (demands c.args.caps.now c.args.tenants.now) (share_rates c.in_ok-given.given.shares.items) c.in_ok-given.ensures.feasible in
    let inside : c.loop-index.index < length c.as_slice-shares.result.now = omega arith in
    let within : c.loop-index.index < length (share_rates c.as_slice-shares.result.now) = (let r = rates-long c.as_slice-shares.result.now in omega arith) in
    let at = rate-at c.as_slice-shares.result.now c.loop-index.index inside in
    let stands = slice_get-at c.args.tenants.now c.loop-index.index c.index-tenants-index.result lt c.index-tenants-index.is in
    let used : c.deref.result.now ≡ c.in_ok-given.given.used.items = c.deref.ensures.value in
    let seen = c.deref-in-loop-index.ensures.value in
    let zeros : c.in_ok-tops.tops.items ≡ replicate (length c.args.caps.now) zero = c.in_ok-tops.ensures.items_if_clones_equal (λ y e. e) in
    let size = c.in_ok-tops.tops.ok.0 ∙ ap (λ l. length l) zeros ∙ length-replicate (length c.args.caps.now) zero ∙ sym c.top_all.ensures.as_many in
    let whole = seen ∙ seam c.in_ok-tops.tops.len c.top_all.new.tops c.in_ok-tops.tops.items size in
    let are : AreUsed (demands c.args.caps.now c.args.tenants.now) (share_rates c.as_slice-shares.result.now) c.deref.result.now =
    subst (λ ss. AreUsed (demands c.args.caps.now c.args.tenants.now) (share_rates ss) c.deref.result.now) (sym same) (subst (AreUsed (demands c.args.caps.now c.args.tenants.now) (share_rates c.in_ok-given.given.shares.items)) (sym used) c.in_ok-given.ensures.used) in
    let top : AreTops (demands c.args.caps.now c.args.tenants.now) (share_rates c.as_slice-shares.result.now) c.deref-in-loop-index.result.now = subst (AreTops (demands c.args.caps.now c.args.tenants.now) (share_rates c.as_slice-shares.result.now)) (sym whole) c.top_all.ensures in
    let settled : IsFinalShare (demands c.args.caps.now c.args.tenants.now) (share_rates c.as_slice-shares.result.now) c.index-tenants-index.result (slice_index (share_rates c.as_slice-shares.result.now) c.loop-index.index) =
    subst (λ ss. IsFinalShare (demands c.args.caps.now c.args.tenants.now) (share_rates ss) c.index-tenants-index.result (slice_index (share_rates ss) c.loop-index.index)) (sym same) (c.in_ok-given.ensures.settled c.loop-index.index c.index-tenants-index.result stands) in
    let line : IsNamed (demands c.args.caps.now c.args.tenants.now) (share_rates c.as_slice-shares.result.now) c.index-tenants-index.result c.line_of-line.result =
    c.line_of-line.ensures.named c.args.tenants.now (share_rates c.as_slice-shares.result.now) are top (subst (IsFinalShare (demands c.args.caps.now c.args.tenants.now) (share_rates c.as_slice-shares.result.now) c.index-tenants-index.result) at settled) in
    let pushed : c.push.new.self.items ≡ c.loop-index.lines.items ++ c.line_of-line.result ∷ [] = c.in_ok-push.ensures.items in (
      ap share_rates pushed ∙ rates-take c.loop-index.lines.items (share_rates c.as_slice-shares.result.now) c.loop-index.index c.line_of-line.result c.loop-index.invariant.0 within (c.line_of-line.ensures.rate ∙ sym at),
      subst (AllZip (IsNamed (demands c.args.caps.now c.args.tenants.now) (share_rates c.as_slice-shares.result.now)) (take (c.loop-index.index + 1) c.args.tenants.now)) (sym pushed)
          (zip-take (IsNamed (demands c.args.caps.now c.args.tenants.now) (share_rates c.as_slice-shares.result.now)) c.args.tenants.now c.loop-index.lines.items c.loop-index.index c.index-tenants-index.result c.line_of-line.result c.loop-index.invariant.1 lt c.index-tenants-index.is line),
    )

pub returns-clause-named : goal.returns-clause-named
returns-clause-named c =
    let same : c.as_slice-shares.result.now ≡ c.in_ok-given.given.shares.items = c.as_slice-shares.ensures.value in
    let long = ap (λ ss. length ss) same ∙ sym (rates-long c.in_ok-given.given.shares.items) ∙ shares-long (demands c.args.caps.now c.args.tenants.now) (share_rates c.in_ok-given.given.shares.items) c.in_ok-given.ensures.feasible in
    let t = c.loop-index-test.false in
    let r = rates-long c.as_slice-shares.result.now in
    all-named (demands c.args.caps.now c.args.tenants.now) (share_rates c.as_slice-shares.result.now) c.loop-index.lines.items c.loop-index.index
    (all-rates c.loop-index.lines.items (share_rates c.as_slice-shares.result.now) c.loop-index.index c.loop-index.invariant.0 (omega arith)) c.loop-index.invariant.1 (omega arith)

pub returns-clause-sound : goal.returns-clause-sound
returns-clause-sound c =
    let same : c.as_slice-shares.result.now ≡ c.in_ok-given.given.shares.items = c.as_slice-shares.ensures.value in
    let long = ap (λ ss. length ss) same ∙ sym (rates-long c.in_ok-given.given.shares.items) ∙ shares-long (demands c.args.caps.now c.args.tenants.now) (share_rates c.in_ok-given.given.shares.items) c.in_ok-given.ensures.feasible in
    let t = c.loop-index-test.false in
    let r = rates-long c.as_slice-shares.result.now in record {
      feasible = subst (IsFeasible (demands c.args.caps.now c.args.tenants.now)) (sym (ap share_rates same) ∙ sym (all-rates c.loop-index.lines.items (share_rates c.as_slice-shares.result.now) c.loop-index.index c.loop-index.invariant.0 (omega arith))) c.in_ok-given.ensures.feasible;
      right = named-right (demands c.args.caps.now c.args.tenants.now) (share_rates c.loop-index.lines.items) c.args.tenants.now c.loop-index.lines.items (returns-clause-named c);
    }
