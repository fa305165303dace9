use Rattle.std.proofs.Common.{◌≡◌, ◌+◌, ◌-◌, ◌≤◌, inl, Some, length, slice_get, slice_index, refl, sym, ◌∙◌, ap, subst, unwrap_or, arith}
use Rattle.std.proofs.lemmas.Option.{slice_get_read}
use Rattle.fair_share.specs.declared.cap.Cap.{Cap}
use Rattle.fair_share.proofs.Climbing.{climb-ends, climb-on, met-here, place-within}
use Rattle.fair_share.proofs.climb.has_room.Goals.{then-rate-taken-via-then-rate-taken, then-rate-taken-via-else-rate-taken+then-rate-taken-2}
use Rattle.fair_share.proofs.climb.has_room.Goals as goal

pub returns-in_default : goal.returns-in_default
returns-in_default c = λ place cap e m. climb-ends c.args.caps.now c.args.start c.up.at c.up.left (λ c'. (cap : Cap) → slice_get c.args.caps.now c' ≡ Some cap → slice_index c.args.used.now c' + c.args.amount ≤ cap.rate) (inl c.in_default.is) c.up.invariant place m cap e

pub returns-then-rate-taken : goal.returns-then-rate-taken
returns-then-rate-taken c = record {
  place = c.in-Some.place;
  cap = c.index-caps-place.result;
  stands = slice_get_read c.args.caps.now (length c.args.caps.now) c.in-Some.place c.index-caps-place.result refl (place-within c.args.caps.now c.up.at c.in-Some.place c.in-Some.is c.up.invariant.place) c.index-caps-place.is;
  met = c.up.invariant.part c.in-Some.place (met-here c.args.caps.now c.requires.forest c.up.at c.up.left (c.up.left - 1) c.in-Some.place c.in-Some.is (let t = c.up-test.true in omega arith));
  short = elim c.then-rate-taken.branch [ then-rate-taken-via-then-rate-taken w ↦ (let t = w.if-rate-taken.true in omega arith) | then-rate-taken-via-else-rate-taken+then-rate-taken-2 w ↦ (let t = w.if-rate-taken-2.true in let f = w.if-rate-taken.false in omega arith) ];
}

pub up-preserved : goal.up-preserved
up-preserved c =
    let lt = place-within c.args.caps.now c.up.at c.in-Some.place c.in-Some.is c.up.invariant.place in
    let stands = slice_get_read c.args.caps.now (length c.args.caps.now) c.in-Some.place c.index-caps-place.result refl lt c.index-caps-place.is in
    climb-on c.args.caps.now c.requires.forest c.args.start c.up.at c.up.left (c.up.left - 1) c.in-Some.place c.index-caps-place.result
    (λ c'. (cap : Cap) → slice_get c.args.caps.now c' ≡ Some cap → slice_index c.args.used.now c' + c.args.amount ≤ cap.rate) c.up.invariant c.in-Some.is (let t = c.up-test.true in omega arith) stands lt
    (λ cap e. let same : c.index-caps-place.result ≡ cap = ap (λ o. unwrap_or o cap) (sym stands ∙ e) in
    subst (λ x. slice_index c.args.used.now c.in-Some.place + c.args.amount ≤ x.rate) same (let f = c.if-rate-taken.false in let g = c.if-rate-taken-2.false in omega arith))
