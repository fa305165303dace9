use Rattle.std.proofs.Common.{◌≡◌, ◌≢◌, ◌-◌, ◌<◌, inl, Bool, true, false, length, refl, sym, subst, arith}
use Rattle.std.proofs.lemmas.Option.{slice_get_read}
use Rattle.fair_share.specs.Shares.{is_on_way}
use Rattle.fair_share.proofs.Climbing.{climb-ends, climb-on, met-here, place-within}
use Rattle.fair_share.proofs.climb.is_under.Goals as goal

pub returns-in_default-clause-is : goal.returns-in_default-clause-is
returns-in_default-clause-is c = by (is_on_way c.args.caps.now (length c.args.caps.now) c.args.start c.args.wanted) refl
  where
    by : (b : Bool) → is_on_way c.args.caps.now (length c.args.caps.now) c.args.start c.args.wanted ≡ b → false ≡ b
    by false e = refl
    by true e = absurd (climb-ends c.args.caps.now c.args.start c.up.at c.up.left (λ k. k ≢ c.args.wanted) (inl c.in_default.is) c.up.invariant c.args.wanted e refl)

pub returns-then-place-wanted-clause-is : goal.returns-then-place-wanted-clause-is
returns-then-place-wanted-clause-is c =
    let met = c.up.invariant.part c.in-Some.place (met-here c.args.caps.now c.requires.forest c.up.at c.up.left (c.up.left - 1) c.in-Some.place c.in-Some.is (let t = c.up-test.true in omega arith)) in
    sym (subst (λ k. is_on_way c.args.caps.now (length c.args.caps.now) c.args.start k ≡ true) c.if-place-wanted.true met)

pub up-preserved : goal.up-preserved
up-preserved c =
    let lt = place-within c.args.caps.now c.up.at c.in-Some.place c.in-Some.is c.up.invariant.place in
    let stands = slice_get_read c.args.caps.now (length c.args.caps.now) c.in-Some.place c.index-caps-place.result refl lt c.index-caps-place.is in
    climb-on c.args.caps.now c.requires.forest c.args.start c.up.at c.up.left (c.up.left - 1) c.in-Some.place c.index-caps-place.result (λ k. k ≢ c.args.wanted) c.up.invariant c.in-Some.is
    (let t = c.up-test.true in omega arith) stands lt c.if-place-wanted.false

pub returns-then-place-wanted-clause-within : goal.returns-then-place-wanted-clause-within
returns-then-place-wanted-clause-within c = λ e. subst (λ k. k < length c.args.caps.now) c.if-place-wanted.true (place-within c.args.caps.now c.up.at c.in-Some.place c.in-Some.is c.up.invariant.place)
