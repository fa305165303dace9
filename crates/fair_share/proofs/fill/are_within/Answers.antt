use Rattle.std.proofs.Common.{◌≡◌, ◌<◌, false, true, length, refl, arith}
use Rattle.std.proofs.lemmas.Option.{slice_get_read, slice_get_within}
use Rattle.fair_share.proofs.fill.are_within.Goals as goal

pub returns-then-from-used : goal.returns-then-from-used
returns-then-from-used c = (
  (λ e. absurd (never e)),
  (λ h.
      let within : c.loop-index.index < length c.args.caps.now = (let t = c.loop-index-test.true in omega arith) in
      let stands = slice_get_read c.args.caps.now (length c.args.caps.now) c.loop-index.index c.index-caps-index.result refl within c.index-caps-index.is in
      let le = h c.loop-index.index c.index-caps-index.result stands in
      let t = c.if-from-used.true in
      let no : ⊥ = omega arith in
      absurd no),
)
  where
    never : false ≡ true → ⊥
    never e = cc

pub returns : goal.returns
returns c = (
  (λ e k cap stands. c.loop-index.invariant k cap (let l = slice_get_within c.args.caps.now k cap stands in let t = c.loop-index-test.false in omega arith) stands),
  (λ h. refl),
)
