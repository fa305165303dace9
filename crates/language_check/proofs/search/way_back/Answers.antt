use Rattle.std.proofs.Common.{◌≡◌, ◌<◌, ◌++◌, ℕ, List, length, get_or, refl, sym, ◌∙◌, ap, arith}
use Rattle.language_check.specs.declared.search.Triple.{Triple}
use Rattle.language_check.proofs.Rows.{get-at}
use Rattle.language_check.proofs.Searching.{way-step, way-end}
use Rattle.language_check.proofs.search.way_back.Goals as goal

abbrev none : Triple
none = record { symbol = 0; first = 0; second = 0 }

pub steps-preserved : goal.steps-preserved
steps-preserved c =
    let found : List Triple = c.args.found.now in
    let i : ℕ = c.steps.at in
    let within : i < length found = c.steps.invariant.0 in
    let above : 0 < i = c.steps-test.true in
    let long : length c.args.from.now ≡ length found = c.requires.earlier.long in
    let inside : i < length c.args.from.now = omega arith in
    let less : get_or c.args.from.now i 0 < i = c.requires.earlier.earlier i above inside in (
      omega arith,
      λ u w.
          let next = way-step found c.args.from.now c.args.turn i (get_or found i none).symbol c.steps.trail above (get_or found i none) (get-at found i none within) refl c.steps.invariant.1 u w in
          (next.0, next.1, next.2 ∙ ap (λ (l : List ℕ). l ++ next.0) (sym c.in_ok-push.ensures.ok)),
    )

pub returns : goal.returns
returns c = λ u w.
    let found : List Triple = c.args.found.now in
    let i : ℕ = c.steps.at in
    let within : i < length found = c.steps.invariant.0 in
    let test = c.steps-test.false in
    let first : i ≡ 0 = omega arith in
    c.in_ok-push-2.ensures.ok ∙ way-end found c.args.from.now c.args.turn i (get_or found i none).symbol c.steps.trail first (get_or found i none) (get-at found i none within) refl c.steps.invariant.1 u w
