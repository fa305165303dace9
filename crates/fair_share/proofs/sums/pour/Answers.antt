use Rattle.std.proofs.Common.{◌≡◌, suc, ◌+◌, ◌-◌, length, subst, length-set, get_or, ◌∙◌, refl, arith}
use Rattle.std.proofs.lemmas.Option.{slice_get_read}
use Rattle.fair_share.proofs.Pouring.{HasCome, comes, come-none, come-some, come-small, come-last, above-of, above-none}
use Rattle.fair_share.proofs.sums.pour.Goals as goal

pub caps-init : goal.caps-init
caps-init c = (omega arith, c.requires.direct.direct.as_many, λ ts xs direct. comes c.args.caps.now c.requires.forest ts xs c.args.sums.now direct)

pub bounds-sums-above : goal.bounds-sums-above
bounds-sums-above c =
    let t = c.caps-test.true in
    let i = c.caps.invariant in
    let at = slice_get_read c.args.caps.now (length c.args.caps.now) (c.caps.left - 1) c.index-caps-left.result refl (omega arith) c.index-caps-left.is in
    let lower = c.requires.forest (c.caps.left - 1) c.in-Some.above c.index-caps-left.result at c.in-Some.is in
    omega arith

pub overflow_add-sums : goal.overflow_add-sums
overflow_add-sums c =
    let t = c.caps-test.true in
    let i = c.caps.invariant in
    let at = slice_get_read c.args.caps.now (length c.args.caps.now) (c.caps.left - 1) c.index-caps-left.result refl (omega arith) c.index-caps-left.is in
    let one : c.caps.left ≡ suc (c.caps.left - 1) = omega arith in
    let d = c.requires.direct in
    let small = come-small c.args.caps.now c.requires.forest d.tenants d.shares c.caps.sums (c.caps.left - 1) c.in-Some.above (omega arith)
    (above-of c.args.caps.now c.requires.forest (c.caps.left - 1) c.in-Some.above c.index-caps-left.result at c.in-Some.is) (subst (HasCome c.args.caps.now d.tenants d.shares c.caps.sums) one (i.2 d.tenants d.shares d.direct)) in
    let b = d.small in
    omega arith

pub caps-preserved-in-Some : goal.caps-preserved-in-Some
caps-preserved-in-Some c =
    let t = c.caps-test.true in
    let i = c.caps.invariant in
    let at = slice_get_read c.args.caps.now (length c.args.caps.now) (c.caps.left - 1) c.index-caps-left.result refl (omega arith) c.index-caps-left.is in
    let one : c.caps.left ≡ suc (c.caps.left - 1) = omega arith in (
      omega arith,
      length-set c.caps.sums c.in-Some.above (get_or c.caps.sums c.in-Some.above 0 + get_or c.caps.sums (c.caps.left - 1) 0) ∙ i.1,
      (λ ts xs direct. come-some c.args.caps.now c.requires.forest ts xs c.caps.sums (c.caps.left - 1) c.in-Some.above (omega arith)
          (above-of c.args.caps.now c.requires.forest (c.caps.left - 1) c.in-Some.above c.index-caps-left.result at c.in-Some.is) (subst (HasCome c.args.caps.now ts xs c.caps.sums) one (i.2 ts xs direct))),
    )

pub caps-preserved : goal.caps-preserved
caps-preserved c =
    let t = c.caps-test.true in
    let i = c.caps.invariant in
    let at = slice_get_read c.args.caps.now (length c.args.caps.now) (c.caps.left - 1) c.index-caps-left.result refl (omega arith) c.index-caps-left.is in
    let one : c.caps.left ≡ suc (c.caps.left - 1) = omega arith in (
      omega arith,
      i.1,
      (λ ts xs direct. come-none c.args.caps.now c.requires.forest ts xs c.caps.sums (c.caps.left - 1) (omega arith)
          (above-none c.args.caps.now c.requires.forest (c.caps.left - 1) c.index-caps-left.result at c.in_default.is) (subst (HasCome c.args.caps.now ts xs c.caps.sums) one (i.2 ts xs direct))),
    )

pub returns-clause-used : goal.returns-clause-used
returns-clause-used c ts xs direct = come-last c.args.caps.now c.requires.forest ts xs c.caps.sums (subst (HasCome c.args.caps.now ts xs c.caps.sums) (let t = c.caps-test.false in omega arith) (c.caps.invariant.2 ts xs direct))
