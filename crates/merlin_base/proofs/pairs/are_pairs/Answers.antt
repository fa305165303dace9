use Rattle.std.proofs.Common.{◌≡◌, ◌==◌, ◌^◌, ℕ, List, Bool, true, false, [], length, sym, ◌∙◌, ap, arith}
use Rattle.std.proofs.lemmas.Int.{ints}
use Rattle.merlin_base.proofs.Decimals.{between}
use Rattle.merlin_base.proofs.Skipping.{IsNextPair, early, late, zero, passed_on, wrong_pair, no_pair}
use Rattle.merlin_base.proofs.pairs.are_pairs.Goals as goal
use Rattle.merlin_base.proofs.pairs.are_pairs.Goals.{then-pair-next-via-then-pair-next, then-pair-next-via-else-pair-next+then-bound-pair, then-pair-next-via-else-pair-next+else-bound-pair+then-pair-eq0}

true-false : true ≡ false → ⊥
true-false e = cc

-- a text that isn't empty
some : (rest : List ℕ) (b : Bool) → b ≡ (length rest == 0) → b ≡ false → rest ≡ [] → ⊥
some rest b e f g = true-false (sym (ap (λ (xs : List ℕ). length xs == 0) g) ∙ sym e ∙ f)

pub returns-in_default-clause-no : goal.returns-in_default-clause-no
returns-in_default-clause-no c = λ _.
    no_pair c.args.bound c.args.limit c.loop-rest.next c.args.text.now c.loop-rest.rest.now c.requires.bound c.requires.limit c.loop-rest.invariant
    (some c.loop-rest.rest.now c.is_empty.result c.is_empty.ensures c.loop-rest-test.true) c.in_default.ensures.none

pub returns-then-pair-next-clause-no : goal.returns-then-pair-next-clause-no
returns-then-pair-next-clause-no c = λ _.
    let read = c.in-Some.ensures.some in
    let next : IsNextPair c.args.limit c.loop-rest.rest.now c.in-Some.pair c.in-Some.others.now = record { whole = read.0; short = read.1; small = read.2; begins = read.3 } in
    let l = c.requires.limit in let size = read.2 in
    let w = between (2 ^ 60) c.in-Some.pair.1 (omega arith) in
    let low = w.low in let high = w.high in
    wrong_pair c.args.bound c.args.limit c.loop-rest.next c.args.text.now c.loop-rest.rest.now c.in-Some.others.now c.in-Some.pair c.requires.bound c.requires.limit c.loop-rest.invariant
    (some c.loop-rest.rest.now c.is_empty.result c.is_empty.ensures c.loop-rest-test.true) next
    (elim c.then-pair-next.branch [
      | then-pair-next-via-then-pair-next w ↦ early w.if-pair-next.true
      | then-pair-next-via-else-pair-next+then-bound-pair w ↦ late w.if-bound-pair.true
      | then-pair-next-via-else-pair-next+else-bound-pair+then-pair-eq0 w ↦ (let z = w.if-pair-eq0.true in zero (omega (arith, ints)))
    ])

pub loop-rest-preserved : goal.loop-rest-preserved
loop-rest-preserved c =
    let read = c.in-Some.ensures.some in
    let next : IsNextPair c.args.limit c.loop-rest.rest.now c.in-Some.pair c.in-Some.others.now = record { whole = read.0; short = read.1; small = read.2; begins = read.3 } in
    let l = c.requires.limit in let size = read.2 in
    let w = between (2 ^ 60) c.in-Some.pair.1 (omega arith) in
    let low = w.low in let high = w.high in let z = c.if-pair-eq0.false in
    passed_on c.args.bound c.args.limit c.loop-rest.next c.args.text.now c.loop-rest.rest.now c.in-Some.others.now c.in-Some.pair c.loop-rest.invariant next c.if-pair-next.false c.if-bound-pair.false (λ e. z (omega (arith, ints)))
