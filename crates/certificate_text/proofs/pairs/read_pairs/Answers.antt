use Rattle.std.proofs.Common.{◌≡◌, ◌≢◌, ◌==◌, ◌+◌, ◌++◌, ◌^◌, Bool, ℕ, pos, List, length, true, false, inl, inr, refl, sym, ◌∙◌, ap, subst, [], arith}
use Rattle.std.proofs.lemmas.Int.{ints}
use Rattle.integer_program.proofs.Bounds.{within}
use Rattle.merlin_base.specs.Pairs.{pairs_text}
use Rattle.merlin_base.proofs.PairTexts.{ArePairsTo, none_next, follows, cannot_follow, out_of_bound, is_zero, pairs_none, pairs_push, more_text}
use Rattle.certificate_text.proofs.pairs.read_pairs.Goals as goal

true-false : true ≡ false → ⊥
true-false e = cc

-- a text that isn't empty
some : (rest : List ℕ) (b : Bool) → b ≡ (length rest == 0) → b ≡ false → rest ≡ [] → ⊥
some rest b e f g = true-false (sym (ap (λ (xs : List ℕ). length xs == 0) g) ∙ sym e ∙ f)

pub loop-rest-init : goal.loop-rest-init
loop-rest-init c = record {
  text = let e = c.new-pairs.ensures in subst (λ ps. c.args.text.now ≡ pairs_text ps ++ c.args.text.now) (sym e) refl;
  are = subst (λ ps. ArePairsTo c.args.bound c.args.limit ps 0) (sym c.new-pairs.ensures) (pairs_none c.args.bound c.args.limit);
  begins = inl c.new-pairs.ensures;
}

pub returns-in_default-clause-none : goal.returns-in_default-clause-none
returns-in_default-clause-none c =
    none_next c.args.bound c.args.limit c.args.text.now c.loop-rest.pairs c.loop-rest.next c.loop-rest.rest.now c.requires.bound c.requires.limit c.loop-rest.invariant.text c.loop-rest.invariant.are c.loop-rest.invariant.begins
    (some c.loop-rest.rest.now c.is_empty.result c.is_empty.ensures c.loop-rest-test.true) c.in_default.ensures.none

pub returns-then-pair-next-clause-none : goal.returns-then-pair-next-clause-none
returns-then-pair-next-clause-none c = λ pairs are e.
    let f = follows c.args.bound c.args.limit c.args.text.now c.loop-rest.pairs c.loop-rest.next c.loop-rest.rest.now c.in-Some.pair c.in-Some.others.now c.requires.bound c.requires.limit c.loop-rest.invariant.text c.loop-rest.invariant.are c.loop-rest.invariant.begins
    (some c.loop-rest.rest.now c.is_empty.result c.is_empty.ensures c.loop-rest-test.true) c.in-Some.ensures.some pairs are e in
    cannot_follow c.args.bound c.args.limit c.loop-rest.pairs f.0 c.loop-rest.next c.in-Some.pair c.loop-rest.invariant.are c.if-pair-next.true f.1

pub returns-then-bound-pair-clause-none : goal.returns-then-bound-pair-clause-none
returns-then-bound-pair-clause-none c = λ pairs are e.
    let f = follows c.args.bound c.args.limit c.args.text.now c.loop-rest.pairs c.loop-rest.next c.loop-rest.rest.now c.in-Some.pair c.in-Some.others.now c.requires.bound c.requires.limit c.loop-rest.invariant.text c.loop-rest.invariant.are c.loop-rest.invariant.begins
    (some c.loop-rest.rest.now c.is_empty.result c.is_empty.ensures c.loop-rest-test.true) c.in-Some.ensures.some pairs are e in
    out_of_bound c.args.bound c.args.limit c.loop-rest.pairs f.0 c.in-Some.pair c.if-bound-pair.true f.1

pub returns-then-pair-eq0-clause-none : goal.returns-then-pair-eq0-clause-none
returns-then-pair-eq0-clause-none c = λ pairs are e.
    let f = follows c.args.bound c.args.limit c.args.text.now c.loop-rest.pairs c.loop-rest.next c.loop-rest.rest.now c.in-Some.pair c.in-Some.others.now c.requires.bound c.requires.limit c.loop-rest.invariant.text c.loop-rest.invariant.are c.loop-rest.invariant.begins
    (some c.loop-rest.rest.now c.is_empty.result c.is_empty.ensures c.loop-rest-test.true) c.in-Some.ensures.some pairs are e in
    let l = c.requires.limit in let size = c.in-Some.ensures.some.2 in
    let w = within (2 ^ 60) c.in-Some.pair.1 (omega arith) in
    let low = w.low in let high = w.high in let z = c.if-pair-eq0.true in
    is_zero c.args.bound c.args.limit c.loop-rest.pairs f.0 c.in-Some.pair (omega (arith, ints)) f.1

pub loop-rest-preserved : goal.loop-rest-preserved
loop-rest-preserved c =
    let l = c.requires.limit in let size = c.in-Some.ensures.some.2 in
    let w = within (2 ^ 60) c.in-Some.pair.1 (omega arith) in
    let low = w.low in let high = w.high in let z = c.if-pair-eq0.false in
    let nonzero : c.in-Some.pair.1 ≢ pos 0 = λ e. z (omega (arith, ints)) in
    record {
      text = more_text c.args.text.now c.loop-rest.pairs c.push.new.self c.in-Some.pair c.loop-rest.rest.now c.in-Some.others.now c.loop-rest.invariant.text c.in-Some.ensures.some.0 c.in_ok-push.ensures.ok;
      are = subst (λ ps. ArePairsTo c.args.bound c.args.limit ps (c.in-Some.pair.0 + 1)) (sym c.in_ok-push.ensures.ok)
          (pairs_push c.args.bound c.args.limit c.loop-rest.pairs c.loop-rest.next c.in-Some.pair c.loop-rest.invariant.are c.if-pair-next.false c.if-bound-pair.false size nonzero);
      begins = inr c.in-Some.ensures.some.3;
    }
