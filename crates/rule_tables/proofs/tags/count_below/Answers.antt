use Rattle.std.proofs.Common.{◌≡◌, ◌<◌, ◌+◌, ◌-◌, ◌/◌, ℕ, None, length, get_or, false, true, add-one, sym, ◌∙◌, subst, arith}
use Rattle.rule_tables.specs.declared.branches.TagKey.{TagKey}
use Rattle.rule_tables.proofs.Searching.{IsWithin, within-right, within-left, within-one, get-some}
use Rattle.rule_tables.proofs.tags.count_below.Goals as goal

abbrev no_key : TagKey
no_key = record { group = 0; state = 0; fun = None }

false-true : false ≡ true → ⊥
false-true e = cc

pub loop-low-preserved-then-is_below : goal.loop-low-preserved-then-is_below
loop-low-preserved-then-is_below c =
    let low : ℕ = c.loop-low.low in
    let high : ℕ = c.loop-low.high in
    let middle : ℕ = low + (high - low) / 2 in
    let less : low < high = c.loop-low-test.true in
    let most = c.loop-low.invariant.1 in
    let under : middle < length c.args.tags.now = omega arith in (
      omega arith,
      most,
      λ up. subst (λ n. IsWithin c.args.tags.now c.args.key.now n high) (sym (add-one middle))
          (within-right c.args.tags.now c.args.key.now up low high middle (c.loop-low.invariant.2 up) (get_or c.args.tags.now middle no_key) (get-some c.args.tags.now middle no_key under) (c.is_below.ensures.0 c.if-is_below.true)),
    )

pub loop-low-preserved : goal.loop-low-preserved
loop-low-preserved c =
    let low : ℕ = c.loop-low.low in
    let high : ℕ = c.loop-low.high in
    let middle : ℕ = low + (high - low) / 2 in
    let less : low < high = c.loop-low-test.true in
    let most = c.loop-low.invariant.1 in
    let under : middle < length c.args.tags.now = omega arith in (
      omega arith,
      omega arith,
      λ up.
          within-left c.args.tags.now c.args.key.now up low high middle (c.loop-low.invariant.2 up) (get_or c.args.tags.now middle no_key) (get-some c.args.tags.now middle no_key under) (λ lower. false-true (sym c.if-is_below.false ∙ c.is_below.ensures.1 lower)),
    )

pub returns : goal.returns
returns c = λ up. within-one c.args.tags.now c.args.key.now c.loop-low.low c.loop-low.high (c.loop-low.invariant.2 up) c.loop-low-test.false (let most = c.loop-low.invariant.1 in let least = c.loop-low.invariant.0 in omega arith)
