use Rattle.std.proofs.Common.{◌≡◌, true, false, refl, sym, ◌∙◌, get_or, w64, rules, arith}
use Rattle.std.proofs.lemmas.Int.{to_z-of_z}
use mir.Val.{SFits}
use Rattle.std.specs.Option.{option_copied}
use Rattle.certificate.proofs.AtCutoffs.{is-at, row_narrower}
use Rattle.certificate.proofs.Totals.{no_weight}
use Rattle.certificate.proofs.WeightTests.{so_far_none, so_far_more, so_far_all, too_low, no_row_there, weight_there, is_weight, weight_is}
use Rattle.certificate.proofs.leaf.are_weights.Goals as goal

false-true : false ≡ true → ⊥
false-true e = cc

pub loop-w-init : goal.loop-w-init
loop-w-init g c = so_far_none _ _

pub loop-w-preserved : goal.loop-w-preserved
loop-w-preserved g c =
    let at = is-at _ _ _ _ _ (option_copied c.args.cutoff) (g.met.P.Program.cutoffs c.args.program.now) (g.met.P.Program.is_program c.args.program.now) c.requires in
    let same = at.rows_same in let rows = c.rows.ensures in let below = c.if-rows-w.false in
    let narrow = row_narrower _ _ (get_or c.args.weights.now c.loop-w.w-index no_weight).row at (omega arith) in
    let fits : SFits w64 (get_or c.args.weights.now c.loop-w.w-index no_weight).weight = search rules in
    let weight = to_z-of_z w64 (get_or c.args.weights.now c.loop-w.w-index no_weight).weight fits in
    so_far_more _ c.args.weights.now c.loop-w.w-index c.loop-w.next c.loop-w-test.true c.loop-w.invariant c.if-w-next.false (omega arith)
    (is_weight (g.P.Program.instance c.args.program.now (option_copied c.args.cutoff)) (get_or c.args.weights.now c.loop-w.w-index no_weight) c.is_equality.result _ (c.is_equality.ensures ∙ sym narrow.is_equality) weight (c.may_weigh.ensures.0 c.if-not-may_weigh.false))

pub returns-then-w-next : goal.returns-then-w-next
returns-then-w-next g c = (λ e. absurd (false-true e), λ all. absurd (too_low _ c.args.weights.now c.loop-w.w-index c.loop-w.next c.loop-w-test.true c.loop-w.invariant c.if-w-next.true all))

pub returns-then-rows-w : goal.returns-then-rows-w
returns-then-rows-w g c =
    let at = is-at _ _ _ _ _ (option_copied c.args.cutoff) (g.met.P.Program.cutoffs c.args.program.now) (g.met.P.Program.is_program c.args.program.now) c.requires in
    let same = at.rows_same in let rows = c.rows.ensures in let past = c.if-rows-w.true in
    (λ e. absurd (false-true e), λ all. absurd (no_row_there _ c.args.weights.now c.loop-w.w-index c.loop-w-test.true (omega arith) all))

pub returns-then-not-may_weigh : goal.returns-then-not-may_weigh
returns-then-not-may_weigh g c =
    let at = is-at _ _ _ _ _ (option_copied c.args.cutoff) (g.met.P.Program.cutoffs c.args.program.now) (g.met.P.Program.is_program c.args.program.now) c.requires in
    let rows = c.rows.ensures in let below = c.if-rows-w.false in
    let narrow = row_narrower _ _ (get_or c.args.weights.now c.loop-w.w-index no_weight).row at (omega arith) in
    let fits : SFits w64 (get_or c.args.weights.now c.loop-w.w-index no_weight).weight = search rules in
    let weight = to_z-of_z w64 (get_or c.args.weights.now c.loop-w.w-index no_weight).weight fits in (
      λ e. absurd (false-true e),
      λ all. sym c.if-not-may_weigh.true ∙ c.may_weigh.ensures.1 (weight_is (g.P.Program.instance c.args.program.now (option_copied c.args.cutoff)) (get_or c.args.weights.now c.loop-w.w-index no_weight) c.is_equality.result _ (c.is_equality.ensures ∙ sym narrow.is_equality) weight
          (weight_there _ c.args.weights.now c.loop-w.w-index c.loop-w-test.true all)),
    )

pub returns : goal.returns
returns g c =
    let h = c.loop-w-test.false in let k = c.loop-w.auto.w-index-end in
    (λ e. so_far_all _ c.args.weights.now c.loop-w.w-index c.loop-w.next (omega arith) c.loop-w.invariant, λ all. refl)
