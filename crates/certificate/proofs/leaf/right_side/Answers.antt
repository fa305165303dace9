use Rattle.std.proofs.Common.{◌≡◌, refl, ◌∙◌, ap, get_or, to_z, arith}
use mir.Syntax.{w128}
use Rattle.std.proofs.lemmas.Int.{ints}
use Rattle.std.proofs.lemmas.List.{take_all}
use Rattle.std.specs.Option.{option_copied}
use Rattle.merlin_model.specs.Trees.{weighted_right}
use Rattle.certificate.proofs.AtCutoffs.{is-at, row_form}
use Rattle.certificate.proofs.RightSides.{is-term, right_more, term_fits, term_sum}
use Rattle.certificate.proofs.Totals.{no_weight}
use Rattle.certificate.proofs.WeightsAt.{weight_at}
use Rattle.certificate.proofs.leaf.right_side.Goals as goal

pub loop-w-init : goal.loop-w-init
loop-w-init g c = record { is = refl; small = record { low = omega (arith, ints); high = omega (arith, ints) } }

pub right-requires-clause-in_range : goal.right-requires-clause-in_range
right-requires-clause-in_range g c =
    let at = is-at _ _ _ _ _ (option_copied c.args.cutoff) (g.met.P.Program.cutoffs c.args.program.now) (g.met.P.Program.is_program c.args.program.now) c.requires.takes in
    (weight_at _ _ c.args.weights.now c.loop-w.w-index at c.requires.weights c.loop-w-test.true).exists

pub overflow_add-right : goal.overflow_add-right
overflow_add-right g c =
    let at = is-at _ _ _ _ _ (option_copied c.args.cutoff) (g.met.P.Program.cutoffs c.args.program.now) (g.met.P.Program.is_program c.args.program.now) c.requires.takes in
    let w = weight_at _ _ c.args.weights.now c.loop-w.w-index at c.requires.weights c.loop-w-test.true in
    let weight : c.from.result ≡ (get_or c.args.weights.now c.loop-w.w-index no_weight).weight = let e = c.from.ensures in let l = w.small.low in let h = w.small.high in omega (arith, ints) in
    let right : c.from-in-loop-w.result ≡ c.right.result = let e = c.from-in-loop-w.ensures in omega (arith, ints) in let few = w.few in let k = c.loop-w-test.true in
    let term = is-term (get_or c.args.weights.now c.loop-w.w-index no_weight).weight _ c.from.result c.from-in-loop-w.result _ w.small (row_form _ _ _ at w.exists).small_right weight (right ∙ c.right.ensures) refl in
    term_fits c.loop-w.w-index (to_z w128 c.loop-w.right-bits) _ (omega arith) c.loop-w.invariant.small term.small

pub loop-w-preserved : goal.loop-w-preserved
loop-w-preserved g c =
    let at = is-at _ _ _ _ _ (option_copied c.args.cutoff) (g.met.P.Program.cutoffs c.args.program.now) (g.met.P.Program.is_program c.args.program.now) c.requires.takes in
    let w = weight_at _ _ c.args.weights.now c.loop-w.w-index at c.requires.weights c.loop-w-test.true in
    let weight : c.from.result ≡ (get_or c.args.weights.now c.loop-w.w-index no_weight).weight = let e = c.from.ensures in let l = w.small.low in let h = w.small.high in omega (arith, ints) in
    let right : c.from-in-loop-w.result ≡ c.right.result = let e = c.from-in-loop-w.ensures in omega (arith, ints) in let few = w.few in let k = c.loop-w-test.true in
    let term = is-term (get_or c.args.weights.now c.loop-w.w-index no_weight).weight _ c.from.result c.from-in-loop-w.result _ w.small (row_form _ _ _ at w.exists).small_right weight (right ∙ c.right.ensures) refl in
    right_more _ c.args.weights.now c.loop-w.w-index (to_z w128 c.loop-w.right-bits) _ _ c.loop-w-test.true c.loop-w.invariant term (term_sum c.loop-w.w-index (to_z w128 c.loop-w.right-bits) _ (omega arith) c.loop-w.invariant.small term.small)

pub returns : goal.returns
returns g c = c.loop-w.invariant.is ∙ ap (weighted_right (g.P.Program.instance c.args.program.now (option_copied c.args.cutoff))) (take_all c.loop-w.w-index c.args.weights.now c.loop-w-test.false)
