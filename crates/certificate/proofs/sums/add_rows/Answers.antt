use Rattle.std.proofs.Common.{◌≡◌, ◌*◌, ◌^◌, ◌+ℤ◌, ◌*ℤ◌, sym, ◌∙◌, ap, subst, get_or, length, take, to_z, of_z, w64, arith}
use Rattle.std.proofs.lemmas.Int.{ints}
use Rattle.std.proofs.lemmas.List.{take_all}
use Rattle.std.specs.Option.{option_copied}
use Rattle.merlin_model.specs.Programs.{row_at}
use Rattle.merlin_model.specs.Trees.{coefficient_in}
use Rattle.integer_program.specs.Bounds.{IsBounded}
use Rattle.certificate.specs.Adding.{IsSum, sum_at}
use Rattle.certificate.proofs.AtCutoffs.{is-at}
use Rattle.certificate.proofs.RowSteps.{small-more}
use Rattle.certificate.proofs.Totals.{no_weight, sum_more}
use Rattle.certificate.proofs.WeightsAt.{weight_at}
use Rattle.certificate.proofs.sums.add_rows.Goals as goal

pub loop-w-init : goal.loop-w-init
loop-w-init g c = c.requires.none

pub add_row-requires : goal.add_row-requires
add_row-requires g c =
    let at = is-at _ _ _ _ _ (option_copied c.args.cutoff) (g.met.P.Program.cutoffs c.args.program.now) (g.met.P.Program.is_program c.args.program.now) c.requires.takes in
    let w = weight_at _ _ c.args.weights.now c.loop-w.w-index at c.requires.weights c.loop-w-test.true in
    let weight : to_z w64 (of_z w64 (get_or c.args.weights.now c.loop-w.w-index no_weight).weight) ≡ (get_or c.args.weights.now c.loop-w.w-index no_weight).weight = let l = w.small.low in let h = w.small.high in omega (arith, ints) in
    let few = w.few in let h = c.loop-w-test.true in
    record {
      takes = c.requires.takes;
      size = c.requires.size;
      in_range = w.exists;
      weight = subst (IsBounded (2 ^ 60)) (sym weight) w.small;
      sums = c.loop-w.invariant.size ∙ at.variables_same;
      least = c.loop-w.invariant.least;
      small = small-more (c.loop-w.w-index * 2 ^ 105) (2 ^ 124) c.loop-w.sums (omega arith) c.loop-w.invariant.small;
    }

pub loop-w-preserved : goal.loop-w-preserved
loop-w-preserved g c =
    let at = is-at _ _ _ _ _ (option_copied c.args.cutoff) (g.met.P.Program.cutoffs c.args.program.now) (g.met.P.Program.is_program c.args.program.now) c.requires.takes in
    let w = weight_at _ _ c.args.weights.now c.loop-w.w-index at c.requires.weights c.loop-w-test.true in
    let weight : to_z w64 (of_z w64 (get_or c.args.weights.now c.loop-w.w-index no_weight).weight) ≡ (get_or c.args.weights.now c.loop-w.w-index no_weight).weight = let l = w.small.low in let h = w.small.high in omega (arith, ints) in
    sum_more _ _ c.args.weights.now c.loop-w.w-index c.loop-w.sums c.add_row.new.sums c.loop-w-test.true c.loop-w.invariant (record {
      size = c.add_row.ensures.sums ∙ sym at.variables_same;
      each = λ v. c.add_row.ensures.each v ∙ ap (λ z. sum_at c.loop-w.sums v +ℤ (z *ℤ coefficient_in v (row_at (g.P.Program.instance c.args.program.now (option_copied c.args.cutoff)) (get_or c.args.weights.now c.loop-w.w-index no_weight).row).entries)) weight;
      least = c.add_row.ensures.least;
      small = c.add_row.ensures.small;
    })

pub returns : goal.returns
returns g c =
    let h = c.loop-w-test.false in let k = c.loop-w.auto.w-index-end in
    let end : c.loop-w.w-index ≡ length c.args.weights.now = omega arith in
    subst (λ ws. IsSum (g.P.Program.instance c.args.program.now (option_copied c.args.cutoff)) c.args.fixed.now ws (length c.args.weights.now) c.loop-w.sums) (take_all c.loop-w.w-index c.args.weights.now c.loop-w-test.false)
    (subst (λ n. IsSum (g.P.Program.instance c.args.program.now (option_copied c.args.cutoff)) c.args.fixed.now (take c.loop-w.w-index c.args.weights.now) n c.loop-w.sums) end c.loop-w.invariant)
