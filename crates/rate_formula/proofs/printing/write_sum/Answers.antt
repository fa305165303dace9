use Rattle.std.proofs.Common.{◌≡◌, ◌++◌, ◌∙◌, codes, arith, ap}
use Rattle.rate_formula.specs.FormulaText.{part_text}
use Rattle.rate_formula.proofs.Joined.{written_first, written_next}
use Rattle.rate_formula.proofs.printing.write_sum.Goals as goal
use Rattle.rate_formula.proofs.printing.write_sum.Goals.{then-place-gt0+in_ok-extend_from_slice, else-place-gt0}

pub loop-place-preserved : goal.loop-place-preserved
loop-place-preserved c =
    let written = c.in_ok-write_part.ensures ∙ ap (λ part. c.if-place-gt0.text.items ++ part_text part) c.index-parts-place.is in
    elim c.if-place-gt0.branch [
      | then-place-gt0+in_ok-extend_from_slice w ↦
          let between : c.if-place-gt0.text.items ≡ c.loop-place.text.items ++ codes " + " = cc (w.text-is, w.in_ok-extend_from_slice.ensures.items) in
          written_next part_text (codes " + ") c.args.parts.now c.loop-place.place c.index-parts-place.result c.args.text.now.items c.loop-place.text.items c.if-place-gt0.text.items _ w.if-place-gt0.true c.loop-place-test.true c.loop-place.invariant between written
      | else-place-gt0 w ↦
          let same : c.if-place-gt0.text.items ≡ c.loop-place.text.items = cc (w.text-is) in
          written_first part_text (codes " + ") c.args.parts.now c.loop-place.place c.index-parts-place.result c.args.text.now.items c.loop-place.text.items c.if-place-gt0.text.items _ (omega arith) c.loop-place-test.true c.loop-place.invariant same written
    ]
