use Rattle.std.proofs.Common.{◌≡◌, ◌≢◌, pos, None, ◌∙◌, to_z, of_z, w64, arith}
use Rattle.std.proofs.lemmas.Int.{ints}
use Rattle.cutoff_program.specs.declared.flow.Variable.{Variable}
use Rattle.merlin_program.specs.Kept.{term_in_row}
use Rattle.merlin_program.proofs.Growing.{entries-more, entries-none}
use Rattle.merlin_program.proofs.rows.push_entries.Goals.{then-coefficient-ne0+in_ok-push, else-coefficient-ne0}
use Rattle.merlin_program.proofs.rows.push_entries.Goals as goal

abbrev no_variable : Variable
no_variable = record { flow = 0; rate = 0; edge = record { from = 0; to = 0; crosses = None } }

pub loop-number-preserved : goal.loop-number-preserved
loop-number-preserved c =
    let same : to_z w64 (of_z w64 c.added-coefficient.result) ≡ c.added-coefficient.result = omega (arith, ints) in
    elim c.if-coefficient-ne0.branch [
      | then-coefficient-ne0+in_ok-push w ↦
          let bits = w.if-coefficient-ne0.true in
          let other : to_z w64 (of_z w64 c.added-coefficient.result) ≢ pos 0 = λ e. bits (let z : c.added-coefficient.result ≡ pos 0 = omega (arith, ints) in let b : of_z w64 c.added-coefficient.result ≡ 0 = omega (arith, ints) in b) in
          entries-more (term_in_row c.args.problem.now c.args.of) c.args.variables.now c.loop-number.number no_variable _ c.args.entries.now c.loop-number.entries _ c.loop-number-test.true (same ∙ c.added-coefficient.ensures) other c.loop-number.invariant (w.entries-is ∙ w.in_ok-push.ensures.ok)
      | else-coefficient-ne0 w ↦
          let bits = w.if-coefficient-ne0.false in
          let nil : c.added-coefficient.result ≡ pos 0 = omega (arith, ints) in
          entries-none (term_in_row c.args.problem.now c.args.of) c.args.variables.now c.loop-number.number no_variable c.added-coefficient.result c.args.entries.now c.loop-number.entries _ c.loop-number-test.true c.added-coefficient.ensures nil c.loop-number.invariant w.entries-is
    ]
