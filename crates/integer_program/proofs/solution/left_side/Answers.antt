use Rattle.std.proofs.Common.{◌≡◌, ◌≤◌, ◌^◌, ◌+ℤ◌, pos, get_or, arith, to_z, w64, nat_abs, sym, ap, ◌∙◌}
use Rattle.std.proofs.lemmas.Int.{ints}
use Rattle.merlin_model.specs.Programs.{coefficient_if}
use Rattle.integer_program.proofs.Bounds.{within, all_at}
use Rattle.integer_program.proofs.Sides.{left_more}
use Rattle.integer_program.proofs.solution.left_side.Goals as goal
use Rattle.integer_program.proofs.solution.left_side.Goals.{then-point-variable, else-point-variable}

pub overflow_add-left : goal.overflow_add-left
overflow_add-left c =
    let entries = c.args.entries.now in
    let small = within (10 ^ 9) (get_or entries c.loop-variable.variable-index (0, pos 0)).1 (all_at (λ e. nat_abs e.1 ≤ 10 ^ 9) entries c.loop-variable.variable-index (0, pos 0) c.requires.small c.loop-variable-test.true) in
    let b = c.loop-variable.invariant.bound in
    omega (arith, ints)

pub loop-variable-preserved : goal.loop-variable-preserved
loop-variable-preserved c =
    let entries = c.args.entries.now in
    let k = c.loop-variable.variable-index in
    let small = within (10 ^ 9) (get_or entries k (0, pos 0)).1 (all_at (λ e. nat_abs e.1 ≤ 10 ^ 9) entries k (0, pos 0) c.requires.small c.loop-variable-test.true) in
    let low = c.loop-variable.invariant.bound.low in
    let high = c.loop-variable.invariant.bound.high in
    let more = left_more entries c.args.point.now k (to_z w64 c.loop-variable.left-bits) (to_z w64 c.if-point-variable.left-bits) c.loop-variable-test.true small c.loop-variable.invariant in
    elim c.if-point-variable.branch [
      | then-point-variable w ↦
          let sum : to_z w64 c.if-point-variable.left-bits ≡ to_z w64 c.loop-variable.left-bits +ℤ (get_or entries k (0, pos 0)).1 = let e = w.left-is in omega (arith, ints) in
          more (sum ∙ ap (λ b. to_z w64 c.loop-variable.left-bits +ℤ coefficient_if b (get_or entries k (0, pos 0)).1) (sym w.if-point-variable.true))
      | else-point-variable w ↦
          let sum : to_z w64 c.if-point-variable.left-bits ≡ to_z w64 c.loop-variable.left-bits +ℤ pos 0 = let e = w.left-is in omega (arith, ints) in
          more (sum ∙ ap (λ b. to_z w64 c.loop-variable.left-bits +ℤ coefficient_if b (get_or entries k (0, pos 0)).1) (sym w.if-point-variable.false))
    ]
