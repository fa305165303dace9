use Rattle.std.proofs.Common.{ℕ, ℤ, ◌≡◌, ◌<◌, List, pos, get_or, length, None, subst, sym, ◌∙◌, arith}
use Rattle.merlin_model.specs.Programs.{Program, IsProgram, variables, row_at}
use Rattle.integer_program.proofs.Bounds.{all_at}
use Rattle.integer_program.proofs.Rows.{row_is}
use Rattle.certificate.specs.Adding.{IsCleared}
use Rattle.certificate.proofs.Clearing.{cleared_none, cleared_more, cleared_whole}
use Rattle.certificate.proofs.sums.clear_row.Goals as goal

-- an entry that is cleared is one of a variable
entry_exists : (program : Program) (row : ℕ) (items : List (ℕ × ℤ)) (i : ℕ) → IsProgram program → row < length program.rows → items ≡ (row_at program row).entries → i < length items → (get_or items i (0, pos 0)).0 < variables program
entry_exists program row items i is lt e within =
    subst (λ (es : List (ℕ × ℤ)). (get_or es i (0, pos 0)).0 < variables program) (sym e)
    (all_at (λ (e : ℕ × ℤ). e.0 < variables program) (row_at program row).entries i (0, pos 0) (row_is program row is lt).exist (subst (λ es. i < length es) e within))

pub loop-variable-init : goal.loop-variable-init
loop-variable-init g c = cleared_none c.entries-variable-items.result.now c.args.sums.now

pub set-requires : goal.set-requires
set-requires g c =
    let exists = entry_exists _ c.args.row _ c.loop-variable.variable-index (g.met.P.Program.is_program c.args.program.now None tt) c.requires.in_range c.entries-variable-items.ensures c.loop-variable-test.true in
    let size = c.loop-variable.invariant.size in let start = c.requires.size in
    omega arith

pub loop-variable-preserved : goal.loop-variable-preserved
loop-variable-preserved g c =
    let exists = entry_exists _ c.args.row _ c.loop-variable.variable-index (g.met.P.Program.is_program c.args.program.now None tt) c.requires.in_range c.entries-variable-items.ensures c.loop-variable-test.true in
    let size = c.loop-variable.invariant.size in let start = c.requires.size in
    cleared_more c.entries-variable-items.result.now c.args.sums.now c.loop-variable.sums _ c.loop-variable.variable-index c.loop-variable-test.true c.loop-variable.invariant (omega arith) c.set.ensures

pub returns : goal.returns
returns g c =
    subst (λ es. IsCleared es c.args.sums.now c.loop-variable.sums) c.entries-variable-items.ensures
    (cleared_whole c.entries-variable-items.result.now c.args.sums.now c.loop-variable.sums c.loop-variable.variable-index c.loop-variable.invariant c.loop-variable-test.false)
