use Rattle.std.proofs.Common.{◌≡◌, ◌≤◌, ◌<◌, ℕ, ℤ, length, subst, sym, ap, ◌∙◌, arith, None, to_z, of_z, w64}
use Rattle.std.proofs.lemmas.Int.{ints}
use Rattle.std.specs.List.{AllByRecursion}
use Rattle.std.specs.Option.{option_copied}
use Rattle.merlin_model.specs.Programs.{IsNarrowerRow, row_at, left_side}
use Rattle.integer_program.proofs.Bounds.{ascending_few}
use Rattle.integer_program.proofs.Rows.{narrower_than_none, narrower_at, rows-same, row_is}
use Rattle.integer_program.proofs.Sides.{compares-at}
use Rattle.integer_program.proofs.solution.meets_row.Goals as goal

pub left_side-left-requires-clause-few : goal.left_side-left-requires-clause-few
left_side-left-requires-clause-few g c =
    let form = g.met.P.Program.is_program c.args.program.now None tt in
    let row = row_is (g.P.Program.instance c.args.program.now None) c.args.row form c.requires.in_range in
    let few = form.few_variables in
    let size = ascending_few (λ (e : ℕ × ℤ). e.0) _ _ row.ascend row.exist in
    subst (λ es. length es ≤ 32768) (sym c.entries.ensures) (omega arith)

pub left_side-left-requires-clause-exist : goal.left_side-left-requires-clause-exist
left_side-left-requires-clause-exist g c =
    let row = row_is (g.P.Program.instance c.args.program.now None) c.args.row (g.met.P.Program.is_program c.args.program.now None tt) c.requires.in_range in
    subst (λ n. AllByRecursion (λ (e : ℕ × ℤ). e.0 < n) c.entries.result.now) (sym c.requires.size)
    (subst (λ es. AllByRecursion (λ (e : ℕ × ℤ). e.0 < length (g.P.Program.instance c.args.program.now None).upper) es) (sym c.entries.ensures) row.exist)

pub returns : goal.returns
returns g c =
    let narrower = narrower_than_none g.row.P-Cutoff.Denot (g.P.Program.instance c.args.program.now) (g.P.Program.takes c.args.program.now) (g.P.Program.is_below c.args.program.now) (g.P.Program.value c.args.program.now) (option_copied c.args.cutoff) (g.met.P.Program.cutoffs c.args.program.now) c.requires.takes in
    let h = c.requires.in_range in
    let size = rows-same _ _ narrower in
    let row : IsNarrowerRow (row_at (g.P.Program.instance c.args.program.now (option_copied c.args.cutoff)) c.args.row) (row_at (g.P.Program.instance c.args.program.now None) c.args.row) =
    narrower_at _ _ c.args.row narrower (omega arith) in
    let left : to_z w64 (of_z w64 c.left_side-left.result) ≡ c.left_side-left.result = omega (arith, ints) in
    let right : to_z w64 (of_z w64 c.right.result) ≡ c.right.result = omega (arith, ints) in
    compares-at _ _ _ _ _ _ (row_at (g.P.Program.instance c.args.program.now (option_copied c.args.cutoff)) c.args.row).right (c.is_equality.ensures ∙ sym row.is_equality) (left ∙ c.left_side-left.ensures ∙ ap (λ es. left_side es c.args.point.now) (c.entries.ensures ∙ sym row.entries)) (right ∙ c.right.ensures) c.compares.ensures
