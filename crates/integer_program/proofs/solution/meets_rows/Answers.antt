use Rattle.std.proofs.Common.{◌≡◌, take, subst, refl, arith}
use Rattle.std.specs.List.{AllByRecursion}
use Rattle.std.specs.Option.{option_copied}
use Rattle.std.proofs.lemmas.List.{take_all}
use Rattle.merlin_model.specs.Programs.{left_side, Compares}
use Rattle.integer_program.proofs.Rows.{narrower_than_none, rows-same}
use Rattle.integer_program.proofs.solution.meets_rows.Goals as goal

pub returns : goal.returns
returns g c =
    let at = g.P.Program.instance c.args.program.now (option_copied c.args.cutoff) in
    let size = rows-same _ _ (narrower_than_none _ _ _ _ _ (option_copied c.args.cutoff) (g.met.P.Program.cutoffs c.args.program.now) c.requires.takes) in
    let end = c.rows-row-end.ensures in
    let whole : take c.loop-row.row at.rows ≡ at.rows = take_all c.loop-row.row at.rows (omega arith) in
    (λ e. subst (AllByRecursion (λ row. Compares row.is_equality (left_side row.entries c.args.point.now) row.right)) whole c.loop-row.invariant, λ all. refl)
