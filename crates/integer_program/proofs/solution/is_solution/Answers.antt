use Rattle.std.proofs.Common.{◌≡◌, true, false, sym, ◌∙◌}
use Rattle.std.specs.Option.{option_copied}
use Rattle.integer_program.proofs.Rows.{narrower_than_none}
use Rattle.integer_program.proofs.solution.is_solution.Goals as goal

false-true : false ≡ true → ⊥
false-true e = cc

pub returns-then-point-variables : goal.returns-then-point-variables
returns-then-point-variables g c =
    let narrower = narrower_than_none _ _ _ _ _ (option_copied c.args.cutoff) (g.met.P.Program.cutoffs c.args.program.now) c.requires in
    let other = c.if-point-variables.true in
    (λ e. absurd (false-true e), λ s. absurd (other (s.size ∙ narrower.size ∙ sym c.variables.ensures)))

pub returns : goal.returns
returns g c =
    let narrower = narrower_than_none _ _ _ _ _ (option_copied c.args.cutoff) (g.met.P.Program.cutoffs c.args.program.now) c.requires in
    let same = c.if-point-variables.false in
    (λ e. record { size = same ∙ c.variables.ensures ∙ sym narrower.size; within = c.is_within.ensures.0 c.if-not-is_within.false; meets = c.meets_rows.ensures.0 e }, λ s. c.meets_rows.ensures.1 s.meets)
