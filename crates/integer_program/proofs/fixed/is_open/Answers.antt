use Rattle.std.proofs.Common.{◌≡◌, true, false, None, Some, sym, ◌∙◌, arith}
use Rattle.std.specs.Option.{option_copied}
use Rattle.integer_program.proofs.Rows.{narrower_than_none}
use Rattle.integer_program.proofs.fixed.is_open.Goals as goal

false-true : false ≡ true → ⊥
false-true e = cc

some_none : {X : Type 0} {x : X} → Some x ≡ None → ⊥
some_none e = cc

pub returns-in-Some : goal.returns-in-Some
returns-in-Some g c = (λ e. absurd (false-true e), λ o. absurd (some_none (sym c.in-Some.is ∙ c.get.ensures ∙ o.free)))

pub returns-then-variables-variable : goal.returns-then-variables-variable
returns-then-variables-variable g c =
    let narrower = narrower_than_none _ _ _ _ _ (option_copied c.args.cutoff) (g.met.P.Program.cutoffs c.args.program.now) c.requires.takes in
    let same = narrower.size in let n = c.variables.ensures in let past = c.if-variables-variable.true in
    (λ e. absurd (false-true e), λ o. absurd (let h = o.exists in omega arith))
