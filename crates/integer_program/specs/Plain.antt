-- Programs without cutoffs.
use Rattle.std.specs.Prelude.{ℕ, ◌≡◌, true, false, List, [], ◌∷◌, ◌++◌, replicate, Option, None, Some}
use Rattle.merlin_model.specs.Programs.{Program, Row, HasCutoffs, IsNarrower, Takes, is_lower}

-- the program of these rows in which each variable may be 1
abbrev pub plain_program : ℕ → List Row → Program
plain_program count rows = record { rows = rows; upper = replicate count true }

abbrev pub with_row : Program → Row → Program
with_row program row = record { rows = program.rows ++ row ∷ []; upper = program.upper }

-- it takes no cutoff, so that nothing is to be shown of any
pub plain-cutoffs : (program : Program) → HasCutoffs (Unit {0}) (λ cutoff. program) (λ z. false) (λ a b. false) (λ point. tt)
plain-cutoffs program = record {
  irreflexive = λ a t. absurd (false-true t);
  transitive = λ a b c t u v e f. absurd (false-true t);
  level = λ a b t u e f. absurd (false-true t);
  narrows = narrows;
  lowers = λ z point t solution. absurd (false-true t);
  reaches = λ z point t solution e. absurd (false-true t);
  taken = λ z point t e. absurd (false-true t);
}
  where
    false-true : false ≡ true → ⊥
    false-true e = cc

    narrows : (a b : Option (Unit {0})) → Takes (λ z. false) a → Takes (λ z. false) b → is_lower (λ u v. false) a b ≡ true → IsNarrower program program
    narrows None b t u e = absurd (false-true e)
    narrows (Some a) b t u e = absurd (false-true t)
