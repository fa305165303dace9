use Rattle.std.proofs.Common.{sym, ◌∙◌}
use Rattle.integer_program.specs.Plain.{plain_program}
use Rattle.certificate_text.proofs.WholePrograms.{program_same}
use Rattle.certificate_text.proofs.program.read_program.Goals as goal

pub returns-in-Ok-clause-only : goal.returns-in-Ok-clause-only
returns-in-Ok-clause-only c = λ other is e.
    program_same other (plain_program c.in-Ok.program.variables c.in-Ok.program.rows) is c.in-Ok.ensures.ok.1 (sym e ∙ c.in-Ok.ensures.ok.0)
