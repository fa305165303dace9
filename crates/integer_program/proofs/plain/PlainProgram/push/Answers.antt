use Rattle.integer_program.proofs.PlainForms.{pushed}
use Rattle.integer_program.proofs.plain.PlainProgram.push.Goals as goal

pub invariant_of-self : goal.invariant_of-self
invariant_of-self c = record { form = pushed c.args.self.now.variables c.args.self.now.rows c.push.new.self c.args.row c.push.result c.args.self.now.form c.requires.row c.requires.room c.push.ensures.ok c.push.ensures.err }
