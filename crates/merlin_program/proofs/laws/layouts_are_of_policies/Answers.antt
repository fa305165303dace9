use Rattle.merlin_program.proofs.Belonging.{layout-of}
use Rattle.merlin_program.proofs.laws.layouts_are_of_policies.Goals as goal

pub returns : goal.returns
returns c = layout-of
