use Rattle.merlin_program.proofs.Belonging.{recognises}
use Rattle.merlin_program.proofs.laws.automata_recognise_paths.Goals as goal

pub returns : goal.returns
returns c = recognises
