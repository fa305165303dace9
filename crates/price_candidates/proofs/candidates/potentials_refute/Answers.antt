use Rattle.price_candidates.proofs.Refuting.{refutes}
use Rattle.price_candidates.proofs.candidates.potentials_refute.Goals as goal

pub returns : goal.returns
returns c = refutes
