use Rattle.price_candidates.proofs.Deciding.{cut-refutes}
use Rattle.price_candidates.proofs.candidates.unreached_flows_refute.Goals as goal

pub returns : goal.returns
returns c = cut-refutes
