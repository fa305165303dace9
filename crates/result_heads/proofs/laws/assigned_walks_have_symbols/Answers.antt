use Rattle.result_heads.proofs.Written.{walks-have-symbols}
use Rattle.result_heads.proofs.laws.assigned_walks_have_symbols.Goals as goal

pub returns : goal.returns
returns c = walks-have-symbols
