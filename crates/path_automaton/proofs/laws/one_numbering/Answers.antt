use Rattle.path_automaton.proofs.Numbering.{one-numbering}
use Rattle.path_automaton.proofs.laws.one_numbering.Goals as goal

pub returns : goal.returns
returns c = λ path symbols forms others h g. one-numbering path symbols forms others h g
