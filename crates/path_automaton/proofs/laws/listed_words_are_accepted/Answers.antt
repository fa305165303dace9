use Rattle.path_automaton.proofs.Listed.{accepts-listed}
use Rattle.path_automaton.proofs.laws.listed_words_are_accepted.Goals as goal

pub returns : goal.returns
returns c = accepts-listed
