use Rattle.path_automaton.proofs.Listed.{simple-in}
use Rattle.path_automaton.proofs.laws.simple_words_by_states.Goals as goal

pub returns : goal.returns
returns c = λ path symbols t forms are w h. simple-in path symbols t forms are w h
