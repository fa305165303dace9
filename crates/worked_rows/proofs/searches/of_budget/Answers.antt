use Rattle.worked_rows.proofs.searches.of_budget.Goals as goal

pub find_walks-requires-clause-automata : goal.find_walks-requires-clause-automata
find_walks-requires-clause-automata c = c.requires.checked.1.automata

pub find_walks-requires-clause-checked : goal.find_walks-requires-clause-checked
find_walks-requires-clause-checked c =
    c.checked_policies_are_sound.ensures c.args.net.now c.requires.checked.0 c.args.checked.now c.requires.checked.1
    c.statements-sound.ensures.sound c.automata-numbers.ensures.numbers
