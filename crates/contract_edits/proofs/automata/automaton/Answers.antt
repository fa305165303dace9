use Rattle.contract_edits.proofs.automata.automaton.Goals as goal

pub returns-clause-built : goal.returns-clause-built
returns-clause-built c = c.build.ensures.built

pub returns-clause-language : goal.returns-clause-language
returns-clause-language c = c.build.ensures.language
