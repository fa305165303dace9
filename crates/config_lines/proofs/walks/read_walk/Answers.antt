use Rattle.config_lines.proofs.SymbolTexts.{no_walk, no_symbols}
use Rattle.config_lines.proofs.walks.read_walk.Goals as goal

pub returns-in_default-clause-none : goal.returns-in_default-clause-none
returns-in_default-clause-none c = no_walk c.args.net.now c.args.text.now c.in_default.ensures.none

pub returns-in_default-2-clause-none : goal.returns-in_default-2-clause-none
returns-in_default-2-clause-none c =
    no_symbols c.args.net.now c.args.text.now c.in-Some.id.now c.in-Some.words.now c.in-Some.rest.now c.in-Some.ensures.some.0 c.in-Some.ensures.some.1 c.in-Some.ensures.some.2 (rw c.in_default-2.is at c.in_ok-symbols.ensures.none)
