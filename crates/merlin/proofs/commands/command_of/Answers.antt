use Rattle.merlin.specs.Words.{word_texts}
use Rattle.merlin.proofs.Words.{IsNoForm-by_each}
use Rattle.merlin.proofs.commands.command_of.Goals as goal

pub returns-clause-none : goal.returns-clause-none
returns-clause-none c = IsNoForm-by_each (word_texts c.args.words.now) c.in_default.ensures.none c.in_default-refine_of.ensures.none c.in_default-refute_of.ensures.none c.in_default-fair_of.ensures.none c.in_default-fairness_of.ensures.none c.in_default-trace_of.ensures.none c.in_default-wire_of.ensures.none c.in_default-unwire_of.ensures.none c.in_default-delegate_of.ensures.none
