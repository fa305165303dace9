use Rattle.merlin_model.specs.declared.policy.Path.{Nothing}
use Rattle.path_automaton.proofs.Listed.{accepts-listed}
use Rattle.negotiator.proofs.verdicts.nothing.Goals as goal

pub returns-in-Ok : goal.returns-in-Ok
returns-in-Ok c = record {
  width = c.in-Ok.ensures.built.1.width;
  none = λ w m a. (accepts-listed c.args.symbols.now Nothing c.in-Ok.automaton (c.in-Ok.ensures.language tt) w m).0 a;
}
