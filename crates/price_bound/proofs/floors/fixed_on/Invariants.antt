use Rattle.std.proofs.Common.{Option, ◌≡◌, ◌≤◌, ◌+◌, ◌*◌, ◌^◌, drop}
use Rattle.merlin_model.specs.declared.policy.Value.{Value}
use Rattle.cutoff_program.specs.Flows.{variables_of}
use Rattle.cutoff_program.specs.Easy.{fixed_from}
use Rattle.price_bound.proofs.floors.fixed_on.Given as goal

abbrev pub invariant-loop-number : goal.invariant-loop-number
invariant-loop-number l = record {
  value : (cutoff : Option Value) → l.load + fixed_from l.program.problem cutoff l.fixed l.flow l.link l.number (drop l.number (variables_of l.program.problem)) ≡ fixed_from l.program.problem cutoff l.fixed l.flow l.link 0 (variables_of l.program.problem);
  small : l.load ≤ l.number * 10 ^ 9;
}
