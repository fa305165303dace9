use Rattle.std.specs.Option.{option_copied}
use Rattle.bound_search.proofs.Roots.{IsShutTo}
use Rattle.bound_search.proofs.boxes.root.Given as goal

abbrev pub invariant-loop-variable : goal.invariant-loop-variable
invariant-loop-variable g l = IsShutTo (g.P.Program.instance l.program (option_copied l.cutoff)) l.variable l.shut
