use Rattle.std.proofs.Common.{map, take}
use Rattle.policy_flows.specs.Layouts.{statement_parts}
use Rattle.policy_flows.proofs.Added.{AreSoFar}
use Rattle.policy_flows.proofs.layout.all_flows.Given as goal

abbrev pub invariant-loop-named : goal.invariant-loop-named
invariant-loop-named l = AreSoFar l.net (statement_parts l.net (map (λ a. a.now) l.automata) l.rates) (take l.named-index l.ends) l.room l.list
