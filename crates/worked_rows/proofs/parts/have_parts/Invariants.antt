use Rattle.std.proofs.Common.{map, take}
use Rattle.std.specs.List.{AllByRecursion}
use Rattle.policy_flows.specs.Layouts.{HasParts}
use Rattle.worked_rows.proofs.parts.have_parts.Given as goal

abbrev pub invariant-loop-named : goal.invariant-loop-named
invariant-loop-named l = AllByRecursion (HasParts l.net (map (λ a. a.now) l.automata) l.rates) (take l.named-index l.ends)
