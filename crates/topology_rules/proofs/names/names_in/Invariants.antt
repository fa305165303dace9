use Rattle.std.proofs.Common.{◌≡◌, ◌++◌, map, take}
use Rattle.topology_rules.proofs.names.names_in.Given as goal

abbrev pub invariant-loop-location : goal.invariant-loop-location
invariant-loop-location l = map (λ n. n.now) l.names.items ≡ map (λ x. x.name) (take l.location-index l.locations)

abbrev pub invariant-loop-function : goal.invariant-loop-function
invariant-loop-function l = map (λ n. n.now) l.names.items ≡ map (λ x. x.name) l.locations ++ map (λ x. x.name) (take l.function-index l.functions)
