use Rattle.std.proofs.Common.{◌≡◌, map, take, slice_get}
use Rattle.std.specs.Prelude.{filter_map}
use Rattle.walk_search.proofs.checked_policy.automata_of.Given as goal

abbrev pub invariant-loop-statement : goal.invariant-loop-statement
invariant-loop-statement l = map (λ a. a.now) l.automata.items ≡ filter_map (slice_get l.checked.automata) (take l.statement l.checked.automaton_numbers)
