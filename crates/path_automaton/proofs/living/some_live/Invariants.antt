use Rattle.std.proofs.Common.{◌≡◌, drop}
use Rattle.std.specs.List.{list_any}
use Rattle.path_automaton.specs.Living.{is_set}
use Rattle.path_automaton.proofs.living.some_live.Given as goal

abbrev pub invariant-loop-next : goal.invariant-loop-next
invariant-loop-next l = list_any (is_set l.living) l.row ≡ list_any (is_set l.living) (drop l.next-index l.row)
