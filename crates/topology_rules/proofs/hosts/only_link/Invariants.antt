use Rattle.std.proofs.Common.{◌≡◌, ◌==◌, take, filter}
use Rattle.std.specs.Prelude.{option_to_list}
use Rattle.topology_rules.proofs.hosts.only_link.Given as goal

abbrev pub invariant-loop-directed : goal.invariant-loop-directed
invariant-loop-directed l = filter (λ w. w.from == l.loc) (take l.directed-index l.directed_links) ≡ option_to_list l.found
