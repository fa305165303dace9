use Rattle.std.proofs.Common.{◌≡◌, ◌+◌, take}
use Rattle.std.specs.Prelude.{sum_by}
use Rattle.configuration_model.specs.Pairs.{cells_of_pair}
use Rattle.openflow_rules.proofs.cells.left_after_host.Given as goal

abbrev pub invariant-loop-dst : goal.invariant-loop-dst
invariant-loop-dst l = l.after + sum_by (cells_of_pair l.net l.checked.policy l.src) (take l.dst-index l.hosts) ≡ l.left
