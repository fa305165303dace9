-- The cells of all pairs of hosts of a policy.
use Rattle.std.specs.Prelude.{ℕ, ◌==◌, List, length, sum_by, if◌then◌else◌}
use Rattle.merlin_model.specs.Networks.{Network}
use Rattle.merlin_model.specs.Policies.{Policy}
use Rattle.rules_model.specs.Tables.{all_hosts}
use Rattle.predicate_split.specs.declared.pair_cells.Cell.{Cell as HostCell}
use Rattle.predicate_split.specs.Cells.{cells_between}
use Rattle.configuration_model.specs.Checked.{preds_of}
use Rattle.configuration_model.specs.Hosts.{host_at}

module _ (net : Network) (policy : Policy) where
  -- the cells between two hosts, by their locations
  abbrev pub pair_cells : ℕ → ℕ → List HostCell
  pair_cells s d = cells_between (preds_of policy) (host_at net s) (host_at net d)

  -- how many a pair has; a host sends nothing to itself
  abbrev pub cells_of_pair : ℕ → ℕ → ℕ
  cells_of_pair s d = if s == d then 0 else length (pair_cells s d)

  -- over all ordered pairs of hosts
  abbrev pub count_of_cells : ℕ
  count_of_cells = sum_by (λ s. sum_by (cells_of_pair s) (all_hosts net)) (all_hosts net)
