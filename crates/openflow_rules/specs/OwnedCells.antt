-- The cells of pairs of hosts, each with the group of its owner, as they are listed.
use Rattle.std.specs.Prelude.{ℕ, ◌==◌, List, [], map, Option, slice_get, unwrap_or, if◌then◌else◌}
use Rattle.std.specs.List.{flat_map}
use Rattle.merlin_model.specs.Networks.{Network}
use Rattle.merlin_model.specs.Policies.{Policy, default_of}
use Rattle.predicate_split.specs.declared.pair_cells.Cell.{Cell as HostCell}
use Rattle.configuration_model.specs.Pairs.{pair_cells}
use Rattle.rule_tables.specs.declared.branches.OwnedCell.{OwnedCell}

-- the group of the statement that owns a cell, or of the default
abbrev pub group_for : List ℕ → ℕ → Option ℕ → ℕ
group_for group_of default owner = unwrap_or (slice_get group_of (unwrap_or owner default)) 0

abbrev pub owned_cell : List ℕ → ℕ → ℕ → ℕ → HostCell → OwnedCell
owned_cell group_of default s d c = record { source = s; dest = d; cell = c; group = group_for group_of default c.owner }

-- the cells of a pair, of which a host has none with itself
abbrev pub owned_between : Network → Policy → List ℕ → ℕ → ℕ → List OwnedCell
owned_between net policy group_of s d = if s == d then [] else map (owned_cell group_of (default_of policy) s d) (pair_cells net policy s d)

-- the cells from a host to some hosts
abbrev pub owned_from : Network → Policy → List ℕ → List ℕ → ℕ → List OwnedCell
owned_from net policy group_of hosts s = flat_map (owned_between net policy group_of s) hosts
