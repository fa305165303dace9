-- The lines of the hosts: classes with their rates, and the two lists that read the packets.
use Rattle.std.specs.Prelude.{ℕ, suc, ◌==◌, ◌&&◌, ◌||◌, not, nat_lt, Bool, false, List, [], ◌∷◌, ◌++◌, length, map, filter, slice_get, Option, None, Some, is_some, option_map, unwrap_or, if◌then◌else◌}
use Rattle.std.specs.Option.{option_map_or}
use Rattle.std.specs.List.{flat_map, list_any, range_with_len}
use Rattle.merlin_model.specs.declared.network.HostAddress.{HostAddress}
use Rattle.merlin_model.specs.declared.config.HostMatch.{HostMatch}
use Rattle.merlin_model.specs.declared.config.HostLine.{HostLine}
use Rattle.merlin_model.specs.declared.config.HostLine.TheVariants as line
use Rattle.merlin_model.specs.Networks.{Network, address_of}
use Rattle.merlin_model.specs.Policies.{Policy, paths_of, default_of}
use Rattle.merlin_model.specs.Rates.{share, max_of, min_of}
use Rattle.merlin_model.specs.Machine.{uplink_of}
use Rattle.rules_model.specs.Tables.{all_hosts}
use Rattle.predicate_split.specs.declared.pair_cells.Cell.{Cell as HostCell}
use Rattle.configuration_model.specs.Cells.{owner_of}

-- the place of a host in a list
abbrev pub place_among : List ℕ → ℕ → Option ℕ
place_among [] s = None
place_among (h ∷ hosts) s = if h == s then Some 0 else option_map suc (place_among hosts s)

-- the share of a cap at a host among the live sources, if it is one
abbrev pub share_among : Option ℕ → List ℕ → ℕ → Option ℕ
share_among None hosts s = None
share_among (Some cap) hosts s = option_map (share cap (length hosts)) (place_among hosts s)

abbrev pub is_zero : Option ℕ → Bool
is_zero None = false
is_zero (Some n) = n == 0

abbrev pub is_above : Option ℕ → Bool
is_above None = false
is_above (Some n) = nat_lt 0 n

abbrev pub class_from : ℕ → List ℕ → ℕ → ℕ
class_from x [] i = 0
class_from x (j ∷ js) i = if j == i then x else class_from (suc x) js i

abbrev pub host_at : Network → ℕ → HostAddress
host_at net s = unwrap_or (address_of net s) (record { eth = 0; ip = 0 })

module _ (net : Network) (policy : Policy) (sources : List (List ℕ)) (cells : ℕ → ℕ → List HostCell) where
  abbrev pub sources_at : ℕ → List ℕ
  sources_at i = unwrap_or (slice_get sources i) []

  abbrev pub share_at : ℕ → ℕ → Option ℕ
  share_at i s = share_among (max_of policy i) (sources_at i) s

  -- statement i has share 0 at host s
  abbrev pub is_out : ℕ → ℕ → Bool
  is_out i s = is_zero (share_at i s)

  abbrev pub is_guaranteed : ℕ → Bool
  is_guaranteed i = nat_lt 0 (min_of policy i)

  -- host s is a live source of statement i, which is guaranteed or has a share above 0 there
  abbrev pub is_classed : ℕ → ℕ → Bool
  is_classed i s = is_some (place_among (sources_at i) s) && (is_guaranteed i || is_above (share_at i s))

  abbrev pub classed_at : ℕ → List ℕ
  classed_at s = filter (λ i. is_classed i s) (range_with_len 0 (length (paths_of policy)))

  abbrev pub class_at : ℕ → ℕ → ℕ
  class_at s i = class_from 1 (classed_at s) i

  abbrev pub link_capacity : ℕ → ℕ
  link_capacity s = option_map_or (λ w. w.capacity) (uplink_of net s) 0

  abbrev pub rate_at : ℕ → ℕ → ℕ
  rate_at i s = if is_guaranteed i then min_of policy i else unwrap_or (share_at i s) 0

  abbrev pub ceiling_at : ℕ → ℕ → ℕ
  ceiling_at i s = if is_guaranteed i then unwrap_or (max_of policy i) (link_capacity s) else unwrap_or (share_at i s) 0

  abbrev pub class_lines : ℕ → ℕ → List ℕ → List HostLine
  class_lines s x [] = []
  class_lines s x (i ∷ is) = line.Class s x (rate_at i s) (ceiling_at i s) ∷ class_lines s (suc x) is

  abbrev pub match_of_cell : ℕ → ℕ → HostCell → HostMatch
  match_of_cell s d c = record { src = (host_at net s).ip; dst = (host_at net d).ip; proto = c.proto; sport = c.sport; dport = c.dport }

  abbrev pub owner_is : HostCell → ℕ
  owner_is c = owner_of (default_of policy) c

  abbrev pub reading_of : ℕ → ℕ → HostCell → List HostLine
  reading_of s d c =
      if is_classed (owner_is c) s
      then line.Classify s (match_of_cell s d c) (class_at s (owner_is c)) ∷ line.Leave s (match_of_cell s d c) ∷ []
      else line.Leave s (match_of_cell s d c) ∷ []

  -- the POSTROUTING lines of a pair of hosts
  abbrev pub readings : ℕ → ℕ → List HostLine
  readings s d = if list_any (λ c. is_classed (owner_is c) s) (cells s d) then flat_map (reading_of s d) (cells s d) else []

  abbrev pub output_of_cell : ℕ → ℕ → HostCell → HostLine
  output_of_cell s d c = line.Output s (match_of_cell s d c) (is_out (owner_is c) s)

  -- the OUTPUT lines of a pair of hosts
  abbrev pub outputs : ℕ → ℕ → List HostLine
  outputs s d = if list_any (λ c. is_out (owner_is c) s) (cells s d) then map (output_of_cell s d) (cells s d) else []

  abbrev pub others : ℕ → List ℕ
  others s = filter (λ d. not (d == s)) (all_hosts net)

  abbrev pub headed : ℕ → List HostLine → List HostLine
  headed s [] = []
  headed s (l ∷ lines) = line.Root s ∷ l ∷ lines

  abbrev pub lines_at : ℕ → List HostLine
  lines_at s = headed s (class_lines s 1 (classed_at s)) ++ (flat_map (readings s) (others s) ++ flat_map (outputs s) (others s))

  abbrev pub host_lines : List HostLine
  host_lines = flat_map lines_at (all_hosts net)
