-- What is counted of a network, and how much of it there may be.
use Rattle.std.specs.Prelude.{◌≡◌, ◌<◌, ◌≤◌, ◌+◌, ◌⊎◌, ℕ, List, [], ◌∷◌, length, Some, sum_by, codes}
use Rattle.std.specs.List.{AllByRecursion, filter_map}
use Rattle.merlin_model.specs.declared.network.HostAddress.{HostAddress}
use Rattle.merlin_model.specs.declared.network.Location.{Location}
use Rattle.merlin_model.specs.declared.network.FnDecl.{FnDecl}
use Rattle.merlin_model.specs.Networks.{Network, address_at}
use Rattle.topology_rules.specs.declared.limits.TheConstants.{MAX_LOCATIONS, MAX_HOSTS, MAX_LINKS, MAX_FUNCTIONS, MAX_PLACEMENTS}

-- the addresses of the hosts among locations, in order
abbrev pub host_addresses : List Location → List HostAddress
host_addresses locations = filter_map (λ l. address_at (Some l.kind)) locations

-- how many places functions have, all together
abbrev pub placements : List FnDecl → ℕ
placements functions = sum_by (λ f. length f.places) functions

-- A count that has a limit, with the word for it.
pub record Count : Type 0 where
  pub what : List ℕ
  pub count : ℕ
  pub limit : ℕ

-- the counts that have a limit, in the order in which they are asked
abbrev pub counts : Network → List Count
counts net =
    record { what = codes "locations"; count = length net.locations; limit = MAX_LOCATIONS }
    ∷ record { what = codes "hosts"; count = length (host_addresses net.locations); limit = MAX_HOSTS }
    ∷ record { what = codes "links"; count = length net.links; limit = MAX_LINKS }
    ∷ record { what = codes "functions"; count = length net.functions; limit = MAX_FUNCTIONS }
    ∷ record { what = codes "placements"; count = placements net.functions; limit = MAX_PLACEMENTS }
    ∷ []

abbrev pub AreWithinLimits : List Count → Type 0
AreWithinLimits = AllByRecursion (λ c. c.count ≤ c.limit)

-- This count is the first over its limit. Counting stops at the limit plus one.
abbrev pub IsFirstExcess : List Count → List ℕ → ℕ → Type 0
IsFirstExcess [] what count = ⊥
IsFirstExcess (c ∷ cs) what count =
    ((c.limit < c.count) × (what ≡ c.what) × (count ≡ c.limit + 1))
    ⊎ ((c.count ≤ c.limit) × IsFirstExcess cs what count)
