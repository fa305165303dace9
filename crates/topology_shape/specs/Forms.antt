-- What described locations, links and functions keep, each by itself.
use Rattle.std.specs.Prelude.{◌≡◌, ◌<◌, ◌≤◌, ◌^◌, ℕ, Some}
use Rattle.std.specs.List.{AllByRecursion}
use Rattle.merlin_base.specs.Lexemes.{IsName}
use Rattle.merlin_model.specs.declared.network.HostAddress.{HostAddress}
use Rattle.merlin_model.specs.declared.network.FnDecl.{FnDecl}
use Rattle.merlin_model.specs.declared.policy.Field.{Field}
use Rattle.merlin_model.specs.declared.policy.Field.TheVariants.{EthSrc, EthDst, IpSrc, IpDst, Proto, Sport, Dport}
use Rattle.merlin_model.specs.Networks.{Network, JoinsLocations, address_of, directed_links}
use Rattle.merlin_model.specs.declared.limits.TheConstants.{MAX_RATE}
use Rattle.topology_shape.specs.declared.limits.TheConstants.{MAX_PORT, MAX_LINK_WEIGHT, MAX_SET_PORT}

-- a value that a function may set a field to
abbrev pub IsSettingOf : Field → ℕ → Type 0
IsSettingOf EthSrc n = n < 2 ^ 48
IsSettingOf EthDst n = ⊥
IsSettingOf IpSrc n = n < 2 ^ 32
IsSettingOf IpDst n = n < 2 ^ 32
IsSettingOf Proto n = ⊥
IsSettingOf Sport n = n ≤ MAX_SET_PORT
IsSettingOf Dport n = n ≤ MAX_SET_PORT

-- A function has a name, and sets source addresses, the destination address of IPv4 and ports alone.
pub record IsFunction (f : FnDecl) : Type 0 where
  pub name : IsName f.name
  pub settings : AllByRecursion (λ s. IsSettingOf s.0 s.1) f.set

pub record AreWellFormed (net : Network) : Type 0 where
  pub names : AllByRecursion (λ l. IsName l.name) net.locations
  -- addresses have 48 and 32 bits
  pub addresses : (h : ℕ) (address : HostAddress) → address_of net h ≡ Some address →
      (address.eth < 2 ^ 48) × (address.ip < 2 ^ 32)
  pub ends : AllByRecursion (JoinsLocations net) (directed_links net)
  pub ports : AllByRecursion (λ directed. directed.out_port ≤ MAX_PORT) (directed_links net)
  pub capacities : AllByRecursion (λ directed. directed.capacity ≤ MAX_RATE) (directed_links net)
  pub weights : AllByRecursion (λ directed. directed.weight ≤ MAX_LINK_WEIGHT) (directed_links net)
  pub functions : AllByRecursion IsFunction net.functions
