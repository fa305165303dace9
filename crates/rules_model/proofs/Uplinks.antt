-- What a location is, and the one directed link of a host.
use Rattle.std.proofs.Common.{◌≡◌, ℕ, Contains, Option, None, Some, IsSome, sym, ◌∙◌, ap, subst}
use Rattle.merlin_model.specs.declared.network.LocationKind.{LocationKind}
use Rattle.merlin_model.specs.declared.network.LocationKind.TheVariants.{Host, Switch, Middlebox}
use Rattle.merlin_model.specs.declared.network.DirectedLink.{DirectedLink}
use Rattle.merlin_model.specs.Networks.{Network, kind_of, address_at, IsHost, IsSwitch, directed_links, IsNetwork}
use Rattle.merlin_model.specs.Machine.{uplink_of}
use Rattle.merlin_model.proofs.Traces.{Some-inj}
use Rattle.merlin_model.proofs.DirectedLinks.{uplink_of-present}
use Rattle.rules_model.proofs.Absurd.{None-Some}

Switch-Host : {a : _} → Some Switch ≡ Some (Host a) → ⊥
Switch-Host e = cc

pub switch-no_host : (net : Network) (v : ℕ) → IsSwitch net v → IsHost net v → ⊥
switch-no_host net v here host = by (kind_of net v) here host
  where
    by : (o : Option LocationKind) → o ≡ Some Switch → IsSome (address_at o) → ⊥
    by None e h = None-Some e
    by (Some (Host address)) e h = Switch-Host (sym e)
    by (Some Switch) e h = let no_way : ⊥ = cc in no_way
    by (Some Middlebox) e h = let no_way : ⊥ = cc in no_way

module _ (net : Network) (ok : IsNetwork net) where
  -- a host has one directed link
  pub one_from_host : (v w : DirectedLink) → Contains (directed_links net) v → Contains (directed_links net) w → IsHost net v.from → v.from ≡ w.from → v ≡ w
  one_from_host v w cv cw host same =
      Some-inj (sym (uplink_of-present net ok v host cv) ∙ ap (uplink_of net) same ∙ uplink_of-present net ok w (subst (IsHost net) same host) cw)
