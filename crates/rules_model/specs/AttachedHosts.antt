-- Hosts as they stand in a network: each with its addresses and its directed link to the first switch.
use Rattle.std.specs.Prelude.{ℕ, Option, None, Some}
use Rattle.merlin_model.specs.declared.network.HostAddress.{HostAddress}
use Rattle.merlin_model.specs.declared.network.DirectedLink.{DirectedLink}
use Rattle.merlin_model.specs.Networks.{Network, address_of}
use Rattle.merlin_model.specs.Machine.{uplink_of}
use Rattle.rules_model.specs.declared.attached_host.AttachedHost.{AttachedHost}

abbrev pub attached_host_by : ℕ → Option HostAddress → Option DirectedLink → Option AttachedHost
attached_host_by loc None link = None
attached_host_by loc (Some address) None = None
attached_host_by loc (Some address) (Some link) = Some (record { loc = loc; address = address; link = link })

abbrev pub attached_host_at : Network → ℕ → Option AttachedHost
attached_host_at net loc = attached_host_by loc (address_of net loc) (uplink_of net loc)
