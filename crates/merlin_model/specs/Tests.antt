-- Tests that compute what some of the facts say.
use Rattle.std.specs.Prelude.{ℕ, zero, suc, ◌≢◌, ◌==◌, Bool, false, not, ◌&&◌, List, [], ◌∷◌, Option, None, Some, option_map}
use Rattle.merlin_model.specs.declared.network.LocationKind.TheVariants.{Middlebox}
use Rattle.merlin_model.specs.declared.config.Config.{Config}
use Rattle.merlin_model.specs.Networks.{DirectedLink}
use Rattle.merlin_model.specs.Machine.{Frame, Visit, End, Next, Forwards, Stops, next}
use Rattle.merlin_model.specs.declared.network.HostAddress.{HostAddress}
use Rattle.merlin_model.specs.Packets.{Packet, source_of, destination_of}
use Rattle.merlin_model.specs.Networks.{Network, kind_of, address_of}

abbrev pub is_address : HostAddress → Option HostAddress → Bool
is_address a None = false
is_address a (Some b) = (b.eth == a.eth) && (b.ip == a.ip)

abbrev pub is_proper : Network → Packet → ℕ → ℕ → Bool
is_proper net p s d = not (s == d) && is_address (source_of p) (address_of net s) && is_address (destination_of p) (address_of net d)

-- The run of a network without middleboxes, whose machine has no choice: followed for at most n
-- steps.

abbrev pub arrival : DirectedLink → Option ℕ → Packet → Frame
arrival link tag p = record { loc = link.to; port = link.in_port; tag = tag; packet = p }

abbrev pub with_visit : Visit → List Visit × End → List Visit × End
with_visit visit run = (visit ∷ run.0, run.1)

abbrev pub trace_on : Next → (Frame → Option (List Visit × End)) → Packet → Option (List Visit × End)
trace_on (Stops end) go p = Some ([], end)
trace_on (Forwards link tag visit) go p = option_map (with_visit visit) (go (arrival link tag p))

abbrev pub plain_trace : Network → Config → ℕ → Frame → Option (List Visit × End)
plain_trace net config zero f = None
plain_trace net config (suc n) f = trace_on (next net config f) (plain_trace net config n) f.packet

abbrev pub HasNoMiddlebox : Network → Type 0
HasNoMiddlebox net = (loc : ℕ) → kind_of net loc ≢ Some Middlebox
