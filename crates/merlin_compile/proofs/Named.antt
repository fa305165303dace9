-- The pairs of hosts that a fault of ends names are locations of the network.
use Rattle.std.proofs.Common.{ℕ}
use Rattle.merlin_model.specs.Networks.{Network}
use Rattle.merlin_model.specs.Policies.{Policy}
use Rattle.merlin_model.specs.Packets.{source_of, destination_of}
use Rattle.merlin_model.specs.Assignments.{HasTraffic}
use Rattle.policy_check.specs.declared.fault.EndsFault.{EndsFault}
use Rattle.policy_check.specs.declared.fault.EndsFault.TheVariants as ends_faults
use Rattle.policy_check.specs.Ends.{BreaksEnds}
use Rattle.policy_check.proofs.Destinations.{host-within}
use Rattle.refusal_text.specs.Refusals.{AreLocations, NamesLocations}

locations : (net : Network) (policy : Policy) (i : ℕ) (pair : ℕ × ℕ) → HasTraffic net policy i pair.0 pair.1 → AreLocations net pair
locations net policy i pair h = (host-within net pair.0 (source_of h.packet) h.proper.source, host-within net pair.1 (destination_of h.packet) h.proper.destination)

pub named : (net : Network) (policy : Policy) (fault : EndsFault) → BreaksEnds net policy fault → NamesLocations net fault
named net policy (ends_faults.TooManyGuarantees count) h = tt
named net policy (ends_faults.NoEnds id) h = tt
named net policy (ends_faults.ManyEnds id first second) h = (locations net policy h.statement first h.at_fault.1.has_first, locations net policy h.statement second h.at_fault.1.has_second)
named net policy ends_faults.OutOfMemory h = tt
