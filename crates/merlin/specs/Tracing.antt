-- What the parts of the command `trace` report, on the way to its reply.
use Rattle.std.specs.Prelude.{◌≡◌, ℕ, ⊤, List, map}
use Rattle.merlin_model.specs.declared.config.Config.{Config}
use Rattle.merlin_model.specs.Networks.{Network}
use Rattle.merlin_model.specs.Functions.{Behaviour}
use Rattle.merlin_model.specs.Machine.{Frame}
use Rattle.merlin_model.specs.Machine as machine
use Rattle.packet_model.specs.Texts.{IsPacketText, IsFirstWrong}
use Rattle.packet_trace.specs.declared.trace.TheConstants.{MAX_HOPS}
use Rattle.packet_trace.specs.declared.trace.End.{End}
use Rattle.packet_trace.specs.declared.trace.End.TheVariants as ends
use Rattle.packet_trace.specs.declared.trace.Trace.{Trace}
use Rattle.packet_trace.specs.Trace.{record_of, MakesHopsBy}
use Rattle.merlin.specs.declared.trace.Start.{Start}
use Rattle.merlin.specs.declared.trace.Start.TheVariants as starts
use Rattle.merlin.specs.declared.trace.TraceReply.{TraceReply}
use Rattle.merlin.specs.declared.trace.TraceReply.TheVariants.{BadTopology, BadResult, UnknownHost, BadPacket, Ended, StillRunning}
use Rattle.merlin.specs.Trace.{IsHostNamed, run_lines, AreLinesOfRun}

-- where the words let the packet start, or why they do not
abbrev pub IsWordedStart : Network → List ℕ → List ℕ → Start → Type 0
IsWordedStart net host packet (starts.At loc p) = IsHostNamed net host loc × IsPacketText packet p
IsWordedStart net host packet starts.UnknownHost = (loc : ℕ) → ¬ IsHostNamed net host loc
IsWordedStart net host packet (starts.BadPacket at) =
    (loc : ℕ) × IsHostNamed net host loc × IsFirstWrong packet at

-- the reply has these lines, of a run that came to its end
abbrev pub IsEndedWith : List (List ℕ) → TraceReply → Type 0
IsEndedWith told (BadTopology fault) = ⊥
IsEndedWith told (BadResult at) = ⊥
IsEndedWith told (UnknownHost name) = ⊥
IsEndedWith told (BadPacket at) = ⊥
IsEndedWith told (Ended lines) = lines.items ≡ told
IsEndedWith told StillRunning = ⊥

abbrev pub HasLines : Network → List machine.Visit → machine.End → TraceReply → Type 0
HasLines net visits end = IsEndedWith (run_lines net visits end)

-- what is replied where a trace is this one
abbrev pub TellsEnd : Network → List machine.Visit → End → TraceReply → Type 0
TellsEnd net visits (ends.Delivered host packet) reply =
    HasLines net visits (machine.Delivered host packet) reply
TellsEnd net visits (ends.Dropped loc) reply = HasLines net visits (machine.Dropped loc) reply
TellsEnd net visits ends.StillRunning reply = reply ≡ StillRunning

abbrev pub TellsTrace : Network → Trace → TraceReply → Type 0
TellsTrace net trace reply = TellsEnd net (map record_of trace.visits) trace.end reply

-- what is replied of the run from a frame
abbrev pub TellsRun : Network → Config → Behaviour → Frame → TraceReply → Type 0
TellsRun net config behaviour f (BadTopology fault) = ⊥
TellsRun net config behaviour f (BadResult at) = ⊥
TellsRun net config behaviour f (UnknownHost name) = ⊥
TellsRun net config behaviour f (BadPacket at) = ⊥
TellsRun net config behaviour f (Ended lines) = AreLinesOfRun net config behaviour f lines.items
TellsRun net config behaviour f StillRunning = MakesHopsBy net config behaviour f MAX_HOPS
