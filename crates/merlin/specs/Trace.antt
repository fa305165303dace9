-- The command `trace`.
use Rattle.std.specs.Prelude.{◌≡◌, ◌++◌, ◌-◌, ◌<◌, ℕ, false, List, [], ◌∷◌, map, length, Option, None, Some, codes}
use Rattle.std.specs.List.{flat_map}
use Rattle.std.specs.Fmt.{decimal, digits}
use Rattle.merlin_base.specs.declared.status.Status.{Status}
use Rattle.merlin_base.specs.declared.status.Status.TheVariants as status
use Rattle.merlin_model.specs.declared.network.FnDecl.{FnDecl}
use Rattle.merlin_model.specs.Packets.{Packet}
use Rattle.merlin_model.specs.Networks.{Network, IsHost}
use Rattle.merlin_model.specs.Functions.{Behaviour, RunsBy}
use Rattle.merlin_model.specs.declared.config.Config.{Config}
use Rattle.merlin_model.specs.Machine.{Frame, Visit, End, Delivered, Dropped, start}
use Rattle.config_text.specs.Words.{line}
use Rattle.config_text.specs.Lines.{function_name}
use Rattle.config_read.specs.declared.result.ResultText.{ResultText}
use Rattle.packet_model.specs.Texts.{packet_text, IsPacketText, IsFirstWrong}
use Rattle.packet_trace.specs.declared.trace.TheConstants.{MAX_HOPS}
use Rattle.packet_trace.specs.Trace.{MakesHopsBy}
use Rattle.topology_rules.specs.declared.fault.NetFault.{NetFault}
use Rattle.refusal_text.specs.Refusals.{location_name}
use Rattle.merlin.specs.Inputs.{IsWrongTopology, HasWrongResult, AreNetworkAndResult, BearsName, wrong_topology_lines, wrong_result_lines}
use Rattle.merlin.specs.declared.reading.TheConstants.{TEXT_LIMIT, RESULT_LIMIT}
use Rattle.merlin.specs.declared.trace.Tracing.{Tracing}
use Rattle.merlin.specs.declared.trace.TraceReply.{TraceReply}
use Rattle.merlin.specs.declared.trace.TraceReply.TheVariants.{BadTopology, BadResult, UnknownHost, BadPacket, Ended, StillRunning}

-- Its words and its files.

pub record TraceForm : Type 0 where
  pub topology : List ℕ
  pub result : List ℕ
  pub host : List ℕ
  pub packet : List ℕ

abbrev pub trace_form : Tracing → TraceForm
trace_form words = record {
  topology = words.topology.now;
  result = words.result.now;
  host = words.host.now;
  packet = words.packet.now;
}

abbrev pub IsTraceForm : List (List ℕ) → TraceForm → Type 0
IsTraceForm words form =
    words ≡ codes "trace" ∷ form.topology ∷ form.result ∷ form.host ∷ form.packet ∷ []

abbrev pub trace_files : TraceForm → List (List ℕ × ℕ)
trace_files form = (form.topology, TEXT_LIMIT) ∷ (form.result, RESULT_LIMIT) ∷ []

-- What is followed.

-- a host of the network bears the name
abbrev pub IsHostNamed : Network → List ℕ → ℕ → Type 0
IsHostNamed net name host = BearsName net name host × IsHost net host

-- The texts of the files and the last two words stand for a network, a result over it, a host and a
-- packet.
pub record IsTracedFrom (form : TraceForm) (topology result : List ℕ) : Type 0 where
  pub net : Network
  pub read : ResultText
  pub texts : AreNetworkAndResult topology result net read
  pub host : ℕ
  pub is_host : IsHostNamed net form.host host
  pub packet : Packet
  pub is_packet : IsPacketText form.packet packet

-- The lines of a run.

-- the functions that ran at a location: the first behind a word, each other behind a comma
abbrev pub applied_part : List FnDecl → List ℕ → List ℕ
applied_part declared [] = []
applied_part declared (function ∷ functions) =
    codes " apply " ++ (function_name declared function
    ++ flat_map (λ other. 44 ∷ function_name declared other) functions)

abbrev pub through_part : Option ℕ → List ℕ
through_part None = []
through_part (Some queue) = codes " queue " ++ decimal queue

-- the class, whose minor number is hexadecimal
abbrev pub classed_part : Option ℕ → List ℕ
classed_part None = []
classed_part (Some class) = codes " class 1:" ++ digits 16 false class

-- a location that is left: the functions that ran, the queue that the frame is sent through, and the
-- class that its host gave it
abbrev pub visit_line : Network → Visit → List ℕ
visit_line net visit =
    line (codes "at " ++ (location_name net visit.loc ++ (applied_part net.functions visit.functions
    ++ (through_part visit.queue ++ classed_part visit.class))))

abbrev pub last_told : Network → End → List ℕ
last_told net (Delivered host packet) =
    line (codes "delivered " ++ (location_name net host ++ (codes " " ++ packet_text packet)))
last_told net (Dropped loc) = line (codes "dropped " ++ location_name net loc)

abbrev pub run_lines : Network → List Visit → End → List (List ℕ)
run_lines net visits end = map (visit_line net) visits ++ last_told net end ∷ []

-- What each reply means of the topology, the result and the words.

-- No host of the network bears the name, which is the word for the host.
pub record HasUnknownHost (form : TraceForm) (topology result name : List ℕ) : Type 0 where
  pub net : Network
  pub read : ResultText
  pub texts : AreNetworkAndResult topology result net read
  pub named : name ≡ form.host
  pub none : (host : ℕ) → ¬ IsHostNamed net form.host host

-- The host is one, and this is the first wrong part of the word for the packet.
pub record HasWrongPacket (form : TraceForm) (topology result : List ℕ) (at : ℕ) : Type 0 where
  pub net : Network
  pub read : ResultText
  pub texts : AreNetworkAndResult topology result net read
  pub host : ℕ
  pub is_host : IsHostNamed net form.host host
  pub wrong : IsFirstWrong form.packet at

-- A run from the frame, by these functions, comes to an end within fewer hops than the most, and the
-- lines tell it.
pub record AreLinesOfRun (net : Network) (config : Config) (behaviour : Behaviour) (f : Frame)
    (lines : List (List ℕ)) : Type 0 where
  pub visits : List Visit
  pub end : End
  pub runs : RunsBy net config behaviour f visits end
  pub few : length visits < MAX_HOPS
  pub written : lines ≡ run_lines net visits end

-- The lines tell the run of the packet from the host.
pub record HasEnded (behaviour : Behaviour) (form : TraceForm) (topology result : List ℕ)
    (lines : List (List ℕ)) : Type 0 where
  pub of : IsTracedFrom form topology result
  pub tells : AreLinesOfRun of.net of.read.config behaviour (start of.host of.packet) lines

-- From the host with the packet the machine makes the most hops, each by these functions.
pub record HasNoEnd (behaviour : Behaviour) (form : TraceForm) (topology result : List ℕ) : Type 0 where
  pub of : IsTracedFrom form topology result
  pub hops : MakesHopsBy of.net of.read.config behaviour (start of.host of.packet) MAX_HOPS

-- The topology is looked at first, then the result, then the words for the host and the packet.
abbrev pub Traces : Behaviour → TraceForm → List ℕ → List ℕ → TraceReply → Type 0
Traces behaviour form topology result (BadTopology fault) = IsWrongTopology topology fault
Traces behaviour form topology result (BadResult at) = HasWrongResult topology result at
Traces behaviour form topology result (UnknownHost name) = HasUnknownHost form topology result name
Traces behaviour form topology result (BadPacket at) = HasWrongPacket form topology result at
Traces behaviour form topology result (Ended lines) = HasEnded behaviour form topology result lines.items
Traces behaviour form topology result StillRunning = HasNoEnd behaviour form topology result

abbrev pub IsTraceReply : Behaviour → TraceForm → List (List ℕ) → TraceReply → Type 0
IsTraceReply behaviour form contents reply = (topology result : List ℕ)
    × (contents ≡ topology ∷ result ∷ []) × Traces behaviour form topology result reply

-- Its lines and its status.

abbrev pub trace_lines : TraceReply → List (List ℕ)
trace_lines (BadTopology fault) = wrong_topology_lines fault
trace_lines (BadResult at) = wrong_result_lines at
trace_lines (UnknownHost name) = line (codes "refused: unknown host " ++ name) ∷ []
trace_lines (BadPacket at) = line (codes "refused: packet at " ++ decimal at) ∷ []
trace_lines (Ended lines) = lines.items
trace_lines StillRunning = line (codes "still running") ∷ []

abbrev pub trace_status : TraceReply → Status
trace_status (BadTopology fault) = status.Refused
trace_status (BadResult at) = status.Refused
trace_status (UnknownHost name) = status.Refused
trace_status (BadPacket at) = status.Refused
trace_status (Ended lines) = status.Done
trace_status StillRunning = status.StillRunning
