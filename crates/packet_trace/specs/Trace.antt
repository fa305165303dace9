-- What a trace says of the machine's run.
use Rattle.std.specs.Prelude.{ℕ, ◌≡◌, ◌≤◌, ◌-◌, List, [], map, length}
use Rattle.merlin_model.specs.declared.config.Config.{Config}
use Rattle.merlin_model.specs.Networks.{Network}
use Rattle.merlin_model.specs.Machine.{Frame}
use Rattle.merlin_model.specs.Functions.{Behaviour, ReachesBy, RunsBy}
use Rattle.merlin_model.specs.Machine as machine
use Rattle.packet_trace.specs.declared.trace.TheConstants.{MAX_HOPS}
use Rattle.packet_trace.specs.declared.trace.Visit.{Visit}
use Rattle.packet_trace.specs.declared.trace.End.{End}
use Rattle.packet_trace.specs.declared.trace.End.TheVariants.{Delivered, Dropped, StillRunning}
use Rattle.packet_trace.specs.declared.trace.Trace.{Trace}

abbrev pub record_of : Visit → machine.Visit
record_of v = record { loc = v.loc; functions = v.functions; queue = v.queue; class = v.class }

-- A run from a frame by these packet functions leaves these records, comes to this end, and makes at most so many hops.
pub record IsRunBy (net : Network) (config : Config) (behaviour : Behaviour) (f : Frame) (hops : ℕ)
    (visits : List machine.Visit) (end : machine.End) : Type 0 where
  pub run : RunsBy net config behaviour f visits end
  pub few : length visits ≤ hops

-- from a frame the machine makes this many hops by these packet functions
pub record MakesHopsBy (net : Network) (config : Config) (behaviour : Behaviour) (f : Frame) (hops : ℕ) : Type 0 where
  pub visits : List machine.Visit
  pub last : Frame
  pub reaches : ReachesBy net config behaviour f visits last
  pub many : length visits ≡ hops

-- The visits and the end are those of a run by these packet functions, or each of its first steps, as many as the limit, is a hop, and
-- no visit is told.
abbrev pub IsTraceOf : Network → Config → Behaviour → Frame → List Visit → End → Type 0
IsTraceOf net config behaviour f visits (Delivered host packet) =
    IsRunBy net config behaviour f (MAX_HOPS - 1) (map record_of visits) (machine.Delivered host packet)
IsTraceOf net config behaviour f visits (Dropped loc) =
    IsRunBy net config behaviour f (MAX_HOPS - 1) (map record_of visits) (machine.Dropped loc)
IsTraceOf net config behaviour f visits StillRunning =
    (visits ≡ []) × MakesHopsBy net config behaviour f MAX_HOPS

abbrev pub IsTrace : Network → Config → Behaviour → Frame → Trace → Type 0
IsTrace net config behaviour f trace = IsTraceOf net config behaviour f trace.visits trace.end
