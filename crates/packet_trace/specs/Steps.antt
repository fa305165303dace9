-- What is seen of the machine's step, and what a tracer's step says.
use Rattle.std.specs.Prelude.{ℕ, ◌≡◌, List, [], ◌∷◌, ◌++◌, Option, None, Some, slice_get}
use Rattle.merlin_model.specs.declared.config.Config.{Config}
use Rattle.merlin_model.specs.declared.config.Process.{Process}
use Rattle.merlin_model.specs.declared.network.DirectedLink.{DirectedLink}
use Rattle.merlin_model.specs.Networks.{Network}
use Rattle.merlin_model.specs.Functions.{Behaviour, HopsBy}
use Rattle.merlin_model.specs.Machine.{Frame, Forwards, Stops, next}
use Rattle.merlin_model.specs.Machine as machine
use Rattle.packet_trace.specs.Fitting.{frame}
use Rattle.packet_trace.specs.declared.moves.Left.{Left}
use Rattle.packet_trace.specs.declared.moves.Move.{Move}
use Rattle.packet_trace.specs.declared.moves.Move.TheVariants.{Leaves, Arrives, Drops}
use Rattle.packet_trace.specs.declared.trace.Visit.{Visit}
use Rattle.packet_trace.specs.declared.tracer.Next.{Next}
use Rattle.packet_trace.specs.declared.tracer.Next.TheVariants.{Hop, Arrived, Lost}

-- what is seen of a step, where the `process` line at a place acts
abbrev pub seen : Option ℕ → machine.Next → Move
seen process (Forwards link tag visit) =
    Leaves link.to link.in_port tag (record { process = process; queue = visit.queue; class = visit.class })
seen process (Stops (machine.Delivered host packet)) = Arrives host packet
seen process (Stops (machine.Dropped loc)) = Drops loc

-- a location is left through a queue, or in a class, and no line of a middlebox acts
abbrev pub plainly : Option ℕ → Option ℕ → Left
plainly queue class = record { process = None; queue = queue; class = class }

-- the record of a location that is so left
abbrev pub stay : ℕ → Option ℕ → Option ℕ → machine.Visit
stay loc queue class = record { loc = loc; functions = []; queue = queue; class = class }

-- a frame goes on to the far end of a directed link, or is dropped where there is none
abbrev pub toward : ℕ → Option (ℕ × ℕ) → Option ℕ → Left → Move
toward loc None tag left = Drops loc
toward loc (Some far) tag left = Leaves far.0 far.1 tag left

-- the functions of the `process` line at a place
abbrev pub functions_of_line : Option Process → List ℕ
functions_of_line None = []
functions_of_line (Some line) = line.functions

abbrev pub functions_by_line : List Process → Option ℕ → List ℕ
functions_by_line lines None = []
functions_by_line lines (Some place) = functions_of_line (slice_get lines place)

-- what is recorded of a location that is left
abbrev pub visit_of : Config → ℕ → Left → machine.Visit
visit_of config loc left =
    record { loc = loc; functions = functions_by_line config.processes left.process; queue = left.queue; class = left.class }

-- the records with one more, of a location that is left
abbrev pub IsLonger : List Visit → ℕ → List ℕ → Left → List Visit → Type 0
IsLonger visits loc functions left more =
    more ≡ visits ++ record { loc = loc; functions = functions; queue = left.queue; class = left.class } ∷ []

-- The machine's step, by what is seen of it.
abbrev pub IsMove : Network → Config → Frame → Move → Type 0
IsMove net config f (Leaves to port tag left) =
    (link : DirectedLink) × (next net config f ≡ Forwards link tag (visit_of config f.loc left))
    × (to ≡ link.to) × (port ≡ link.in_port)
IsMove net config f (Arrives host packet) = next net config f ≡ Stops (machine.Delivered host packet)
IsMove net config f (Drops loc) = next net config f ≡ Stops (machine.Dropped loc)

-- What a step says of a frame: it hops to this frame, and the functions that run on the way are those of the machine's step; or it
-- has come to its host; or it is lost.
abbrev pub IsStepBy : Network → Config → Behaviour → Frame → Next → Type 0
IsStepBy net config behaviour f (Hop loc port tag packet) =
    (visit : machine.Visit) × HopsBy net config behaviour f visit (frame loc port tag packet)
IsStepBy net config behaviour f (Arrived host packet) = next net config f ≡ Stops (machine.Delivered host packet)
IsStepBy net config behaviour f (Lost loc) = next net config f ≡ Stops (machine.Dropped loc)
