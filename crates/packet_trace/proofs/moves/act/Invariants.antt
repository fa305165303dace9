use Rattle.std.proofs.Common.{◌≡◌, drop}
use Rattle.merlin_model.specs.Machine.{act}
use Rattle.packet_trace.specs.Fitting.{frame_of}
use Rattle.packet_trace.proofs.moves.act.Given as goal

abbrev pub invariant-loop-action : goal.invariant-loop-action
invariant-loop-action l = act l.net (frame_of l.frame) l.frame.tag l.actions ≡ act l.net (frame_of l.frame) l.tag (drop l.action-index l.actions)
