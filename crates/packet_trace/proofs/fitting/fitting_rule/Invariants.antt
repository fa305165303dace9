use Rattle.packet_trace.specs.Fitting.{frame_of, IsBestBelow}
use Rattle.packet_trace.proofs.fitting.fitting_rule.Given as goal

abbrev pub invariant-loop-place : goal.invariant-loop-place
invariant-loop-place l = IsBestBelow l.rules (frame_of l.frame) l.place l.best
