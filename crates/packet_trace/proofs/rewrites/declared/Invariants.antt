use Rattle.std.proofs.Common.{◌≡◌, drop}
use Rattle.packet_trace.specs.Rewrites.{with_members, rewritten}
use Rattle.packet_trace.proofs.rewrites.declared.Given as goal

abbrev pub invariant-loop-member : goal.invariant-loop-member
invariant-loop-member l = record {
  rest : rewritten l.decl l.fn.packet ≡ with_members (drop l.member-index l.member-items) l.changed;
  keeps : l.changed.eth_dst ≡ l.fn.packet.eth_dst;
}
