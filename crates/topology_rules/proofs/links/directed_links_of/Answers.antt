use Rattle.std.proofs.Common.{append_assoc, sym}
use Rattle.topology_rules.proofs.Counted.{links_more}
use Rattle.topology_rules.proofs.links.directed_links_of.Goals as goal

pub loop-link-preserved : goal.loop-link-preserved
loop-link-preserved c = rw (c.in_ok-push-2.ensures.items, c.in_ok-push.ensures.items, c.loop-link.invariant, append_assoc) (sym (links_more c.args.links.now c.loop-link.link-index _ c.loop-link-test.true))
