use Rattle.std.proofs.Common.{map}
use Rattle.openflow_rules.specs.Sources.{AreSourcesUpTo}
use Rattle.openflow_rules.proofs.sources.sources_of.Given as goal

abbrev pub invariant-loop-group : goal.invariant-loop-group
invariant-loop-group l =
    AreSourcesUpTo l.search.site.net.now l.search.site.checked.now.policy l.search.group_of.now l.group 0 (map (λ hosts. hosts.items) l.sources.items)
