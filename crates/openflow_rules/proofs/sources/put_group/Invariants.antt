use Rattle.std.proofs.Common.{map}
use Rattle.openflow_rules.specs.Sources.{AreSourcesUpTo}
use Rattle.openflow_rules.proofs.sources.put_group.Given as goal

abbrev pub invariant-loop-statement : goal.invariant-loop-statement
invariant-loop-statement l =
    AreSourcesUpTo l.search.site.net.now l.search.site.checked.now.policy l.search.group_of.now l.group l.statement (map (λ hosts. hosts.items) l.sources.items)
