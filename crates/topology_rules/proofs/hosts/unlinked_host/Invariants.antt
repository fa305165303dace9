use Rattle.std.proofs.Common.{◌<◌, ℕ}
use Rattle.topology_rules.specs.Rules.{IsLinkedIfHost}
use Rattle.topology_rules.proofs.hosts.unlinked_host.Given as goal

abbrev pub invariant-loop-loc : goal.invariant-loop-loc
invariant-loop-loc l = (k : ℕ) → k < l.loc → IsLinkedIfHost l.locations l.directed_links k
