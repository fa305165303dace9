use Rattle.std.proofs.Common.{◌≡◌, ◌==◌, drop, find}
use Rattle.merlin_model.specs.Networks.{directed_links_of}
use Rattle.rule_tables.proofs.entries.link_from.Given as goal

abbrev pub invariant-loop-link : goal.invariant-loop-link
invariant-loop-link l = find (λ w. w.from == l.loc) (directed_links_of (drop l.link-index l.link-items)) ≡ find (λ w. w.from == l.loc) (directed_links_of l.net.links)
