use Rattle.std.proofs.Common.{List, take}
use Rattle.std.specs.List.{AllByRecursion}
use Rattle.rules_model.specs.Products.{Group}
use Rattle.openflow_rules.specs.GroupSpans.{IsGroupSpan}
use Rattle.openflow_rules.specs.Gathered.{IsGathered}
use Rattle.openflow_rules.proofs.gathering.gather.Given as goal

abbrev pub invariant-loop-span : goal.invariant-loop-span
invariant-loop-span l = (groups : List Group) → AllByRecursion (IsGroupSpan l.site.net.now l.site.checked.now groups) l.spans → IsGathered l.site.net.now groups (take l.span-index l.spans) l.gathered
