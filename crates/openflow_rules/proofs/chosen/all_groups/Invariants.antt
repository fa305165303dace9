use Rattle.std.proofs.Common.{List, map}
use Rattle.std.specs.List.{AllZip}
use Rattle.rules_model.specs.Products.{Group}
use Rattle.rules_model.specs.Tables.{all_hosts}
use Rattle.openflow_rules.specs.GroupSpans.{spans_over}
use Rattle.openflow_rules.specs.Gathered.{IsBranchFor}
use Rattle.openflow_rules.proofs.ChosenSteps.{AreMadeTo}
use Rattle.openflow_rules.proofs.chosen.all_groups.Given as goal

abbrev pub invariant-loop-leader : goal.invariant-loop-leader
invariant-loop-leader l = (bare : List Group) → AllZip (IsBranchFor l.chosen.net.now bare) (spans_over (all_hosts l.chosen.net.now) l.chosen.ends.now l.leaders) l.branches →
    AreMadeTo l.chosen.net.now l.chosen.checked.now l.chosen.ends.now (map (λ w. w.items) l.chosen.walks.now) bare l.leaders l.leader-index l.rest l.made.items
