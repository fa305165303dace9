use Rattle.std.proofs.Common.{◌==◌, ℕ, List, get_or}
use Rattle.merlin_model.specs.declared.policy.Ends.{Ends}
use Rattle.product_graph.proofs.Lists.{get-at}
use Rattle.openflow_rules.proofs.PlannedGroups.{for-it}
use Rattle.openflow_rules.proofs.Steps.{find-here}
use Rattle.openflow_rules.proofs.chosen.place_for.Goals as goal

abbrev none : Ends
none = record { statement = 0; src = 0; dst = 0 }

pub returns-then-pair-statement : goal.returns-then-pair-statement
returns-then-pair-statement c =
    let ends : List Ends = c.args.ends.now in
    let i : ℕ = c.loop-place.place in
    let found = for-it c.args.statement (get_or ends i none) c.if-pair-statement.true in (
      get_or ends i none,
      get-at ends i none c.loop-place-test.true,
      find-here (λ e. e.statement == c.args.statement) ends i none c.loop-place-test.true found c.loop-place.invariant,
    )
