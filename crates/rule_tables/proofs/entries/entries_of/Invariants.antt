use Rattle.std.proofs.Common.{take, List}
use Rattle.std.specs.List.{AllZip}
use Rattle.rules_model.specs.Products.{Group}
use Rattle.rule_tables.specs.Branches.{AreBranches}
use Rattle.rule_tables.specs.Rows.{IsReady}
use Rattle.rule_tables.specs.Entries.{AreBetweenHosts, IsCellEntry}
use Rattle.rule_tables.proofs.entries.entries_of.Given as goal

abbrev pub invariant-loop-cell : goal.invariant-loop-cell
invariant-loop-cell l = (of : List Group) → IsReady l.net of l.tags → AreBranches l.net of l.branches → AreBetweenHosts l.net l.owned →
    AllZip (IsCellEntry l.net of l.tags) (take l.cell-index l.owned) l.entries.items
