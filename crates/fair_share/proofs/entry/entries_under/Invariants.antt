use Rattle.std.proofs.Common.{take, map}
use Rattle.std.specs.List.{AllZip}
use Rattle.serde_json.specs.View.{view}
use Rattle.fair_share.specs.Format.{IsEntryOf}
use Rattle.fair_share.proofs.entry.entries_under.Given as goal

abbrev pub invariant-loop-place : goal.invariant-loop-place
invariant-loop-place l = AllZip (IsEntryOf l.rate_key) (take l.place (map view l.items)) l.entries.items
