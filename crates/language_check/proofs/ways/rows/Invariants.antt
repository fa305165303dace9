use Rattle.std.proofs.Common.{◌≡◌, length}
use Rattle.language_check.specs.Ways.{AreRowsOf}
use Rattle.language_check.proofs.ways.rows.Given as goal

abbrev pub invariant-loop-loc : goal.invariant-loop-loc
invariant-loop-loc l = (length l.rows ≡ l.loc) × AreRowsOf l.net l.symbols l.rows
