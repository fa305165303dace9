use Rattle.std.proofs.Common.{◌≡◌, length}
use Rattle.language_check.specs.Ways.{AreEndsOf}
use Rattle.language_check.proofs.ways.ends.Given as goal

abbrev pub invariant-loop-loc : goal.invariant-loop-loc
invariant-loop-loc l = (length l.ends ≡ l.loc) × AreEndsOf l.net l.last l.ends
