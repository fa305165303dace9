use Rattle.language_check.specs.Ways.{IsRowAt}
use Rattle.language_check.proofs.ways.row.Given as goal

abbrev pub invariant-loop-number : goal.invariant-loop-number
invariant-loop-number l = IsRowAt l.net l.symbols l.loc l.number l.row
