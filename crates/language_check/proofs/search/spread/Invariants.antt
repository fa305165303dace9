use Rattle.std.proofs.Common.{◌≡◌, take, slice_get, Some}
use Rattle.language_check.specs.Ways.{IsSearchingIn}
use Rattle.language_check.proofs.search.spread.Given as goal

abbrev pub invariant-loop-symbol : goal.invariant-loop-symbol
invariant-loop-symbol l = IsSearchingIn l.ways l.a l.b l.found.keys l.from l.turn (take l.symbol-index l.row) × (slice_get l.found.keys l.turn ≡ Some l.triple)
