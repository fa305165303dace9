use Rattle.std.proofs.Common.{[]}
use Rattle.language_check.specs.Ways.{IsSearchingIn}
use Rattle.language_check.proofs.search.search.Given as goal

abbrev pub invariant-loop-turn : goal.invariant-loop-turn
invariant-loop-turn l = IsSearchingIn l.ways l.a l.b l.found.keys l.from l.turn []
