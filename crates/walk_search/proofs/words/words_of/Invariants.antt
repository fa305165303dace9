use Rattle.std.proofs.Common.{◌≡◌, map, take}
use Rattle.walk_search.proofs.words.words_of.Given as goal

abbrev pub invariant-loop-walk : goal.invariant-loop-walk
invariant-loop-walk l = map (λ w. w.items) l.words.items ≡ take l.walk-index l.walks
