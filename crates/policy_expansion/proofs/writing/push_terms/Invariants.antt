use Rattle.std.proofs.Common.{◌≡◌, ◌++◌, map, take}
use Rattle.policy_expansion.specs.Expansion.{term_of}
use Rattle.policy_expansion.proofs.writing.push_terms.Given as goal

abbrev pub invariant-loop-limit : goal.invariant-loop-limit
invariant-loop-limit l = l.terms ≡ l.fn.terms ++ map (term_of l.id) (take l.limit-index l.limits)
