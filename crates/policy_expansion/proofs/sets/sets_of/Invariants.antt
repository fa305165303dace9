use Rattle.std.proofs.Common.{◌≡◌, ℕ, List, map, take}
use Rattle.policy_expansion.specs.WrittenOut.{known_literals}
use Rattle.policy_expansion.specs.Tables.{under}
use Rattle.policy_expansion.proofs.Repeated.{found_from}
use Rattle.policy_expansion.proofs.sets.sets_of.Given as goal

abbrev pub invariant-loop-set : goal.invariant-loop-set
invariant-loop-set l = record {
  filled : (name : List ℕ) → under l.sets name ≡ known_literals (take l.set-index l.written) name;
  clear : found_from (map (λ s. s.name) l.written) l.set-index ≡ found_from (map (λ s. s.name) l.written) 0;
}
