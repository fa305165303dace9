use Rattle.std.proofs.Common.{◌≡◌, ◌<◌, ◌++◌, List, length}
use Rattle.std.specs.List.{AllByRecursion}
use Rattle.merlin_model.specs.declared.policy.Symbol.{Symbol}
use Rattle.language_check.specs.Inclusion.{forwards}
use Rattle.language_check.proofs.inclusion.word_of.Given as goal

abbrev pub decreases-loop-number : goal.decreases-loop-number
decreases-loop-number l = length l.trail

abbrev pub invariant-loop-number : goal.invariant-loop-number
invariant-loop-number l =
    AllByRecursion (λ k. k < length l.symbols) l.trail × ((rest : List Symbol) → l.word ++ forwards l.symbols l.trail rest ≡ forwards l.symbols l.initial.trail rest)
