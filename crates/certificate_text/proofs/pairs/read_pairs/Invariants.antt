use Rattle.std.proofs.Common.{◌≡◌, ◌++◌, ◌⊎◌, [], length}
use Rattle.merlin_base.specs.Pairs.{pairs_text, IsEmptyOrBegins}
use Rattle.merlin_base.proofs.PairTexts.{ArePairsTo}
use Rattle.certificate_text.proofs.pairs.read_pairs.Given as goal

abbrev pub invariant-loop-rest : goal.invariant-loop-rest
invariant-loop-rest l = record {
  text : l.text ≡ pairs_text l.pairs ++ l.rest;
  are : ArePairsTo l.bound l.limit l.pairs l.next;
  begins : (l.pairs ≡ []) ⊎ IsEmptyOrBegins 32 l.rest;
}

abbrev pub decreases-loop-rest : goal.decreases-loop-rest
decreases-loop-rest l = length l.rest
