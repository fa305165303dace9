use Rattle.std.proofs.Common.{◌≡◌, ◌≤◌, List, [], ◌∷◌, ℕ, length}
use Rattle.policy_grammar.specs.declared.written.WrittenSet.{WrittenSet}
use Rattle.policy_grammar.specs.Machine.{set_start, set_more, awaiting}
use Rattle.policy_parser.specs.Readers.{run_text}
use Rattle.policy_parser.proofs.sets.literals.Given as goal

abbrev pub invariant-literals : goal.invariant-literals
invariant-literals l = record {
  reads : (ss : List WrittenSet) (name : List ℕ) → run_text l.fn.lexemes (awaiting (set_start ss name ∷ []) 0) ≡ run_text l.rest (awaiting (set_more ss name l.literals ∷ []) 0);
  shorter : length l.rest ≤ length l.fn.lexemes;
}

abbrev pub decreases-literals : goal.decreases-literals
decreases-literals l = length l.rest
