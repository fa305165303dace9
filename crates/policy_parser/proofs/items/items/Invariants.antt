use Rattle.std.proofs.Common.{◌≡◌, List, [], ◌∷◌, length}
use Rattle.policy_grammar.specs.declared.written.WrittenSet.{WrittenSet}
use Rattle.policy_grammar.specs.Machine.{item, awaiting}
use Rattle.policy_parser.specs.Readers.{run_text}
use Rattle.policy_parser.proofs.items.items.Given as goal

abbrev pub invariant-items : goal.invariant-items
invariant-items l = (sets : List WrittenSet) → run_text l.fn.lexemes (awaiting (item (record { sets = sets; items = [] }) ∷ []) 0) ≡ run_text l.rest (awaiting (item (record { sets = sets; items = l.items }) ∷ []) 0)

abbrev pub decreases-items : goal.decreases-items
decreases-items l = length l.rest
