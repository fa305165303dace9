use Rattle.std.proofs.Common.{◌≡◌, List, [], ◌∷◌, length}
use Rattle.std.specs.Prelude.{Option}
use Rattle.policy_grammar.specs.declared.written.Item.{Item}
use Rattle.policy_grammar.specs.declared.written.RawPath.{RawPath}
use Rattle.policy_grammar.specs.declared.written.WrittenSet.{WrittenSet}
use Rattle.policy_grammar.specs.Machine.{term, awaiting}
use Rattle.policy_parser.specs.Readers.{run_text, policy_with}
use Rattle.policy_parser.proofs.terms.terms_after.Given as goal

abbrev pub invariant-terms : goal.invariant-terms
invariant-terms l = (sets : List WrittenSet) (items : List Item) (default : Option RawPath) → run_text l.fn.lexemes (awaiting (term (policy_with sets items default []) ∷ []) 0) ≡ run_text l.rest (awaiting (term (policy_with sets items default l.terms) ∷ []) 0)

abbrev pub decreases-terms : goal.decreases-terms
decreases-terms l = length l.rest
