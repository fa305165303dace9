use Rattle.std.proofs.Common.{◌≡◌, ◌-◌, ◌∙◌, ℕ, List, Err, ap, subst}
use Rattle.policy_grammar.specs.Lexemes.{Lexeme, lexemes}
use Rattle.policy_parser.specs.Policies.{place_of}
use Rattle.policy_parser.specs.PredicateTexts.{StandForPredicate}
use Rattle.policy_parser.specs.Readers.{run_text, first_pred}
use Rattle.policy_parser.proofs.PredicateTexts.{sound}
use Rattle.policy_parser.proofs.PredicateOnce.{few_left, stops}
use Rattle.policy_parser.proofs.pred_parsing.pred_of.Goals as goal

-- the same lexemes stop at the same place
same_stop : (ls ms : List Lexeme) (left : ℕ) → ls ≡ ms → run_text ls first_pred ≡ Err left → run_text ms first_pred ≡ Err left
same_stop ls ms left e stop = subst (λ ns. run_text ns first_pred ≡ Err left) e stop

pub overflow_sub-count : goal.overflow_sub-count
overflow_sub-count c =
    let same = c.new.ensures ∙ ap (lexemes c.args.bytes.now) c.copy.ensures in
    rw c.len-count.ensures (few_left c.args.bytes.now _ _ (same_stop _ _ _ same (rw c.in-Err-Syntax.field-0-is at c.in-Err-Syntax.ensures)))

pub returns-in-Ok : goal.returns-in-Ok
returns-in-Ok c = subst (λ ls. StandForPredicate ls c.in-Ok.pred) (c.new.ensures ∙ ap (lexemes c.args.bytes.now) c.copy.ensures) (sound _ _ c.in-Ok.ensures)

pub returns-in-Err-Syntax : goal.returns-in-Err-Syntax
returns-in-Err-Syntax c =
    let same = c.new.ensures ∙ ap (lexemes c.args.bytes.now) c.copy.ensures in
    stops c.args.bytes.now c.args.tokens c.in-Err-Syntax.left c.place_of.result (same_stop _ _ _ same (rw c.in-Err-Syntax.field-0-is at c.in-Err-Syntax.ensures))
    (c.place_of.ensures ∙ ap (λ (n : ℕ). place_of c.args.bytes.now c.args.tokens (n - c.in-Err-Syntax.left)) c.len-count.ensures)
