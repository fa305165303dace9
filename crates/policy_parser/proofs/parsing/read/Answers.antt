use Rattle.std.proofs.Common.{◌≡◌, ◌-◌, ◌∙◌, ℕ, List, Err, ap, subst}
use Rattle.policy_grammar.proofs.PolicyTexts.{sound}
use Rattle.policy_grammar.specs.Grammar.{StandsFor}
use Rattle.policy_grammar.specs.Lexemes.{Lexeme, lexemes}
use Rattle.policy_grammar.specs.Machine.{run, first_state}
use Rattle.policy_parser.proofs.WholeTexts.{policy_ok, policy_err}
use Rattle.policy_parser.specs.Policies.{place_of}
use Rattle.policy_parser.proofs.Told.{few_left, stops}
use Rattle.policy_parser.proofs.parsing.read.Goals as goal

-- the same lexemes stop at the same place
same_stop : (ls ms : List Lexeme) (left : ℕ) → ls ≡ ms → run ls first_state ≡ Err left → run ms first_state ≡ Err left
same_stop ls ms left e stop = subst (λ ns. run ns first_state ≡ Err left) e stop

pub overflow_sub-count : goal.overflow_sub-count
overflow_sub-count c =
    let same = c.new.ensures ∙ ap (lexemes c.args.bytes.now) c.copy.ensures in
    rw c.len-count.ensures (few_left c.args.bytes.now _ _ (same_stop _ _ _ same (policy_err c.new.result _ (rw c.in-Err-Syntax.field-0-is at c.in-Err-Syntax.ensures))))

pub returns-in-Ok : goal.returns-in-Ok
returns-in-Ok c = subst (λ ls. StandsFor ls c.in-Ok.policy) (c.new.ensures ∙ ap (lexemes c.args.bytes.now) c.copy.ensures) (sound _ _ (policy_ok c.new.result _ c.in-Ok.ensures))

pub returns-in-Err-Syntax : goal.returns-in-Err-Syntax
returns-in-Err-Syntax c =
    let same = c.new.ensures ∙ ap (lexemes c.args.bytes.now) c.copy.ensures in
    stops c.args.bytes.now c.args.tokens c.in-Err-Syntax.left c.place_of.result (same_stop _ _ _ same (policy_err c.new.result _ (rw c.in-Err-Syntax.field-0-is at c.in-Err-Syntax.ensures)))
    (c.place_of.ensures ∙ ap (λ (n : ℕ). place_of c.args.bytes.now c.args.tokens (n - c.in-Err-Syntax.left)) c.len-count.ensures)
