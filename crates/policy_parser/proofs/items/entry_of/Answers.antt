use Rattle.std.proofs.Common.{rules, ◌≡◌, List, ◌∷◌, ◌∙◌, sym, ap, subst}
use Rattle.merlin_text.specs.declared.lexeme.Lexeme.{Lexeme as ReadLexeme}
use Rattle.merlin_text.specs.declared.lexeme.Lexeme.TheVariants as read
use Rattle.merlin_text.specs.declared.token.Word.{Word}
use Rattle.merlin_text.specs.declared.token.Word.TheVariants as words
use Rattle.merlin_text.specs.ReadLexemes.{as_lexeme}
use Rattle.policy_grammar.specs.Lexemes.{Lexeme}
use Rattle.policy_grammar.specs.Machine.{Head, item}
use Rattle.policy_parser.specs.Readers.{run_text, AgreesWithRun, alone, for_each_awaited, after_entry}
use Rattle.policy_parser.proofs.items.entry_of.Goals as goal

-- one step of the run
each_fed : (ls rest : List Lexeme) (first : ReadLexeme) (w : Word) (h : Head) → ls ≡ as_lexeme first ∷ rest → first ≡ read.Word w → w ≡ words.Foreach → run_text ls (alone (item h)) ≡ run_text rest (for_each_awaited h)
each_fed ls rest first w h e kind is = ap (λ ms. run_text ms (alone (item h))) (e ∙ ap (λ l. as_lexeme l ∷ rest) (kind ∙ ap read.Word is))

pub returns-in-Word-Foreach-clause-reads : goal.returns-in-Word-Foreach-clause-reads
returns-in-Word-Foreach-clause-reads c = λ h.
    let e : run_text c.args.lexemes (alone (item h)) ≡ run_text c.in_ok-first.rest (for_each_awaited h) = search (rules, each_fed) in
    subst (λ all. AgreesWithRun c.for_each.result (λ read. run_text read.1 (after_entry h read.0)) all) (sym e) (c.for_each.ensures.reads h)
