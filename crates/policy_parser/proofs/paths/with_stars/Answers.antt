use Rattle.std.proofs.Common.{◌≡◌, ◌∷◌, ℕ, List, Bool, false, sym, ◌∙◌, ap}
use Rattle.policy_grammar.specs.declared.written.RawPath.{RawPath, Star}
use Rattle.policy_grammar.specs.Lexemes.{Lexeme}
use Rattle.policy_grammar.specs.Machine.{Awaited, prim, put_path, repeated, awaiting}
use Rattle.policy_parser.specs.Readers.{run_text, IsInSequence, stars_list}
use Rattle.policy_parser.proofs.Stars.{stars_end}
use Rattle.policy_parser.proofs.paths.with_stars.Goals as goal

ends : (rest : List Lexeme) (p q : RawPath) (found : Bool) (k : List Awaited) (n : ℕ) → IsInSequence k → stars_list rest ≡ false → repeated found p ≡ q
    → run_text rest (awaiting (prim p found ∷ k) n) ≡ run_text rest (awaiting (put_path q k) n)
ends rest p q found k n within all e = stars_end rest p found k n within all ∙ ap (λ r. run_text rest (awaiting (put_path r k) n)) e

pub returns-in_ok-new-clause-reads : goal.returns-in_ok-new-clause-reads
returns-in_ok-new-clause-reads c = λ k n within.
    c.stars-found.ensures.reads _ k n
    ∙ ends _ _ _ _ k n within c.stars-found.ensures.all (ap (λ b. repeated b c.args.path) c.if-found.true ∙ ap Star (sym c.in_ok-new.ensures))

pub returns-else-found-clause-reads : goal.returns-else-found-clause-reads
returns-else-found-clause-reads c = λ k n within.
    c.stars-found.ensures.reads _ k n
    ∙ ends _ _ _ _ k n within c.stars-found.ensures.all (ap (λ b. repeated b c.args.path) c.if-found.false)
