use Rattle.std.proofs.Common.{◌∷◌, ◌++◌, ◌∙◌, ap, sym}
use Rattle.std.specs.Prelude.{codes}
use Rattle.std.specs.Fmt.{decimal}
use Rattle.config_lines.proofs.Then.{no_byte, same_part, unit_free, rate_cut, behind_word}
use Rattle.config_lines.proofs.words.rate_then.Goals as goal

pub returns-in_err-word-clause-none : goal.returns-in_err-word-clause-none
returns-in_err-word-clause-none c = rw c.from_residual.ensures (λ n rest is e. no_byte 107 c.args.text.now (decimal n) (codes "bit" ++ (c.args.behind.now ++ rest)) c.in_err-word.ensures.none (e ∙ rate_cut n (c.args.behind.now ++ rest)))

pub returns-in_err-number-clause-none : goal.returns-in_err-number-clause-none
returns-in_err-number-clause-none c =
    rw c.from_residual-in_err-number.ensures (λ n rest is e.
    c.in_err-number.ensures.none n is (same_part 107 c.args.text.now c.in_ok-word.word.now c.in_ok-word.rest.now (decimal n) (codes "bit" ++ (c.args.behind.now ++ rest)) c.in_ok-word.ensures.some.0 c.in_ok-word.ensures.some.1
    (unit_free n is) (e ∙ rate_cut n (c.args.behind.now ++ rest))).front)

pub returns-in_err-rest-clause-none : goal.returns-in_err-rest-clause-none
returns-in_err-rest-clause-none c =
    rw c.from_residual-in_err-rest.ensures (λ n rest is e.
    c.in_err-rest.ensures.none (c.args.behind.now ++ rest) (same_part 107 c.args.text.now c.in_ok-word.word.now c.in_ok-word.rest.now (decimal n) (codes "bit" ++ (c.args.behind.now ++ rest)) c.in_ok-word.ensures.some.0 c.in_ok-word.ensures.some.1
    (unit_free n is) (e ∙ rate_cut n (c.args.behind.now ++ rest))).rest)

pub returns-in_err-rest-2-clause-none : goal.returns-in_err-rest-2-clause-none
returns-in_err-rest-2-clause-none c =
    rw c.from_residual-in_err-rest-2.ensures (λ n rest is e.
    c.in_err-rest-2.ensures.none rest (behind_word (codes "bit") c.in_ok-word.rest.now c.in_ok-rest.rest.now (c.args.behind.now ++ rest) c.in_ok-rest.ensures.some
    (same_part 107 c.args.text.now c.in_ok-word.word.now c.in_ok-word.rest.now (decimal n) (codes "bit" ++ (c.args.behind.now ++ rest)) c.in_ok-word.ensures.some.0 c.in_ok-word.ensures.some.1
    (unit_free n is) (e ∙ rate_cut n (c.args.behind.now ++ rest))).rest))

pub returns-clause-some : goal.returns-clause-some
returns-clause-some c = (
  c.in_ok-word.ensures.some.0 ∙ ap (λ w. w ++ 107 ∷ c.in_ok-word.rest.now) c.in_ok-number.ensures.some.0
      ∙ ap (λ z. decimal c.in_ok-number.number ++ 107 ∷ z) (c.in_ok-rest.ensures.some ∙ ap (λ z. codes "bit" ++ z) c.in_ok-rest-2.ensures.some)
      ∙ sym (rate_cut c.in_ok-number.number (c.args.behind.now ++ c.in_ok-rest-2.rest.now)),
  c.in_ok-number.ensures.some.1,
)
