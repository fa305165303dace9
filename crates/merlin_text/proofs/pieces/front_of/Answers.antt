use Rattle.std.proofs.Common.{◌≡◌, ◌≢◌, None, inr, refl, arith}
use Rattle.merlin_text.specs.Tokens.{gap}
use Rattle.merlin_text.proofs.Fronts.{blank_front, run_front, none_of_sign}
use Rattle.merlin_text.proofs.OnePiece.{IsOther}
use Rattle.merlin_text.proofs.Runs.{begins_with}
use Rattle.merlin_text.proofs.pieces.front_of.Goals as goal

pub returns-then-is_blank-clause-some : goal.returns-then-is_blank-clause-some
returns-then-is_blank-clause-some c = blank_front c.args.text.now c.in_default.ensures.none c.requires (c.if-is_blank.ensures.0 refl)

pub returns-then-first-eq35-clause-some : goal.returns-then-first-eq35-clause-some
returns-then-first-eq35-clause-some c =
    run_front gap (λ b. b ≡ 35) (λ b. b ≢ 10) c.args.text.now c.run_length.result None (λ v r run. inr run) (λ b e t. omega arith)
    c.in_default.ensures.none c.requires c.if-first-eq35.true c.run_length.ensures.within c.run_length.ensures.each c.run_length.ensures.longest refl tt

pub returns-in_err-sign-clause-none : goal.returns-in_err-sign-clause-none
returns-in_err-sign-clause-none c =
    rw c.from_residual.ensures
    (none_of_sign c.args.text.now c.in_default.ensures.none
    (begins_with IsOther c.args.text.now c.requires (record {
      no_blank = λ p. let clash : ⊥ = cc (c.if-is_blank.ensures.1 p) in clash;
      no_comment = c.if-first-eq35.false;
      no_letter = λ p. let clash : ⊥ = cc (c.if-is_letter.ensures.1 p) in clash;
      no_digit = λ p. let clash : ⊥ = cc (c.if-is_digit.ensures.1 p) in clash;
    }))
    c.in_err-sign.ensures.none)
