use Rattle.std.proofs.Common.{inl, inr, arith}
use Rattle.config_lines.proofs.ClassTexts.{wrong_lead, wrong_digit, wrong_length, pass_none}
use Rattle.config_lines.proofs.classes.read_class.Goals as goal

pub returns-in_err-first-in-len2-clause-none : goal.returns-in_err-first-in-len2-clause-none
returns-in_err-first-in-len2-clause-none c = rw c.from_residual.ensures (wrong_lead c.args.word.now c.in_err-first-in-len2.ensures.none)

pub returns-in_err-first-in-len3-clause-none : goal.returns-in_err-first-in-len3-clause-none
returns-in_err-first-in-len3-clause-none c = rw c.from_residual-in_err-first-in-len3.ensures (wrong_lead c.args.word.now c.in_err-first-in-len3.ensures.none)

pub returns-in_err-first-in-len4-clause-none : goal.returns-in_err-first-in-len4-clause-none
returns-in_err-first-in-len4-clause-none c = rw c.from_residual-in_err-first-in-len4.ensures (wrong_lead c.args.word.now c.in_err-first-in-len4.ensures.none)

pub returns-in_err-front-in-len3-clause-none : goal.returns-in_err-front-in-len3-clause-none
returns-in_err-front-in-len3-clause-none c = rw c.from_residual-in_err-front-in-len3.ensures (wrong_digit c.args.word.now 1 (let l = c.in-len3.len_at_least in omega arith) c.in_err-front-in-len3.ensures.none)

pub returns-in_err-front-in-len4-clause-none : goal.returns-in_err-front-in-len4-clause-none
returns-in_err-front-in-len4-clause-none c = rw c.from_residual-in_err-front-in-len4.ensures (wrong_digit c.args.word.now 1 (let l = c.in-len4.len_at_least in omega arith) c.in_err-front-in-len4.ensures.none)

pub returns-in_err-front-in-len4-2-clause-none : goal.returns-in_err-front-in-len4-2-clause-none
returns-in_err-front-in-len4-2-clause-none c = rw c.from_residual-in_err-front-in-len4-2.ensures (wrong_digit c.args.word.now 2 (let l = c.in-len4.len_at_least in omega arith) c.in_err-front-in-len4-2.ensures.none)

pub returns-in-len1-clause-none : goal.returns-in-len1-clause-none
returns-in-len1-clause-none c = pass_none _ _ c.first_digit.result (λ none. wrong_lead c.args.word.now none) c.first_digit.ensures.none

pub returns-in_ok-first-in-len2-clause-none : goal.returns-in_ok-first-in-len2-clause-none
returns-in_ok-first-in-len2-clause-none c = pass_none _ _ c.with_digit.result (λ none. wrong_digit c.args.word.now 1 (let l = c.in-len2.len_at_least in omega arith) none) c.with_digit.ensures.none

pub returns-in_ok-front-in-len3-clause-none : goal.returns-in_ok-front-in-len3-clause-none
returns-in_ok-front-in-len3-clause-none c = pass_none _ _ c.with_digit-in-len3-2.result (λ none. wrong_digit c.args.word.now 2 (let l = c.in-len3.len_at_least in omega arith) none) c.with_digit-in-len3-2.ensures.none

pub returns-in_ok-front-in-len4-2-clause-none : goal.returns-in_ok-front-in-len4-2-clause-none
returns-in_ok-front-in-len4-2-clause-none c = pass_none _ _ c.with_digit-in-len4-3.result (λ none. wrong_digit c.args.word.now 3 (let l = c.in-len4.len_at_least in omega arith) none) c.with_digit-in-len4-3.ensures.none

pub returns-in_default-clause-none : goal.returns-in_default-clause-none
returns-in_default-clause-none c = wrong_length c.args.word.now (inl c.in_default.len_below)

pub returns-in_default-2-clause-none : goal.returns-in_default-2-clause-none
returns-in_default-2-clause-none c = wrong_length c.args.word.now (inr c.in_default.len_at_least)
