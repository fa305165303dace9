use Rattle.config_lines.proofs.SymbolTexts.{no_plain, with_colon}
use Rattle.config_lines.proofs.walks.read_symbol.Goals as goal

pub returns-in_err-loc-clause-none : goal.returns-in_err-loc-clause-none
returns-in_err-loc-clause-none c = rw c.from_residual.ensures (λ s is e. no_plain c.args.net.now c.args.word.now s.loc s.fun c.in_default.ensures.none c.in_err-loc.ensures.none is e)

pub returns-in_err-loc-2-clause-none : goal.returns-in_err-loc-2-clause-none
returns-in_err-loc-2-clause-none c =
    rw c.from_residual-in_err-loc-2.ensures (λ s is e.
    let found = with_colon c.args.net.now c.args.word.now c.in-Some.place.now c.in-Some.name.now s.loc s.fun c.in-Some.ensures.some.0 c.in-Some.ensures.some.1 is e in
    c.in_err-loc-2.ensures.none s.loc is.loc found.2)

pub returns-in_err-function-clause-none : goal.returns-in_err-function-clause-none
returns-in_err-function-clause-none c =
    rw c.from_residual-in_err-function.ensures (λ s is e.
    let found = with_colon c.args.net.now c.args.word.now c.in-Some.place.now c.in-Some.name.now s.loc s.fun c.in-Some.ensures.some.0 c.in-Some.ensures.some.1 is e in
    c.in_err-function.ensures.none found.0 found.1 found.3)
