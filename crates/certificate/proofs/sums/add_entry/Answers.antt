use Rattle.std.proofs.Common.{pos, get_or, ap, arith}
use Rattle.std.proofs.lemmas.Int.{ints}
use Rattle.certificate.specs.Adding.{sum_at}
use Rattle.certificate.proofs.Places.{are-additions}
use Rattle.certificate.proofs.sums.add_entry.Goals as goal

pub overflow_sub-sums : goal.overflow_sub-sums
overflow_sub-sums c =
    let both = are-additions c.args.place c.args.may_be_one (sum_at c.args.sums.now c.args.variable) _ c.args.amount _ _ (c.requires.small.each c.args.variable) c.requires.amount
    (ap (λ xs. get_or xs c.args.variable (pos 0)) c.as_slice.ensures) c.addition.ensures c.addition-2.ensures in
    let a = both.after_small in let b = both.before_small in omega (arith, ints)

pub overflow_add-sums : goal.overflow_add-sums
overflow_add-sums c =
    let both = are-additions c.args.place c.args.may_be_one (sum_at c.args.sums.now c.args.variable) _ c.args.amount _ _ (c.requires.small.each c.args.variable) c.requires.amount
    (ap (λ xs. get_or xs c.args.variable (pos 0)) c.as_slice.ensures) c.addition.ensures c.addition-2.ensures in
    let a = both.after_small in let b = both.before_small in let d = both.apart in let l = c.requires.small.least in omega (arith, ints)

pub returns-clause-least : goal.returns-clause-least
returns-clause-least c =
    let both = are-additions c.args.place c.args.may_be_one (sum_at c.args.sums.now c.args.variable) _ c.args.amount _ _ (c.requires.small.each c.args.variable) c.requires.amount
    (ap (λ xs. get_or xs c.args.variable (pos 0)) c.as_slice.ensures) c.addition.ensures c.addition-2.ensures in
    let a = both.after_small in let b = both.before_small in let d = both.apart in let l = c.requires.small.least in
    let x = both.after_is in let y = both.before_is in omega (arith, ints)
