use Rattle.std.proofs.Common.{◌≡◌, ◌<◌, ℕ, true, false, length, sym, ◌∙◌, ap, subst, Some, Result, Ok, Err, IsErrAnd, slice_set, arith}
use Rattle.std.specs.Option.{option_copied}
use Rattle.certificate.specs.Checks.{IsTreeCheck}
use Rattle.certificate.proofs.AtCutoffs.{is-at}
use Rattle.certificate.proofs.Walks.{leaf_fails, end_fails, split_fails, low_fails, high_answers, back, long, counts_on}
use Rattle.certificate.proofs.checker.+refute.Goals as goal

false-true : false ≡ true → ⊥
false-true e = cc

err_is : (result : Result ℕ ℕ) (n : ℕ) → IsErrAnd result (λ m. m ≡ n) → result ≡ Err n
err_is (Ok m) n h = absurd h
err_is (Err m) n h = ap Err h

pub returns-then-not-is_open-clause-answer : goal.returns-then-not-is_open-clause-answer
returns-then-not-is_open-clause-answer g t c =
    split_fails _ c.args.tree.now c.in-Split.zero c.in-Split.one c.in-Split.variable c.args.fixed.now c.args.at c.in-Split.is (λ o. false-true (sym c.if-not-is_open.true ∙ c.is_open.ensures.1 o))

pub set-requires : goal.set-requires
set-requires g t c =
    let at = is-at _ _ _ _ _ (option_copied c.args.cutoff) (g.met.P.Program.cutoffs c.args.program.now) (g.met.P.Program.is_program c.args.program.now) c.requires.takes in
    let o = c.is_open.ensures.0 c.if-not-is_open.false in
    let e = o.exists in let s = at.variables_same in let size = c.requires.size in omega arith

pub returns-else-leaf_refutes-clause-answer : goal.returns-else-leaf_refutes-clause-answer
returns-else-leaf_refutes-clause-answer g t c = leaf_fails _ c.args.tree.now c.in-Leaf.weights c.args.fixed.now c.args.at c.in-Leaf.is
    (λ r. false-true (sym c.if-leaf_refutes.false ∙ c.leaf_refutes.ensures.answer.1 (rw c.as_slice.ensures r)))

pub returns-in-Unclosed-clause-answer : goal.returns-in-Unclosed-clause-answer
returns-in-Unclosed-clause-answer g t c = end_fails _ c.args.tree.now c.args.fixed.now c.args.at c.in-Unclosed.is

pub set-requires-in-Split : goal.set-requires-in-Split
set-requires-in-Split g t c =
    let at = is-at _ _ _ _ _ (option_copied c.args.cutoff) (g.met.P.Program.cutoffs c.args.program.now) (g.met.P.Program.is_program c.args.program.now) c.requires.takes in
    let o = c.is_open.ensures.0 c.if-not-is_open.false in
    let e = o.exists in let s = at.variables_same in let size = c.requires.size in
    long c.args.fixed.now c.set.new.self c.refute-low.new.fixed c.in-Split.variable (Some false) c.set.ensures c.refute-low.ensures.fixed (omega arith)

pub returns-in_err-next-in-Split-clause-fixed : goal.returns-in_err-next-in-Split-clause-fixed
returns-in_err-next-in-Split-clause-fixed g t c =
    let o = c.is_open.ensures.0 c.if-not-is_open.false in
    back c.args.fixed.now c.set.new.self c.refute-low.new.fixed c.set-in-Split.new.self c.in-Split.variable (Some false) o.free c.set.ensures c.refute-low.ensures.fixed c.set-in-Split.ensures

pub returns-in_err-next-in-Split-clause-answer : goal.returns-in_err-next-in-Split-clause-answer
returns-in_err-next-in-Split-clause-answer g t c =
    let o = c.is_open.ensures.0 c.if-not-is_open.false in
    let z = c.in_err-next-in-Split.ensures.answer in
    let failed = err_is c.from_residual.result c.in_err-next-in-Split.field-0.0 c.from_residual.ensures.1 in
    subst (IsTreeCheck (g.P.Program.instance c.args.program.now (option_copied c.args.cutoff)) c.args.tree.now c.args.fixed.now c.args.at) (sym failed)
    (low_fails _ c.args.tree.now c.in-Split.zero c.in-Split.one c.in-Split.variable c.args.fixed.now c.args.at c.saturating_add-in-Split.result c.in_err-next-in-Split.field-0.0 c.in-Split.is o
    (counts_on c.args.at c.saturating_add-in-Split.result c.saturating_add-in-Split.ensures) (rw (← c.get.ensures, ← c.set.ensures) z))

pub set-requires-in-Split-2 : goal.set-requires-in-Split-2
set-requires-in-Split-2 g t c =
    let at = is-at _ _ _ _ _ (option_copied c.args.cutoff) (g.met.P.Program.cutoffs c.args.program.now) (g.met.P.Program.is_program c.args.program.now) c.requires.takes in
    let o = c.is_open.ensures.0 c.if-not-is_open.false in
    let e = o.exists in let s = at.variables_same in let size = c.requires.size in
    subst (λ xs. c.in-Split.variable < length xs)
    (sym (back c.args.fixed.now c.set.new.self c.refute-low.new.fixed c.set-in-Split.new.self c.in-Split.variable (Some false) o.free c.set.ensures c.refute-low.ensures.fixed c.set-in-Split.ensures)) (omega arith)

pub set-requires-in-Split-3 : goal.set-requires-in-Split-3
set-requires-in-Split-3 g t c =
    let at = is-at _ _ _ _ _ (option_copied c.args.cutoff) (g.met.P.Program.cutoffs c.args.program.now) (g.met.P.Program.is_program c.args.program.now) c.requires.takes in
    let o = c.is_open.ensures.0 c.if-not-is_open.false in
    let e = o.exists in let s = at.variables_same in let size = c.requires.size in
    let same = back c.args.fixed.now c.set.new.self c.refute-low.new.fixed c.set-in-Split.new.self c.in-Split.variable (Some false) o.free c.set.ensures c.refute-low.ensures.fixed c.set-in-Split.ensures in
    long c.args.fixed.now c.set-in-Split-2.new.self c.refute-high.new.fixed c.in-Split.variable (Some true) (c.set-in-Split-2.ensures ∙ ap (λ xs. slice_set xs c.in-Split.variable (Some true)) same) c.refute-high.ensures.fixed (omega arith)

pub returns-in_ok-next-in-Split-clause-fixed : goal.returns-in_ok-next-in-Split-clause-fixed
returns-in_ok-next-in-Split-clause-fixed g t c =
    let o = c.is_open.ensures.0 c.if-not-is_open.false in
    let same = back c.args.fixed.now c.set.new.self c.refute-low.new.fixed c.set-in-Split.new.self c.in-Split.variable (Some false) o.free c.set.ensures c.refute-low.ensures.fixed c.set-in-Split.ensures in
    back c.args.fixed.now c.set-in-Split-2.new.self c.refute-high.new.fixed c.set-in-Split-3.new.self c.in-Split.variable (Some true) o.free (c.set-in-Split-2.ensures ∙ ap (λ xs. slice_set xs c.in-Split.variable (Some true)) same) c.refute-high.ensures.fixed c.set-in-Split-3.ensures

pub returns-in_ok-next-in-Split-clause-answer : goal.returns-in_ok-next-in-Split-clause-answer
returns-in_ok-next-in-Split-clause-answer g t c =
    let o = c.is_open.ensures.0 c.if-not-is_open.false in
    let z = c.in_ok-next-in-Split.ensures.answer in
    let same = back c.args.fixed.now c.set.new.self c.refute-low.new.fixed c.set-in-Split.new.self c.in-Split.variable (Some false) o.free c.set.ensures c.refute-low.ensures.fixed c.set-in-Split.ensures in
    high_answers _ c.args.tree.now c.in-Split.zero c.in-Split.one c.in-Split.variable c.args.fixed.now c.args.at c.saturating_add-in-Split.result c.in_ok-next-in-Split.next c.refute-high.result c.in-Split.is o
    (counts_on c.args.at c.saturating_add-in-Split.result c.saturating_add-in-Split.ensures) (rw (← c.get.ensures, ← c.set.ensures) z)
    (rw (← c.get-in-Split.ensures, ← same, ← c.set-in-Split-2.ensures) c.refute-high.ensures.answer)
