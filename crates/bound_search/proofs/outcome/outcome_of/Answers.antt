use Rattle.std.specs.Fn.{FnReturnsAt}
use Rattle.std.proofs.Common.{◌∙◌, sym, subst, Some}
use Rattle.bound_search.proofs.Descent.{least-point, has-none}
use Rattle.bound_search.proofs.Counting.{is-spent}
use Rattle.bound_search.specs.Outcomes.{IsSpent}
use Rattle.bound_search.proofs.outcome.outcome_of.Goals as goal

pub returns-else-open : goal.returns-else-open
returns-else-open g c =
    least-point _ _ (g.P.Program.easy c.args._program.now) _ (g.P.Program.takes c.args._program.now) _ _ _ _ c.in-Some.best _ (g.met.P.Program.cutoffs c.args._program.now) c.refuted_box_has_no_solution.ensures
    (rw c.in-Some.is at c.requires.best) (rw c.in-Some.is at c.requires.tree) (sym (c.has_open-open.ensures _) ∙ c.if-open.false)

pub returns-else-open-2 : goal.returns-else-open-2
returns-else-open-2 g c =
    has-none _ _ _ _ _ _ c.refuted_box_has_no_solution.ensures (rw c.in-None.is at c.requires.tree) (sym (c.has_open-open.ensures _) ∙ c.if-open-2.false)

pub returns-then-open : goal.returns-then-open
returns-then-open g c =
    let best = rw c.in-Some.is at c.requires.best in
    let spent = is-spent _ _ _ _ _ (rw c.in-Some.is at c.requires.tree) (sym (c.has_open-open.ensures _) ∙ c.if-open.true) in (
      best.solution,
      best.is_neat,
      subst (λ z. IsSpent (g.P.Program.instance c.args._program.now (Some z)) (g.P.Program.easy c.args._program.now (Some z)) (λ box r. FnReturnsAt g.C.Fn c.args._chooser.now box r) c.args._budget c.args.tree) best.own spent,
    )

pub returns-then-open-2 : goal.returns-then-open-2
returns-then-open-2 g c = is-spent _ _ _ _ _ (rw c.in-None.is at c.requires.tree) (sym (c.has_open-open.ensures _) ∙ c.if-open-2.true)
