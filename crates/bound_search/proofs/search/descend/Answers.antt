use Rattle.std.proofs.Common.{length, ◌≡◌, ◌∙◌, sym, ap, subst}
use Rattle.std.specs.Option.{option_copied}
use Rattle.bound_search.proofs.Descent.{solution-plain, better, falls, takes-best, tree-at}
use Rattle.merlin_model.specs.Programs.{Takes}
use Rattle.bound_search.specs.Descent.{cutoff_of_best}
use Rattle.bound_search.proofs.search.descend.Goals as goal

pub cutoff_of-cutoff-requires : goal.cutoff_of-cutoff-requires
cutoff_of-cutoff-requires g c =
    let halted = rw c.in-Halted.is at c.in_ok-point.ensures.grown in
    let same : option_copied c.as_ref-in-loop-best.result ≡ cutoff_of_best c.loop-best.best = c.as_ref-in-loop-best.ensures.value ∙ c.bound_of-cutoff.ensures in
    let takes = subst (Takes (g.P.Program.takes c.args.program.now)) (sym same) (takes-best _ (g.P.Program.instance c.args.program.now) _ _ (g.P.Program.value c.args.program.now) c.loop-best.best c.loop-best.invariant.best) in
    ap length c.as_slice.ensures ∙ (solution-plain _ (g.P.Program.instance c.args.program.now) _ _ (g.P.Program.value c.args.program.now) _ c.in-Halted.point (g.met.P.Program.cutoffs c.args.program.now) takes halted.0).size

pub loop-best-preserved : goal.loop-best-preserved
loop-best-preserved g c =
    let halted = rw c.in-Halted.is at c.in_ok-point.ensures.grown in
    let same : option_copied c.as_ref-in-loop-best.result ≡ cutoff_of_best c.loop-best.best = c.as_ref-in-loop-best.ensures.value ∙ c.bound_of-cutoff.ensures in
    let takes = subst (Takes (g.P.Program.takes c.args.program.now)) (sym same) (takes-best _ (g.P.Program.instance c.args.program.now) _ _ (g.P.Program.value c.args.program.now) c.loop-best.best c.loop-best.invariant.best) in
    record {
      of = c.in_ok-point.ensures.of;
      best = better _ (g.P.Program.instance c.args.program.now) _ _ _ (g.P.Program.value c.args.program.now) _ c.in-Halted.point _ (g.met.P.Program.cutoffs c.args.program.now) takes c.requires.taken halted
          (c.cutoff_of-cutoff.ensures ∙ ap (g.P.Program.value c.args.program.now) c.as_slice.ensures);
    }

pub loop-best-smaller : goal.loop-best-smaller
loop-best-smaller g c =
    let halted = rw c.in-Halted.is at c.in_ok-point.ensures.grown in
    let same : option_copied c.as_ref-in-loop-best.result ≡ cutoff_of_best c.loop-best.best = c.as_ref-in-loop-best.ensures.value ∙ c.bound_of-cutoff.ensures in
    let takes = takes-best _ (g.P.Program.instance c.args.program.now) _ _ (g.P.Program.value c.args.program.now) c.loop-best.best c.loop-best.invariant.best in
    falls _ (g.P.Program.instance c.args.program.now) (g.P.Program.neat c.args.program.now) (g.P.Program.takes c.args.program.now) (g.P.Program.is_below c.args.program.now) (g.P.Program.value c.args.program.now) _ _ c.in-Halted.point _ (g.met.P.Program.cutoffs c.args.program.now) same takes c.requires.taken halted
    (c.cutoff_of-cutoff.ensures ∙ ap (g.P.Program.value c.args.program.now) c.as_slice.ensures)

pub outcome_of-requires-clause-tree : goal.outcome_of-requires-clause-tree
outcome_of-requires-clause-tree g c =
    let whole = rw c.in-Whole.is at c.in_ok-point.ensures.grown in
    tree-at _ (g.P.Program.instance c.args.program.now) (g.P.Program.easy c.args.program.now) _ (option_copied c.as_ref.result) (option_copied c.as_ref-in-loop-best.result) _ _ _ _ _ c.in-Whole.tree
    (c.as_ref.ensures.value ∙ c.bound_of-cutoff.ensures) (c.as_ref-in-loop-best.ensures.value ∙ c.bound_of-cutoff.ensures) c.requires.budget c.in_ok-boxes.ensures.free whole
