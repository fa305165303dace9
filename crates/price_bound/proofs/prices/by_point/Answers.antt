use Rattle.std.proofs.Common.{◌≡◌, ◌∙◌, true, false, sym, subst}
use Rattle.merlin_model.specs.Programs.{IsSolution}
use Rattle.std.specs.Option.{option_copied}
use Rattle.cutoff_program.specs.Flows.{program_at}
use Rattle.price_bound.specs.Numbers.{AreRowsTried}
use Rattle.price_bound.proofs.prices.by_point.Goals as goal

pub returns-in-None-clause-lawful : goal.returns-in-None-clause-lawful
returns-in-None-clause-lawful c =
    let problem = c.args.program.now.problem in
    let cutoff = option_copied c.args.cutoff in
    let box = c.args.fixed.now in
    let found = c.requires.tried in
    let rows = subst (AreRowsTried (program_at problem cutoff) box) c.in-None.is c.in_ok-weights.ensures.tried in
    let better = c.closed_boxes_are_decided.ensures problem cutoff box found.at found.paths c.args.point c.args.program.now.is c.requires.asked.in_box found.tried found.of (c.has_open.ensures.none c.if-has_open.false) (λ row weight h. rows row h weight) in
    (better.solution, better.is_neat)

pub returns-then-has_open-clause-lawful : goal.returns-then-has_open-clause-lawful
returns-then-has_open-clause-lawful c =
    let problem = c.args.program.now.problem in
    let cutoff = option_copied c.args.cutoff in
    let box = c.args.fixed.now in
    let found = c.requires.tried in
    let false-true : false ≡ true → ⊥ = λ e. cc in (
      c.has_open.ensures.some c.if-has_open.true,
      c.easy_boxes_are_decided.ensures.undecided problem cutoff box found.at found.paths c.args.point c.args.program.now.is c.requires.asked.in_box found.tried found.of found.lengths found.links
          (λ s. false-true (sym c.if-is_solution.false ∙ c.is_solution.ensures.1 (subst (IsSolution (program_at problem cutoff)) (sym c.as_slice.ensures) s))),
    )
