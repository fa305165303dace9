use Rattle.std.proofs.Common.{◌∙◌, subst}
use Rattle.std.specs.Option.{option_copied}
use Rattle.price_bound.specs.Numbers.{ArePathsFound}
use Rattle.price_bound.proofs.Looking.{costs-of, costs-tried, wider-paths}
use Rattle.price_bound.proofs.trials.paths_within.Goals as goal

pub returns : goal.returns
returns c =
    let problem = c.args.program.now.problem in
    let cutoff = option_copied c.args.cutoff in
    let within = c.in_ok-within.within in
    let costs = c.in-Paths.costs in
    let are = subst (ArePathsFound problem cutoff within) c.in-Paths.is c.in_ok-find.ensures in
    record {
      of = wider-paths problem cutoff c.args.fixed.now within costs.point (λ k m. (m.0, λ e. m.1 (c.in_ok-within.ensures.zeros k e))) (costs-of problem cutoff within costs are);
      neat = c.tried_points_are_neat.ensures problem cutoff within are.at are.paths costs.point c.args.program.now.is
          (record { size = c.in_ok-within.ensures.size ∙ c.requires.in_box.size; within = λ k e. absurd (c.in_ok-within.ensures.none k e) })
          (costs-tried problem cutoff within costs are) are.of;
    }
