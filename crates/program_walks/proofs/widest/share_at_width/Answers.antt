use Rattle.std.proofs.Common.{◌∙◌, subst, ap}
use Rattle.cutoff_program.specs.declared.flow.Flow.{Flow}
use Rattle.program_walks.specs.Bounds.{greatest_share}
use Rattle.program_walks.specs.Paths.{IsLeastPathIf}
use Rattle.program_walks.proofs.Narrowing.{path-share, no-path}
use Rattle.program_walks.proofs.widest.share_at_width.Goals as goal

pub returns-in-None : goal.returns-in-None
returns-in-None c = λ (flow : Flow) stands.
    no-path c.args.problem.now c.args.number flow c.args.width c.as_slice.result.now (c.as_slice.ensures ∙ c.in_ok-point.ensures)
    (subst (IsLeastPathIf c.args.problem.now c.as_slice.result.now c.args.number flow) c.in-None.is (c.in_ok-least_path.ensures flow stands))

pub returns : goal.returns
returns c = λ (flow : Flow) stands.
    path-share c.args.problem.now c.args.number flow c.args.width c.as_slice.result.now c.in-Some.found c.greatest_along.result (c.as_slice.ensures ∙ c.in_ok-point.ensures)
    (subst (IsLeastPathIf c.args.problem.now c.as_slice.result.now c.args.number flow) c.in-Some.is (c.in_ok-least_path.ensures flow stands))
    (c.greatest_along.ensures ∙ ap (greatest_share c.args.problem.now) c.as_slice-in-Some.ensures)
