use Rattle.std.proofs.Common.{◌∙◌, ap, List, max, get_or}
use Rattle.std.proofs.lemmas.Option.{get_or_from_slice_get}
use Rattle.cutoff_program.specs.declared.flow.Flow.{Flow}
use Rattle.cutoff_program.specs.declared.flow.Problem.{Problem}
use Rattle.price_bound.proofs.Permitting.{most-is}
use Rattle.price_bound.proofs.permitted.vertices_of.Goals as goal

pub returns : goal.returns
returns c stated stands =
    let d = c.index-as_slice-flow.result in
    let list = c.as_slice.ensures ∙ ap (λ (p : Problem). p.flows) c.problem.ensures in
    let here = ap (λ (l : List Flow). get_or l c.args.flow d) list ∙ get_or_from_slice_get c.args.program.now.problem.flows c.args.flow stated d stands in
    c.max.ensures ∙ ap (λ (f : Flow). max f.vertices 2) here ∙ most-is stated
