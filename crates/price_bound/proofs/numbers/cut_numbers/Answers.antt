use Rattle.std.proofs.Common.{◌∙◌, ◌++◌, ◌<◌, length, sym, ap, subst}
use Rattle.cutoff_program.specs.declared.flow.Problem.{Problem}
use Rattle.graph_search.specs.Graphs.{known_at}
use Rattle.graph_search.proofs.Places.{below-get}
use Rattle.price_candidates.specs.Tried.{missing, only}
use Rattle.price_bound.specs.Numbers.{numbers_at}
use Rattle.price_bound.proofs.Flat.{flat-next}
use Rattle.price_bound.proofs.numbers.cut_numbers.Goals as goal

pub loop-flow-preserved : goal.loop-flow-preserved
loop-flow-preserved c =
    let flows = c.args.program.now.problem.flows in
    let flow = c.loop-flow.flow in
    let at = only c.args.cut (λ vertex. missing (known_at c.args.distances.now vertex)) in
    let within = subst (λ n. flow < n) (c.len-flow-end.ensures ∙ ap (λ (p : Problem). length p.flows) c.problem.ensures) c.loop-flow-test.true in
    let here = below-get flows flow within in
    c.in_ok-push_part.ensures here.0 here.1 ∙ ap (λ l. l ++ numbers_at at flow here.0) c.loop-flow.invariant ∙ sym (flat-next at flows flow here.0 here.1)
