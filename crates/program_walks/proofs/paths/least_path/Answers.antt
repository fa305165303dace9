use Rattle.std.proofs.Common.{ℕ, List, Option, [], None, get_or, ◌∙◌, sym, ap, subst, arith}
use Rattle.cutoff_program.specs.declared.flow.Flow.{Flow}
use Rattle.graph_search.proofs.Places.{no-more}
use Rattle.program_walks.specs.Paths.{IsLeastPath}
use Rattle.program_walks.proofs.Turning.{get-some}
use Rattle.program_walks.proofs.Leasts.{has-least, has-none, turned-inside, turned-costs, at-end, whole, way-same}
use Rattle.program_walks.proofs.paths.least_path.Goals as goal

abbrev no_flow : Flow
no_flow = record { rate = 0; vertices = 0; edges = [] }

pub potentials_of-requires-clause-inside : goal.potentials_of-requires-clause-inside
potentials_of-requires-clause-inside c =
    let stands = get-some c.args.problem.now.flows c.args.number no_flow c.requires.in_range in
    turned-inside c.args.problem.now c.args.point.now c.args.number _ _ c.in_ok-edges.field-0 (c.in_ok-edges.ensures _ stands) c.end_of-end.result (c.end_of-end.ensures.end _ stands)

pub potentials_of-requires-clause-costs : goal.potentials_of-requires-clause-costs
potentials_of-requires-clause-costs c =
    let stands = get-some c.args.problem.now.flows c.args.number no_flow c.requires.in_range in
    turned-costs c.args.problem.now c.args.variables.now c.args.point.now c.args.number _ c.in_ok-edges.field-0 c.requires.is c.requires.are (c.in_ok-edges.ensures _ stands)

pub returns-in_default : goal.returns-in_default
returns-in_default c = λ (flow : Flow) stands.
    has-none c.args.problem.now c.args.point.now c.args.number flow c.in_ok-edges.field-0 c.in_ok-distance.field-0 c.requires.is
    (whole c.args.problem.now c.args.variables.now c.args.point.now c.args.number flow c.in_ok-edges.field-0 c.requires.are (c.in_ok-edges.ensures flow stands))
    (at-end c.in_ok-edges.field-0.edges c.in_ok-distance.field-0 c.end_of-end.result flow (c.end_of-end.ensures.end flow stands) c.in_ok-distance.ensures)
    (ap (λ (d : List (Option ℕ)). get_or d 0 None) (sym c.as_slice.ensures) ∙ no-more (get_or c.as_slice.result.now 0 None) c.in_default.not-Some)

pub overflow_cast-result : goal.overflow_cast-result
overflow_cast-result c =
    let flow : Flow = get_or c.args.problem.now.flows c.args.number no_flow in
    let stands = get-some c.args.problem.now.flows c.args.number no_flow c.requires.in_range in
    let h = has-least c.args.problem.now c.args.point.now c.args.number flow c.in_ok-edges.field-0 c.in_ok-distance.field-0 c.requires.is
    (whole c.args.problem.now c.args.variables.now c.args.point.now c.args.number flow c.in_ok-edges.field-0 c.requires.are (c.in_ok-edges.ensures flow stands))
    (at-end c.in_ok-edges.field-0.edges c.in_ok-distance.field-0 c.end_of-end.result flow (c.end_of-end.ensures.end flow stands) c.in_ok-distance.ensures) c.in-Some.cost (ap (λ (d : List (Option ℕ)). get_or d 0 None) (sym c.as_slice.ensures) ∙ c.in-Some.is) in
    let small = h.small in
    omega (arith, small)

pub returns : goal.returns
returns c = λ (flow : Flow) stands.
    let h = has-least c.args.problem.now c.args.point.now c.args.number flow c.in_ok-edges.field-0 c.in_ok-distance.field-0 c.requires.is
    (whole c.args.problem.now c.args.variables.now c.args.point.now c.args.number flow c.in_ok-edges.field-0 c.requires.are (c.in_ok-edges.ensures flow stands))
    (at-end c.in_ok-edges.field-0.edges c.in_ok-distance.field-0 c.end_of-end.result flow (c.end_of-end.ensures.end flow stands) c.in_ok-distance.ensures) c.in-Some.cost (ap (λ (d : List (Option ℕ)). get_or d 0 None) (sym c.as_slice.ensures) ∙ c.in-Some.is) in
    subst (λ (ks : List ℕ). IsLeastPath c.args.problem.now c.args.point.now c.args.number flow (record { path = ks; cost = c.in-Some.cost })) (sym (c.in_ok-path.ensures h.ks (way-same _ c.args.variables.now _ c.as_slice-2.result.now _ c.as_slice-3.result.now h.ks c.requires.are c.as_slice-2.ensures c.as_slice-3.ensures h.way))) h.least
