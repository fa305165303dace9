use Rattle.std.proofs.Common.{◌∙◌, ◌-◌, ◌++◌, List, Option, ℕ, map, length, sym, ap, subst, arith}
use Rattle.std.specs.Option.{option_copied}
use Rattle.graph_search.specs.Graphs.{known_at, GoesBack}
use Rattle.graph_search.proofs.Places.{below-get}
use Rattle.price_candidates.specs.Leaves.{flow_weights}
use Rattle.price_candidates.specs.Tried.{capped, missing, only}
use Rattle.price_bound.specs.declared.measure.Measure.TheVariants.{Cost}
use Rattle.price_bound.specs.Steps.{edges_in}
use Rattle.price_bound.proofs.Costing.{end-is, reached-end, steps-within, costs-more, cut-is}
use Rattle.price_bound.proofs.costs.add_flow.Goals as goal

pub overflow_sub-end : goal.overflow_sub-end
overflow_sub-end c =
    let here = below-get c.args.program.now.problem.flows c.args.flow c.requires.in_range in
    let size = (c.in_ok-spread.ensures here.0 here.1).graph.size in
    omega arith

pub bounds : goal.bounds
bounds c =
    let here = below-get c.args.program.now.problem.flows c.args.flow c.requires.in_range in
    let is = c.in_ok-spread.ensures here.0 here.1 in
    let size = is.graph.size in
    let long = is.least.distances in
    let same = ap length c.as_slice-distances.ensures in
    omega arith

pub offset_bounds-distances-end : goal.offset_bounds-distances-end
offset_bounds-distances-end c = let b = bounds c in let t = c.as_slice-distances.type_inv.1 in omega arith

pub returns-in-None : goal.returns-in-None
returns-in-None c =
    let problem = c.args.program.now.problem in
    let cutoff = option_copied c.args.cutoff in
    let box = c.args.fixed.now in
    let n = c.args.flow in
    let spread = c.in_ok-spread.spread in
    let here = below-get problem.flows n c.requires.in_range in
    let is = c.in_ok-spread.ensures here.0 here.1 in
    let end = end-is problem cutoff box n Cost here.0 spread c.args.program.now.is is in
    let none = ap (known_at spread.least.distance) (sym end) ∙ ap (λ (l : List (Option ℕ)). known_at l (spread.graph.vertices - 1)) (sym c.as_slice-distances.ensures) ∙ c.in-None.is in
    cut-is problem cutoff box n here.0 spread c.args.program.now.is is here.1 none c.in_ok-numbers-in-None.numbers
    (c.in_ok-numbers-in-None.ensures ∙ ap (λ (l : List (Option ℕ)). flow_weights (only n (λ vertex. missing (known_at l vertex))) 0 problem.flows) c.as_slice-distances.ensures)

pub overflow_cast-most : goal.overflow_cast-most
overflow_cast-most c =
    let problem = c.args.program.now.problem in
    let cutoff = option_copied c.args.cutoff in
    let box = c.args.fixed.now in
    let n = c.args.flow in
    let spread = c.in_ok-spread.spread in
    let here = below-get problem.flows n c.requires.in_range in
    let is = c.in_ok-spread.ensures here.0 here.1 in
    let end = end-is problem cutoff box n Cost here.0 spread c.args.program.now.is is in
    let some = ap (known_at spread.least.distance) (sym end) ∙ ap (λ (l : List (Option ℕ)). known_at l (spread.graph.vertices - 1)) (sym c.as_slice-distances.ensures) ∙ c.in-Some.is in
    let low = (reached-end problem cutoff box n Cost here.0 spread c.args.program.now.is is c.in-Some.most some).low in
    omega arith

pub mark_back-requires-clause-start : goal.mark_back-requires-clause-start
mark_back-requires-clause-start c =
    let here = below-get c.args.program.now.problem.flows c.args.flow c.requires.in_range in
    let is = c.in_ok-spread.ensures here.0 here.1 in
    let size = is.graph.size in
    let long = is.least.befores in
    omega arith

pub mark_back-requires-clause-within : goal.mark_back-requires-clause-within
mark_back-requires-clause-within c =
    let problem = c.args.program.now.problem in
    let here = below-get problem.flows c.args.flow c.requires.in_range in
    steps-within problem (option_copied c.args.cutoff) c.args.fixed.now c.args.flow Cost here.0 c.in_ok-spread.spread c.args.program.now.is (c.in_ok-spread.ensures here.0 here.1) c.args.costs.now.point c.requires.costs.of.size

pub mark_back-requires-clause-back : goal.mark_back-requires-clause-back
mark_back-requires-clause-back c =
    let problem = c.args.program.now.problem in
    let cutoff = option_copied c.args.cutoff in
    let box = c.args.fixed.now in
    let n = c.args.flow in
    let spread = c.in_ok-spread.spread in
    let here = below-get problem.flows n c.requires.in_range in
    let is = c.in_ok-spread.ensures here.0 here.1 in
    let end = end-is problem cutoff box n Cost here.0 spread c.args.program.now.is is in
    let some = ap (known_at spread.least.distance) (sym end) ∙ ap (λ (l : List (Option ℕ)). known_at l (spread.graph.vertices - 1)) (sym c.as_slice-distances.ensures) ∙ c.in-Some.is in
    let r = reached-end problem cutoff box n Cost here.0 spread c.args.program.now.is is c.in-Some.most some in
    let size = c.requires.costs.of.size in
    (r.ks, subst (GoesBack (edges_in spread.graph.steps) spread.least.before 0 r.ks) (sym end) r.goes, (let s = r.short in omega arith))

pub returns : goal.returns
returns c =
    let problem = c.args.program.now.problem in
    let cutoff = option_copied c.args.cutoff in
    let box = c.args.fixed.now in
    let n = c.args.flow in
    let spread = c.in_ok-spread.spread in
    let here = below-get problem.flows n c.requires.in_range in
    let is = c.in_ok-spread.ensures here.0 here.1 in
    let end = end-is problem cutoff box n Cost here.0 spread c.args.program.now.is is in
    let most = c.in-Some.most in
    let some = ap (known_at spread.least.distance) (sym end) ∙ ap (λ (l : List (Option ℕ)). known_at l (spread.graph.vertices - 1)) (sym c.as_slice-distances.ensures) ∙ c.in-Some.is in
    let r = reached-end problem cutoff box n Cost here.0 spread c.args.program.now.is is most some in
    costs-more problem cutoff box n here.0 spread c.args.program.now.is is here.1 most some r c.args.costs.now _ _ c.requires.costs (c.in_ok-push_capped-in-Some.ensures ∙ ap (λ (l : List (Option ℕ)). c.args.costs.now.numbers ++ map (capped most) l) c.as_slice-distances.ensures) (c.mark_back.ensures r.ks (subst (GoesBack (edges_in spread.graph.steps) spread.least.before 0 r.ks) (sym end) r.goes))
