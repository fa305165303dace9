use Rattle.std.proofs.Common.{◌≡◌, ◌∙◌, ◌-◌, ◌++◌, List, Option, ℕ, map, length, replicate, sym, ap, subst, arith}
use Rattle.std.specs.Option.{option_copied}
use Rattle.std.specs.Result.{OnOk}
use Rattle.graph_search.specs.Graphs.{known_at}
use Rattle.graph_search.proofs.Places.{below-get}
use Rattle.price_candidates.specs.Tried.{capped}
use Rattle.price_bound.specs.declared.measure.Measure.TheVariants.{Rate}
use Rattle.price_bound.proofs.Costing.{end-is, reached-end}
use Rattle.price_bound.proofs.Flooring.{is-reached, floor-added}
use Rattle.price_bound.proofs.floors.add_floor.Goals as goal

pub overflow_sub-spread : goal.overflow_sub-spread
overflow_sub-spread c =
    let here = below-get c.args.program.now.problem.flows c.args.flow c.requires.in_range in
    let size = (c.in_ok-spread.ensures here.0 here.1).graph.size in
    omega arith

pub bounds : goal.bounds
bounds c =
    let here = below-get c.args.program.now.problem.flows c.args.flow c.requires.in_range in
    let is = c.in_ok-spread.ensures here.0 here.1 in
    let size = is.graph.size in
    let long = is.least.distances in
    let same = ap length c.as_slice-distances.ensures in
    omega arith

pub offset_bounds-distances-spread : goal.offset_bounds-distances-spread
offset_bounds-distances-spread c = let b = bounds c in let t = c.as_slice-distances.type_inv.1 in omega arith

pub returns-in-None : goal.returns-in-None
returns-in-None c =
    let problem = c.args.program.now.problem in
    let cutoff = option_copied c.args.cutoff in
    let box = c.args.fixed.now in
    let n = c.args.flow in
    let spread = c.in_ok-spread.spread in
    let here = below-get problem.flows n c.requires.in_range in
    let is = c.in_ok-spread.ensures here.0 here.1 in
    let end = end-is problem cutoff box n (Rate c.args.link) here.0 spread c.args.program.now.is is in
    let found = ap (known_at spread.least.distance) (sym end) ∙ ap (λ (l : List (Option ℕ)). known_at l (spread.graph.vertices - 1)) (sym c.as_slice-distances.ensures) ∙ c.in-None.is in
    absurd (is-reached problem cutoff box c.args.link n here.0 spread c.args.program.now.is is here.1 c.requires.reached found)

pub overflow_cast-most : goal.overflow_cast-most
overflow_cast-most c =
    let problem = c.args.program.now.problem in
    let cutoff = option_copied c.args.cutoff in
    let box = c.args.fixed.now in
    let n = c.args.flow in
    let spread = c.in_ok-spread.spread in
    let here = below-get problem.flows n c.requires.in_range in
    let is = c.in_ok-spread.ensures here.0 here.1 in
    let end = end-is problem cutoff box n (Rate c.args.link) here.0 spread c.args.program.now.is is in
    let found = ap (known_at spread.least.distance) (sym end) ∙ ap (λ (l : List (Option ℕ)). known_at l (spread.graph.vertices - 1)) (sym c.as_slice-distances.ensures) ∙ c.in-Some.is in
    let low = (reached-end problem cutoff box n (Rate c.args.link) here.0 spread c.args.program.now.is is c.in-Some.most found).low in
    omega arith

pub returns : goal.returns
returns c =
    let problem = c.args.program.now.problem in
    let cutoff = option_copied c.args.cutoff in
    let box = c.args.fixed.now in
    let n = c.args.flow in
    let spread = c.in_ok-spread.spread in
    let here = below-get problem.flows n c.requires.in_range in
    let is = c.in_ok-spread.ensures here.0 here.1 in
    let end = end-is problem cutoff box n (Rate c.args.link) here.0 spread c.args.program.now.is is in
    let found = ap (known_at spread.least.distance) (sym end) ∙ ap (λ (l : List (Option ℕ)). known_at l (spread.graph.vertices - 1)) (sym c.as_slice-distances.ensures) ∙ c.in-Some.is in
    let list = c.as_slice-distances.ensures in
    floor-added problem cutoff box c.args.link n here.0 spread c.args.program.now.is is here.1 c.in-Some.most c.fixed_on.result found (c.fixed_on.ensures cutoff) c.args.numbers.now c.requires.floors c.push_floor.result c.push_floor.new.numbers
    (λ h. subst (λ (l : List (Option ℕ)). OnOk c.push_floor.result (c.push_floor.new.numbers ≡ c.args.numbers.now ++ map (capped c.in-Some.most) l)) list (c.push_floor.ensures.path h))
    (λ h. subst (λ (l : List (Option ℕ)). OnOk c.push_floor.result (c.push_floor.new.numbers ≡ c.args.numbers.now ++ (let zero_of : ℕ = 0 in replicate (length l) zero_of))) list (c.push_floor.ensures.fixed h))
