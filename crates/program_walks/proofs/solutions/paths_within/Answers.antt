use Rattle.std.proofs.Common.{◌<◌, ℕ, List, [], take, length, length-take, sym, ◌∙◌, ap, subst, arith}
use Rattle.cutoff_program.specs.declared.flow.Flow.{Flow}
use Rattle.graph_search.proofs.Places.{take-next}
use Rattle.program_walks.specs.Solutions.{TakesPaths}
use Rattle.program_walks.proofs.Turning.{get-some}
use Rattle.program_walks.proofs.Taking.{path-more, paths-length}
use Rattle.program_walks.proofs.solutions.paths_within.Goals as goal

abbrev no_flow : Flow
no_flow = record { rate = 0; vertices = 0; edges = [] }

pub choose_path-requires-clause-room : goal.choose_path-requires-clause-room
choose_path-requires-clause-room c = paths-length c.args.problem.now c.args.taken.now _ c.loop-number.point c.loop-number.invariant ∙ ap length (sym c.requires.are)

pub loop-number-preserved : goal.loop-number-preserved
loop-number-preserved c =
    let flows : List Flow = c.args.problem.now.flows in
    let n : ℕ = c.loop-number.number in
    let under = c.loop-number-test.true in
    let size = c.len-number-end.ensures in
    let below : n < length flows = omega (arith, under, size) in
    let stands = get-some flows n no_flow below in
    subst (λ fs. TakesPaths c.args.problem.now c.args.taken.now fs c.choose_path.new.point) (sym (take-next flows n _ stands))
    (path-more c.args.problem.now c.args.taken.now c.loop-number.point c.choose_path.new.point (take n flows) _ n c.loop-number.invariant (let l = length-take n flows in omega (arith, l, below)) stands c.in_ok-choose_path.ensures)
