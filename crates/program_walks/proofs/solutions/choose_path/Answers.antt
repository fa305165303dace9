use Rattle.std.proofs.Common.{◌<◌, [], length, sym, ◌∙◌, ap, subst}
use Rattle.std.specs.List.{AllByRecursion}
use Rattle.cutoff_program.specs.declared.flow.Flow.{Flow}
use Rattle.program_walks.specs.Marks.{with_more}
use Rattle.program_walks.proofs.Turning.{get-some}
use Rattle.program_walks.proofs.Taking.{found-below, takes-some, takes-none}
use Rattle.program_walks.proofs.solutions.choose_path.Goals as goal

abbrev no_flow : Flow
no_flow = record { rate = 0; vertices = 0; edges = [] }

pub choose-requires : goal.choose-requires
choose-requires c =
    let stands = get-some c.args.problem.now.flows c.args.number no_flow c.requires.in_range in
    subst (AllByRecursion (λ k. k < length c.args.point.now)) (sym c.as_slice.ensures)
    (found-below c.args.problem.now c.args.taken.now c.args.number _ c.in_ok-found.field-0 c.in-Some.found (length c.args.point.now) (c.in_ok-found.ensures _ stands) c.in-Some.is (c.requires.room ∙ ap length c.requires.are))

pub returns-in-Some : goal.returns-in-Some
returns-in-Some c = takes-some c.args.problem.now c.args.taken.now c.args.point.now c.choose.new.point c.args.number c.in_ok-found.field-0 c.in-Some.found c.in_ok-found.ensures c.in-Some.is (c.choose.ensures ∙ ap (with_more c.args.point.now) c.as_slice.ensures)

pub returns-in-None : goal.returns-in-None
returns-in-None c = takes-none c.args.problem.now c.args.taken.now c.args.point.now c.args.number c.in_ok-found.field-0 c.in_ok-found.ensures c.in-None.is
