use Rattle.std.proofs.Common.{List, Bool, length, IfOk, Ok, Err, Result, sym, ◌∙◌, ap, subst}
use Rattle.merlin_model.specs.declared.name.OutOfMemory.{OutOfMemory}
use Rattle.program_walks.specs.Marks.{TakeTrails}
use Rattle.program_walks.specs.Solutions.{TakesPaths, IsPointOfWalks}
use Rattle.program_walks.proofs.Marked.{taken-length}
use Rattle.program_walks.proofs.Together.{point-for}
use Rattle.program_walks.proofs.solutions.point_of_walks.Goals as goal

pub paths_within-requires-clause-size : goal.paths_within-requires-clause-size
paths_within-requires-clause-size c = ap length c.as_slice.ensures ∙ taken-length c.args.variables.now c.args.symbols.now c.args.walks.now c.in_ok-taken.taken c.in_ok-taken.ensures

if-ok : (P Q : List Bool → Type 0) → ((x : List Bool) → P x → Q x) → (r : Result (List Bool) OutOfMemory) → IfOk r P → IfOk r Q
if-ok P Q h (Ok x) p = h x p
if-ok P Q h (Err e) p = tt

pub returns : goal.returns
returns c =
    let take = subst (λ vs. TakeTrails vs c.args.symbols.now c.args.walks.now c.as_slice.result.now) c.requires.are
    (subst (TakeTrails c.args.variables.now c.args.symbols.now c.args.walks.now) (sym c.as_slice.ensures) c.in_ok-taken.ensures) in
    if-ok (TakesPaths c.args.problem.now c.as_slice.result.now c.args.problem.now.flows) (IsPointOfWalks c.args.problem.now c.args.symbols.now c.args.walks.now)
    (λ point paths. point-for c.args.problem.now c.args.symbols.now c.args.walks.now c.as_slice.result.now point c.requires.is take paths) c.paths_within.result c.paths_within.ensures
