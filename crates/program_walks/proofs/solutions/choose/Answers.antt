use Rattle.std.proofs.Common.{◌∷◌, [], ℕ, true, List, Bool, take, length, length-set, get_or, slice_set, sym, ◌∙◌, ap}
use Rattle.graph_search.proofs.Places.{take-next}
use Rattle.program_walks.specs.Marks.{with_more}
use Rattle.program_walks.proofs.Turning.{get-some}
use Rattle.program_walks.proofs.Marked.{more-append}
use Rattle.program_walks.proofs.solutions.choose.Goals as goal

pub loop-number-preserved : goal.loop-number-preserved
loop-number-preserved c =
    let path : List ℕ = c.args.path.now in
    let i : ℕ = c.loop-number.number-index in
    let next = take-next path i (get_or path i 0) (get-some path i 0 c.loop-number-test.true) in (
      c.set.ensures ∙ ap (λ (p : List Bool). slice_set p (get_or path i 0) true) c.loop-number.invariant.0 ∙ sym (more-append c.args.point.now (take i path) (get_or path i 0 ∷ [])) ∙ ap (with_more c.args.point.now) (sym next),
      ap length c.set.ensures ∙ length-set c.loop-number.point (get_or path i 0) true ∙ c.loop-number.invariant.1,
    )
