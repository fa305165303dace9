use Rattle.std.proofs.Common.{◌∷◌, [], ◌++◌, ◌+◌, ℕ, List, take, drop, length-take, get_or, sym, ◌∙◌, subst, arith}
use Rattle.merlin_model.specs.declared.policy.Symbol.{Symbol}
use Rattle.graph_search.proofs.Places.{take-next}
use Rattle.program_walks.specs.Marks.{TakesTrail, TakeTrails}
use Rattle.program_walks.proofs.Turning.{get-some, defaults}
use Rattle.program_walks.proofs.Marked.{walk-more, taken-length}
use Rattle.program_walks.proofs.marking.taken_by.Goals as goal

pub mark_walk-requires : goal.mark_walk-requires
mark_walk-requires c = taken-length c.args.variables.now _ _ c.loop-flow.point c.loop-flow.invariant

pub loop-flow-preserved : goal.loop-flow-preserved
loop-flow-preserved c =
    let walks : List (List Symbol) = c.args.walks.now in
    let symbols : List (List Symbol) = c.args.symbols.now in
    let n : ℕ = c.loop-flow.flow in
    let size = c.requires in
    let below = c.loop-flow-test.true in
    let walk = take-next walks n (get_or walks n []) (get-some walks n [] below) in
    let first = take-next symbols n (get_or symbols n []) (get-some symbols n [] (omega (arith, size, below))) in
    subst (λ ws. TakeTrails c.args.variables.now (take (n + 1) symbols) ws c.mark_walk.new.point) (sym walk)
    (subst (λ ss. TakeTrails c.args.variables.now ss (take n walks ++ get_or walks n [] ∷ []) c.mark_walk.new.point) (sym first)
    (walk-more c.args.variables.now (take n symbols) (take n walks) (get_or symbols n []) (get_or walks n []) c.loop-flow.point c.mark_walk.new.point n c.loop-flow.invariant (let l = length-take n walks in omega (arith, l, below))
    (subst (λ ss. TakesTrail c.args.variables.now ss n (drop 1 (get_or walks n [])) c.loop-flow.point c.mark_walk.new.point) (c.as_slice.ensures ∙ c.index-symbols-flow.is ∙ defaults symbols n c.index-symbols-flow.result [] (omega (arith, size, below)))
    (subst (λ w. TakesTrail c.args.variables.now c.as_slice.result.now n (drop 1 w) c.loop-flow.point c.mark_walk.new.point) (c.as_slice-in-loop-flow.ensures ∙ c.index-walks-flow.is ∙ defaults walks n c.index-walks-flow.result [] below) c.mark_walk.ensures))))
