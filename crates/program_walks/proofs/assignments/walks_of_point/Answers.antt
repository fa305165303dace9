use Rattle.std.proofs.Common.{◌<◌, ◌+◌, ◌∷◌, ◌++◌, ℕ, List, [], take, length, length-take, get_or, sym, ◌∙◌, subst, arith}
use Rattle.std.proofs.lemmas.List.{take_all}
use Rattle.merlin_model.specs.declared.policy.Symbol.{Symbol}
use Rattle.cutoff_program.specs.declared.flow.Flow.{Flow}
use Rattle.graph_search.proofs.Places.{take-next}
use Rattle.program_walks.specs.Solutions.{IsWordAt, AreWordsIf}
use Rattle.program_walks.proofs.Turning.{get-some, defaults}
use Rattle.program_walks.proofs.Spelling.{words-more, walks-for}
use Rattle.program_walks.proofs.assignments.walks_of_point.Goals as goal

abbrev no_flow : Flow
no_flow = record { rate = 0; vertices = 0; edges = [] }

pub loop-number-preserved : goal.loop-number-preserved
loop-number-preserved c =
    let flows : List Flow = c.args.problem.now.flows in
    let symbols : List (List Symbol) = c.args.symbols.now in
    let n : ℕ = c.loop-number.number in
    let under = c.loop-number-test.true in
    let size = c.len-number-end.ensures in
    let count = c.requires.symbols in
    let below : n < length flows = omega (arith, under, size) in
    let inside : n < length symbols = omega (arith, below, count) in
    let stands = get-some flows n no_flow below in
    subst (λ fs. AreWordsIf c.args.problem.now c.args.point.now 0 fs (take (n + 1) symbols) c.push.new.self) (sym (take-next flows n _ stands))
    (subst (λ ss. AreWordsIf c.args.problem.now c.args.point.now 0 (take n flows ++ get_or flows n no_flow ∷ []) ss c.push.new.self) (sym (take-next symbols n (get_or symbols n []) (get-some symbols n [] inside)))
    (words-more c.args.problem.now c.args.point.now (take n flows) (take n symbols) c.loop-number.walks c.push.new.self c.in_ok-walk_within.field-0 n (get_or flows n no_flow) (get_or symbols n []) c.loop-number.invariant (let l = length-take n flows in omega (arith, l, below)) stands
    (subst (λ first. IsWordAt c.args.problem.now c.args.point.now n first c.in_ok-walk_within.field-0) (c.as_slice-names.ensures ∙ c.index-symbols-number.is ∙ defaults symbols n c.index-symbols-number.result [] inside) c.in_ok-walk_within.ensures) c.in_ok-push.ensures.ok))

pub returns : goal.returns
returns c =
    let flows : List Flow = c.args.problem.now.flows in
    let symbols : List (List Symbol) = c.args.symbols.now in
    let n : ℕ = c.loop-number.number in
    let end = c.loop-number-test.false in
    let size = c.len-number-end.ensures in
    let count = c.requires.symbols in
    let are = subst (λ fs. AreWordsIf c.args.problem.now c.args.point.now 0 fs symbols c.loop-number.walks) (take_all n flows (omega (arith, end, size)))
    (subst (λ ss. AreWordsIf c.args.problem.now c.args.point.now 0 (take n flows) ss c.loop-number.walks) (take_all n symbols (omega (arith, end, size, count))) c.loop-number.invariant) in
    walks-for c.args.problem.now symbols c.loop-number.walks c.args.point.now c.requires.is are
