use Rattle.std.proofs.Common.{◌∙◌, ◌≤◌, ◌^◌, ap, sym, subst, length}
use Rattle.std.specs.List.{AllByRecursion}
use Rattle.std.specs.Option.{option_copied}
use Rattle.merlin_model.specs.Trees.{RefutesBox}
use Rattle.cutoff_program.specs.declared.flow.Problem.{Problem}
use Rattle.cutoff_program.specs.Flows.{program_at}
use Rattle.price_candidates.specs.Tried.{only}
use Rattle.price_bound.proofs.Flat.{all-small}
use Rattle.price_bound.proofs.Steps.{all-index}
use Rattle.price_bound.proofs.Looking.{cut-small}
use Rattle.price_bound.proofs.prices.closed_by_cut.Goals as goal

pub leaf-requires-clause-low : goal.leaf-requires-clause-low
leaf-requires-clause-low c k d h =
    let problem = c.args.program.now.problem in
    let cut = c.requires.cut in
    let flat = c.as_slice.ensures ∙ cut.flat in
    all-index (λ m. m ≤ 2 ^ 60) c.as_slice.result.now k d
    (subst (AllByRecursion (λ m. m ≤ 2 ^ 60)) (sym flat) (all-small (only cut.n cut.at) 0 problem.flows (cut-small problem (option_copied c.args.cutoff) c.args.fixed.now cut.n cut.flow cut.at cut.unreached))) h

pub returns : goal.returns
returns c =
    let problem = c.args.program.now.problem in
    let cutoff = option_copied c.args.cutoff in
    let box = c.args.fixed.now in
    let cut = c.requires.cut in
    let links = c.len-links.ensures ∙ ap (λ (p : Problem). length p.links) c.problem.ensures in
    subst (RefutesBox (program_at problem cutoff) box) (sym (c.in_ok-weights.ensures problem (only cut.n cut.at) (c.as_slice.ensures ∙ cut.flat) links))
    (c.unreached_flows_refute.ensures problem cutoff box cut.n cut.flow cut.at c.args.program.now.is c.requires.asked.in_box cut.stands cut.unreached)
