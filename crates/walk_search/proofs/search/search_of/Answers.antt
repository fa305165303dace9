use Rattle.std.proofs.Common.{subst, sym, ◌∙◌, ◌≡◌, IfOk}
use Rattle.merlin_program.specs.declared.program.MerlinProgram.{MerlinProgram}
use Rattle.walk_search.specs.Found.{IsFoundOf}
use Rattle.walk_search.specs.Searched.{IsOutcomeOf}
use Rattle.walk_search.proofs.Assigned.{some-taken}
use Rattle.walk_search.proofs.Answered.{outcome-for}
use Rattle.walk_search.proofs.search.search_of.Goals as goal

pub new-search-requires-clause-taken : goal.new-search-requires-clause-taken
new-search-requires-clause-taken c = some-taken c.args.program.problem.objective

pub found_of-requires : goal.found_of-requires
found_of-requires c = (
  c.args.budget,
  subst (λ (p : MerlinProgram). IsOutcomeOf p.problem c.args.budget c.in_ok-outcome.outcome) (sym (c.program.ensures ∙ c.run.ensures.program ∙ c.new-search.ensures.program))
      (outcome-for c.new-search.result.program c.args.program _ c.args.budget c.in_ok-outcome.outcome c.new-search.ensures.program c.args.program.is c.in_ok-outcome.ensures.outcome),
)

pub returns : goal.returns
returns c =
    let same : c.program.result.now ≡ c.args.program = c.program.ensures ∙ c.run.ensures.program ∙ c.new-search.ensures.program in
    subst (λ (p : MerlinProgram). IfOk c.found_of.result (IsFoundOf p.problem p.symbols c.args.budget)) same
    (c.found_of.ensures c.args.budget
    (subst (λ (p : MerlinProgram). IsOutcomeOf p.problem c.args.budget c.in_ok-outcome.outcome) (sym same)
    (outcome-for c.new-search.result.program c.args.program _ c.args.budget c.in_ok-outcome.outcome c.new-search.ensures.program c.args.program.is c.in_ok-outcome.ensures.outcome)))
