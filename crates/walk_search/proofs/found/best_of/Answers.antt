use Rattle.std.proofs.Common.{◌∙◌, Bool, List, Option, Some, ap, subst, sym}
use Rattle.cutoff_program.specs.Flows.{cutoff_of}
use Rattle.program_walks.specs.Solutions.{AreWalksOfPoint}
use Rattle.walk_search.specs.Searched.{AreWalksIf}
use Rattle.walk_search.proofs.found.best_of.Goals as goal

pub returns-in_ok-walks-in-Some : goal.returns-in_ok-walks-in-Some
returns-in_ok-walks-in-Some c =
    subst (λ (b : Option (List Bool)). AreWalksIf c.args.program.now.problem c.args.program.now.symbols b (Some (c.cutoff_of-value.result, c.in_ok-walks-in-Some.walks))) (sym c.in-Some.is) (
      c.cutoff_of-value.ensures ∙ ap (λ (p : List Bool). cutoff_of c.args.program.now.problem p) c.as_slice.ensures,
      subst (λ (p : List Bool). AreWalksOfPoint c.args.program.now.problem c.args.program.now.symbols p c.in_ok-walks-in-Some.walks) c.as_slice-in-Some.ensures c.in_ok-walks-in-Some.ensures,
    )
