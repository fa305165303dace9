use Rattle.std.proofs.Common.{◌≤◌, List, ◌∙◌, sym, subst}
use Rattle.std.specs.List.{AllByRecursion}
use Rattle.merlin_model.specs.declared.policy.Pred.{Pred}
use Rattle.merlin_model.specs.Predicates.{IsPred}
use Rattle.predicate_split.specs.declared.fault.TheConstants.{MAX_CELLS}
use Rattle.topology.specs.Symbols.{network_symbols}
use Rattle.negotiator.specs.CellCounts.{cell_count}
use Rattle.negotiator.specs.Refusals.{PassesRoom}
use Rattle.negotiator.proofs.Finding.{well-both, on-ok}
use Rattle.negotiator.proofs.Refined.{if-err, few-refused}
use Rattle.negotiator.proofs.refining.ask_few.Goals as goal

pub ask_cells-requires : goal.ask_cells-requires
ask_cells-requires c = record {
  preds = subst (AllByRecursion IsPred) (sym (c.as_slice.ensures ∙ c.in_ok-preds.ensures))
      (well-both c.args.parent.now.policy c.args.child.now.policy c.statements-2.ensures.sound.preds c.statements.ensures.sound.preds);
}

pub returns-clause-ok : goal.returns-clause-ok
returns-clause-ok c = on-ok c.ask_cells.result _ _ (λ few. subst (λ (ps : List Pred). cell_count c.args.net.now ps ≤ MAX_CELLS) (c.as_slice.ensures ∙ c.in_ok-preds.ensures) few) c.ask_cells.ensures.ok

pub returns-clause-err : goal.returns-clause-err
returns-clause-err c =
    if-err c.ask_cells.result _ _ (λ fault h. few-refused c.args.net.now c.args.parent.now.policy c.args.child.now.policy (network_symbols c.args.net.now) fault
    (subst (λ (ps : List Pred). PassesRoom (cell_count c.args.net.now ps) MAX_CELLS fault) (c.as_slice.ensures ∙ c.in_ok-preds.ensures) h)) c.ask_cells.ensures.err
