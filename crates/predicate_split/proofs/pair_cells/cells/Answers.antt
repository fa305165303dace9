use Rattle.std.proofs.Common.{sym, ap, ◌∙◌, ◌≡◌, subst, List, length, ◌<◌, ◌^◌}
use Rattle.std.proofs.lemmas.Result.{IfOk-weaker, IfErr-weaker}
use Rattle.std.specs.List.{AllByRecursion}
use Rattle.merlin_model.specs.declared.policy.Field.TheVariants.{Proto}
use Rattle.predicate_split.specs.declared.pairs.PlacedPred.{PlacedPred}
use Rattle.predicate_split.specs.Left.{named_by}
use Rattle.predicate_split.specs.Cells.{cells_between}
use Rattle.predicate_split.specs.Grids.{NamesPorts, cells_left}
use Rattle.predicate_split.proofs.CellLists.{protos-below, ports-below, cells-made}
use Rattle.predicate_split.proofs.CellCounts.{refused-pair}
use Rattle.predicate_split.proofs.pair_cells.cells.Goals as goal

pub cells_of-requires-clause-protos : goal.cells_of-requires-clause-protos
cells_of-requires-clause-protos c =
    subst (λ (es : List PlacedPred). AllByRecursion (λ n. n < 2 ^ 8) (named_by Proto es)) (sym (c.as_slice.ensures ∙ c.in_ok-left.ensures)) (protos-below c.args.src c.args.dst c.args.preds.now c.requires)

pub cells_of-requires-clause-ports : goal.cells_of-requires-clause-ports
cells_of-requires-clause-ports c = subst NamesPorts (sym (c.as_slice.ensures ∙ c.in_ok-left.ensures)) (ports-below c.args.src c.args.dst c.args.preds.now c.requires)

pub returns-clause-cells : goal.returns-clause-cells
returns-clause-cells c =
    let all : cells_left c.as_slice.result.now ≡ cells_between c.args.preds.now c.args.src c.args.dst = ap cells_left (c.as_slice.ensures ∙ c.in_ok-left.ensures) ∙ cells-made c.args.src c.args.dst c.args.preds.now c.requires in
    IfOk-weaker c.cells_of.result _ _ (λ cells e. e ∙ all) c.cells_of.ensures.cells

pub returns-clause-err : goal.returns-clause-err
returns-clause-err c =
    let all : cells_left c.as_slice.result.now ≡ cells_between c.args.preds.now c.args.src c.args.dst = ap cells_left (c.as_slice.ensures ∙ c.in_ok-left.ensures) ∙ cells-made c.args.src c.args.dst c.args.preds.now c.requires in
    IfErr-weaker c.cells_of.result _ _ (λ fault f. refused-pair c.args.preds.now c.args.src c.args.dst (length (cells_left c.as_slice.result.now)) (ap length all) fault f) c.cells_of.ensures.err
