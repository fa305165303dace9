use Rattle.std.proofs.Common.{◌≡◌, ◌++◌, OnOk, List, ◌∙◌, ap, subst}
use Rattle.predicate_split.specs.declared.pair_cells.Cell.{Cell}
use Rattle.predicate_split.specs.declared.pairs.PlacedPred.{PlacedPred}
use Rattle.predicate_split.specs.Grids.{rows_of}
use Rattle.predicate_split.proofs.Stretching.{rows-near}
use Rattle.predicate_split.proofs.grids.+add_all_rows.Goals as goal

pub add_near_rows-returns : goal.add_near_rows-returns
add_near_rows-returns t c =
    let rows = ap (λ (es : List PlacedPred). rows_of es c.args.packet c.args.sports.now c.args.dports.now) c.as_slice.ensures
    ∙ rows-near c.stretch_of-stretch.result c.in_ok-near.near c.args.entries.now c.args.packet c.args.sports.now c.args.dports.now c.stretch_of-stretch.ensures.field c.in_ok-near.ensures c.stretch_of-stretch.ensures.each in
    subst (λ (l : List Cell). OnOk c.add_all_rows.result (c.add_all_rows.new.cells.items ≡ c.args.cells.now.items ++ l)) rows c.add_all_rows.ensures
