use Rattle.std.proofs.Common.{◌≡◌, ◌++◌, OnOk, ℕ, List, ◌∙◌, ap, subst}
use Rattle.merlin_model.specs.declared.policy.Field.TheVariants.{Sport}
use Rattle.packet_model.specs.Fields.{packet_with}
use Rattle.predicate_split.specs.declared.pair_cells.Cell.{Cell}
use Rattle.predicate_split.proofs.Stretching.{row-same}
use Rattle.predicate_split.proofs.grids.+add_cells.Goals as goal

pub add_near_cells-returns : goal.add_near_cells-returns
add_near_cells-returns t c =
    let fixed = c.with-fixed.ensures.with ∙ ap (λ (n : ℕ). packet_with c.args.packet Sport n) c.from.ensures in
    let row = row-same c.stretch_of-stretch.result c.in_ok-near.near c.as_slice.result.now c.args.entries.now c.args.packet c.with-fixed.result c.args.sport c.args.dports.now
    fixed c.as_slice.ensures c.in_ok-near.ensures c.stretch_of-stretch.ensures.each in
    subst (λ (l : List Cell). OnOk c.add_cells.result (c.add_cells.new.cells.items ≡ c.args.cells.now.items ++ l)) row c.add_cells.ensures
