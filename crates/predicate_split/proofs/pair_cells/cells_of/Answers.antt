use Rattle.std.proofs.Common.{rules, ap, sym, ◌∙◌, ◌≡◌, ◌≤◌, length, List, ℕ, subst, arith}
use Rattle.std.proofs.lemmas.Grind.{common_steps}
use Rattle.predicate_split.specs.declared.pair_cells.Cell.{Cell}
use Rattle.predicate_split.specs.declared.fault.TheConstants.{MAX_CELLS}
use Rattle.predicate_split.specs.Grids.{other_cells, cells_left}
use Rattle.predicate_split.proofs.CellCounts.{AreBeside, refused-beside, few-beside}
use Rattle.predicate_split.proofs.pair_cells.cells_of.Goals as goal

pub returns-in_err-ranks-clause-err : goal.returns-in_err-ranks-clause-err
returns-in_err-ranks-clause-err c =
    let at : AreBeside c.args.left.now c.deref-2.result.now c.room_beside.result c.other_proto-other.result = record {
      is_named = c.deref-2.ensures.value ∙ c.in_ok-named.ensures.is;
      is_other = c.other_proto-other.ensures ∙ ap (λ (ns : List ℕ). other_cells c.args.left.now ns) (c.deref.ensures.value ∙ sym c.deref-2.ensures.value);
      is_room = c.room_beside.ensures;
    } in
    let f = refused-beside _ _ _ _ at c.in_err-ranks.field-0.0 c.in_err-ranks.ensures.err in search rules

pub returns-clause-few : goal.returns-clause-few
returns-clause-few c =
    let at : AreBeside c.args.left.now c.deref-2.result.now c.room_beside.result c.other_proto-other.result = record {
      is_named = c.deref-2.ensures.value ∙ c.in_ok-named.ensures.is;
      is_other = c.other_proto-other.ensures ∙ ap (λ (ns : List ℕ). other_cells c.args.left.now ns) (c.deref.ensures.value ∙ sym c.deref-2.ensures.value);
      is_room = c.room_beside.ensures;
    } in
    let all : c.in_ok-cells.cells.items ≡ cells_left c.args.left.now = grind (arith, common_steps) in
    subst (λ (l : List Cell). length l ≤ MAX_CELLS) (sym all) (few-beside _ _ _ _ at c.in_ok-ranks.ensures.within)
