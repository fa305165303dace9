use Rattle.std.proofs.Common.{◌≡◌, ◌++◌, OnOk, ap, ◌∙◌, subst, ℕ, List}
use Rattle.merlin_model.specs.declared.policy.Field.TheVariants.{Sport}
use Rattle.merlin_model.specs.Packets.{Packet}
use Rattle.packet_model.specs.Fields.{packet_with}
use Rattle.predicate_split.specs.declared.pair_cells.Cell.{Cell}
use Rattle.predicate_split.proofs.Lefts.{row-left}
use Rattle.predicate_split.proofs.grids.add_row.Goals as goal

pub returns : goal.returns
returns c =
    let row = row-left c.args.entries.now c.as_slice.result.now c.args.packet c.args.sport c.args.dports.now c.value.result
    (c.value.ensures.value ∙ ap (λ (q : Packet). q.sport) (c.with-fixed.ensures.with ∙ ap (λ (n : ℕ). packet_with c.args.packet Sport n) c.from.ensures))
    (c.as_slice.ensures ∙ c.in_ok-left.ensures) in
    subst (λ (l : List Cell). OnOk c.add_cells.result (c.add_cells.new.cells.items ≡ c.args.cells.now.items ++ l)) row c.add_cells.ensures
