use Rattle.std.proofs.Common.{ℕ, List, Vec, ◌+◌, ◌∙◌, sym, take, subst}
use Rattle.std.specs.declared.alloc.Global.{Global}
use Rattle.topology_shape.specs.Format.{location_names}
use Rattle.topology_shape.specs.Numbering.{IsNumbering}
use Rattle.topology_shape.proofs.NameTables.{numbered_more}
use Rattle.topology_shape.proofs.named.numbers_of.Goals as goal

pub loop-number-preserved : goal.loop-number-preserved
loop-number-preserved c =
    let ls = c.args.locations.now in
    let i = c.loop-number.number in
    subst (λ (es : List (Vec ℕ Global × ℕ)). IsNumbering es (location_names (take (i + 1) ls))) (sym c.in_ok-insert.ensures.entries)
    (numbered_more (λ l. l.name) ls i c.index-locations-number.result c.loop-number.numbers.entries c.in_ok-name.name c.loop-number-test.true c.index-locations-number.is (c.in_ok-name.ensures.items ∙ c.bytes.ensures) c.loop-number.invariant)
