use Rattle.std.proofs.Common.{◌≡◌, length, sym, ◌∙◌, ap, subst}
use Rattle.language_check.specs.declared.ways.Ways.{Ways}
use Rattle.language_check.specs.Ways.{AreRowsOf}
use Rattle.language_check.proofs.Between.{at-locations, host-within, host-listed, are-whole}
use Rattle.language_check.proofs.ways.ways_between.Goals as goal

pub rows-requires : goal.rows-requires
rows-requires c = at-locations c.args.net.now c.args.symbols.now c.requires.symbols

pub ends-requires : goal.ends-requires
ends-requires c = host-within c.args.net.now c.args.last c.requires.last

pub number_of_stay-requires : goal.number_of_stay-requires
number_of_stay-requires c = host-listed c.args.net.now c.args.symbols.now c.requires.symbols c.args.first c.requires.first

pub number_of_stay-requires-2 : goal.number_of_stay-requires-2
number_of_stay-requires-2 c = host-listed c.args.net.now c.args.symbols.now c.requires.symbols c.args.last c.requires.last

pub returns : goal.returns
returns c =
    let ways : Ways = record { rows = c.rows-2.inside.items.items; last = c.in_ok-ends.ends; places = c.in_ok-places.field-0; start = c.number_of_stay.result; end = c.number_of_stay-2.result } in
    let rows : c.rows-2.inside.items.items ≡ c.in_ok-rows.rows = c.rows-2.view_is in
    let count : length ways.rows ≡ length c.args.net.now.locations = ap length rows ∙ c.in_ok-rows.ensures.count in
    let each : AreRowsOf c.args.net.now c.args.symbols.now ways.rows = subst (AreRowsOf c.args.net.now c.args.symbols.now) (sym rows) c.in_ok-rows.ensures.each in
    record {
      whole = are-whole c.args.net.now c.args.symbols.now c.requires.symbols ways c.in_ok-places.ensures count each c.in_ok-ends.ensures.count c.args.first c.args.last c.number_of_stay.ensures c.number_of_stay-2.ensures;
      places = c.in_ok-places.ensures;
      count = count;
      rows = each;
      last = c.in_ok-ends.ensures.each;
      start = c.number_of_stay.ensures;
      end = c.number_of_stay-2.ensures;
    }
