use Rattle.std.proofs.Common.{◌∙◌, ap}
use Rattle.std.specs.Prelude.{Some}
use Rattle.merlin.proofs.Wiring.{is_switch, not_switch, no_switch}
use Rattle.merlin.proofs.inputs.switch_named.Goals as goal

pub returns-in-Switch-clause-some : goal.returns-in-Switch-clause-some
returns-in-Switch-clause-some c =
    (c.in_ok-loc.ensures.some, is_switch c.args.net.now c.in_ok-loc.loc (c.place.ensures ∙ ap Some c.in-Switch.is))

pub returns-in-Host : goal.returns-in-Host
returns-in-Host c = record {
  some = tt;
  none = no_switch c.args.net.now c.args.name.now c.in_ok-loc.loc c.place.result c.locations-locations.ensures.lawful.lawful c.in_ok-loc.ensures.some c.place.ensures (not_switch c.place.result c.in-Host.is);
}
