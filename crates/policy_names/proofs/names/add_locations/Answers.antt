use Rattle.std.proofs.Common.{slice_get, ◌∙◌}
use Rattle.merlin_model.specs.declared.network.Location.{Location as Place}
use Rattle.policy_names.specs.declared.names.Meaning.TheVariants.{Location}
use Rattle.policy_names.specs.Meanings.{meaning_held}
use Rattle.policy_names.proofs.Tabled.{filled_more, within_at, named_at}
use Rattle.policy_names.proofs.names.add_locations.Goals as goal

pub loop-loc-preserved : goal.loop-loc-preserved
loop-loc-preserved c =
    let locations = c.args.net.now.locations in
    let here = named_at (λ (l : Place). l.name) (slice_get locations c.loop-loc.loc) c.name.result.now c.name.ensures in
    let at = within_at locations c.loop-loc.loc here.0 here.1 in
    filled_more (λ (l : Place). l.name) (λ n. Location n) locations c.loop-loc.loc here.0 at.0 at.1
    (meaning_held c.args.names.now) (meaning_held c.loop-loc.names) (meaning_held c.add.new.names) c.loop-loc.invariant c.bytes.result.now (c.bytes.ensures ∙ here.2) c.in_ok-add.ensures
