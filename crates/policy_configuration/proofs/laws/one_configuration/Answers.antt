use Rattle.policy_configuration.proofs.Made.{made}
use Rattle.policy_configuration.proofs.One.{one-configuration}
use Rattle.policy_configuration.proofs.laws.one_configuration.Goals as goal

pub returns : goal.returns
returns c net policy automata ends walks config other network checked ends_are assigned simple h g =
    let cells = c.pair_cells_name_owners.ensures net policy network checked.preds in
    let m = made net policy automata ends walks config network checked ends_are cells assigned simple h in
    one-configuration net policy automata ends walks config other ends_are assigned h g c.one_plan.ensures network (c.made_is_compiled.ensures.compiled net policy ends walks config m).written_are
