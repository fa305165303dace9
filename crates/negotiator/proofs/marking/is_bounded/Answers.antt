use Rattle.std.proofs.Common.{◌↔◌, IsTrue, Contains, List, subst}
use Rattle.std.specs.Prelude.{filter_map}
use Rattle.merlin_model.specs.declared.policy.Part.{Part}
use Rattle.merlin_model.specs.Rates.{id_of_part}
use Rattle.negotiator.proofs.MarkedPlaces.{clash, bounds-id, bounds-none}
use Rattle.negotiator.proofs.marking.is_bounded.Goals as goal

pub returns-in-Some : goal.returns-in-Some
returns-in-Some c =
    let law = bounds-id c.args.policy.now.policy c.args.term.now c.args.statement c.in-Some.id.now c.in-Some.ensures in
    let has = subst (λ (ps : List Part). IsTrue c.has_id.result ↔ Contains (filter_map id_of_part ps) c.in-Some.id.now) c.as_slice.ensures c.has_id.ensures in
    (λ t. law.0 (has.0 t), λ h. has.1 (law.1 h))

pub returns-in-None : goal.returns-in-None
returns-in-None c = (λ t. clash t, λ h. absurd (bounds-none c.args.policy.now.policy c.args.term.now c.args.statement c.in-None.ensures h))
