use Rattle.std.proofs.Common.{List, subst}
use Rattle.merlin_model.specs.declared.network.Location.{Location}
use Rattle.merlin_model.specs.declared.network.FnDecl.{FnDecl}
use Rattle.topology_shape.specs.Described.{described_by}
use Rattle.topology_rules.specs.Clashes.{IsFirstFailure}
use Rattle.topology_rules.specs.Rules.{IsPlacedAmong}
use Rattle.topology_rules.proofs.KeyClashes.{found_at}
use Rattle.topology_rules.proofs.Broken.{broken_placement}
use Rattle.topology_rules.proofs.placements.ask_placements.Goals as goal

pub returns-in_ok-copy-in-Some-clause-err : goal.returns-in_ok-copy-in-Some-clause-err
returns-in_ok-copy-in-Some-clause-err c =
    let failure = found_at _ c.in_ok-place.field-0 c.in-Some.place c.in-Some.is c.in_ok-place.ensures.some in
    let here = subst (λ (ls : List Location). IsFirstFailure (IsPlacedAmong ls) c.deref.result.now c.in-Some.place) c.locations.ensures failure in
    let there = subst (λ (fs : List FnDecl). IsFirstFailure (IsPlacedAmong c.args.shape.now.named) fs c.in-Some.place) c.deref.ensures.value here in
    broken_placement (described_by c.args.shape.now) c.in-Some.place c.index.result.now c.in_ok-copy-in-Some.field-0 c.requires there c.index.ensures c.in_ok-copy-in-Some.ensures
