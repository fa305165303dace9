use Rattle.std.proofs.Common.{◌≡◌, ◌∙◌, ℕ, List, Some, IfSome, IfNone, slice_get, subst}
use Rattle.merlin_model.specs.declared.network.Location.{Location}
use Rattle.topology_shape.specs.Format.{location_names}
use Rattle.topology_shape.proofs.NameTables.{found_some, found_none}
use Rattle.topology_shape.proofs.named.NamedLocations.find.Goals as goal

pub returns-clause-some : goal.returns-clause-some
returns-clause-some c =
    subst (λ (ls : List Location). IfSome c.copied.result (λ loc. slice_get (location_names ls) loc ≡ Some c.args.name.now)) c.self.view_is
    (found_some (location_names c.self.inside.locations.items) c.args.name.now _ c.copied.result (c.copied.ensures ∙ c.get.ensures.value) (c.self.invariant c.args.name.now))

pub returns-clause-none : goal.returns-clause-none
returns-clause-none c =
    subst (λ (ls : List Location). IfNone c.copied.result ((loc : ℕ) → slice_get (location_names ls) loc ≡ Some c.args.name.now → ⊥)) c.self.view_is
    (found_none (location_names c.self.inside.locations.items) c.args.name.now _ c.copied.result (c.copied.ensures ∙ c.get.ensures.value) (c.self.invariant c.args.name.now))
