use Rattle.std.proofs.Common.{refl}
use Rattle.std.proofs.lemmas.List.Elements.{recursion_from_All}
use Rattle.topology_rules.specs.Rules.{IsMiddleboxAmong}
use Rattle.topology_rules.proofs.KeyClashes.{found_at, nothing_at}
use Rattle.topology_rules.proofs.Telling.{different, not_different}
use Rattle.topology_rules.proofs.placements.are_places.Goals as goal

pub returns-in-Some : goal.returns-in-Some
returns-in-Some c = (
  λ t. absurd cc,
  λ are. absurd (not_different c.args.places.now c.in-Some.field-0 (found_at _ c.in_ok-first_repeated.field-0 c.in-Some.field-0 c.in-Some.is c.in_ok-first_repeated.ensures.some) are.1),
)

pub returns-in-None : goal.returns-in-None
returns-in-None c = (
  λ t. (
    recursion_from_All (IsMiddleboxAmong c.args.locations.now) c.args.places.now (c.are_middleboxes.ensures.0 c.if-not-are_middleboxes.false),
    different c.args.places.now (nothing_at _ c.in_ok-first_repeated.field-0 c.in-None.is c.in_ok-first_repeated.ensures.none),
  ),
  λ are. refl,
)
