use Rattle.std.proofs.Common.{◌≡◌, ◌==◌, sym, ◌∙◌, true, Option, Some, None, [], ◌∷◌, is_some, refl}
use Rattle.std.proofs.lemmas.Bool.{eq-eqb}
use Rattle.std.specs.Prelude.{option_to_list}
use Rattle.merlin_model.specs.declared.network.DirectedLink.{DirectedLink}
use Rattle.topology_rules.proofs.Counted.{second_passes}
use Rattle.topology_rules.proofs.hosts.only_link.Goals as goal

-- what was found
found_one : (found : Option DirectedLink) → is_some found ≡ true → (first : DirectedLink) × (option_to_list found ≡ first ∷ [])
found_one None e = absurd cc
found_one (Some first) e = (first, refl)

pub returns-then-is_some-clause-none : goal.returns-then-is_some-clause-none
returns-then-is_some-clause-none c =
    let one = found_one c.loop-directed.found (sym c.is_some.ensures ∙ c.if-is_some.true) in
    second_passes (λ w. w.from == c.args.loc) c.args.directed_links.now c.loop-directed.directed-index _ one.0 c.loop-directed-test.true (c.loop-directed.invariant ∙ one.1) (eq-eqb _ _ c.if-directed-loc.true)
