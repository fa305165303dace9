use Rattle.std.proofs.Common.{◌≡◌, ◌∙◌, ◌++◌, ℕ, List, Bor, map, ap, subst}
use Rattle.merlin_model.specs.Networks.{names_of}
use Rattle.topology_shape.specs.Described.{described_by}
use Rattle.topology_rules.specs.Clashes.{IsFirstClash}
use Rattle.topology_rules.specs.Rules.{AreOne}
use Rattle.topology_rules.proofs.KeyClashes.{found_at}
use Rattle.topology_rules.proofs.Broken.{broken_name}
use Rattle.topology_rules.proofs.names.ask_names.Goals as goal

pub returns-in-Some-clause-err : goal.returns-in-Some-clause-err
returns-in-Some-clause-err c =
    let net = described_by c.args.shape.now in
    let same : map (λ (x : Bor (List ℕ)). x.now) c.in_ok-names.names.items ≡ names_of net = c.in_ok-names.ensures ∙ (ap (λ ls. map (λ l. l.name) ls ++ map (λ f. f.name) c.deref.result.now) c.locations.ensures ∙ ap (λ fs. map (λ l. l.name) net.locations ++ map (λ f. f.name) fs) c.deref.ensures.value) in
    let clash = found_at _ c.in_ok-place.field-0 c.in-Some.place c.in-Some.is c.in_ok-place.ensures.some in
    let there = subst (λ (ns : List (Bor (List ℕ))). IsFirstClash AreOne (map (λ (x : Bor (List ℕ)). x.now) ns) c.in-Some.place) c.deref-2.ensures.value clash in
    broken_name net c.in_ok-names.names.items c.in-Some.place c.index.result.now c.in_ok-name_from-in-Some.field-0 same c.requires there c.index.ensures c.in_ok-name_from-in-Some.ensures
