-- The groups of a policy with these walks are determined.
use Rattle.std.proofs.Common.{◌≡◌, ◌<◌, ℕ, zero, suc, List, map, slice_get, Some, refl, sym, ◌∙◌, ap, arith}
use Rattle.merlin_model.specs.declared.policy.Ends.{Ends}
use Rattle.merlin_model.specs.declared.policy.Symbol.{Symbol}
use Rattle.merlin_model.specs.Networks.{Network}
use Rattle.merlin_model.specs.Policies.{Policy}
use Rattle.merlin_model.specs.Rates.{min_of, IsGuaranteed}
use Rattle.merlin_model.specs.Assignments.{AreAllEnds}
use Rattle.merlin_model.proofs.Members.{in_from, in_map}
use Rattle.merlin_model.proofs.Ascending.{ascending-same}
use Rattle.path_automaton.specs.Automata.{AutomatonTables}
use Rattle.rules_model.specs.Products.{Group}
use Rattle.product_graph.specs.Products.{automaton_of}
use Rattle.product_graph.proofs.Lists.{some-same}
use Rattle.configuration_model.specs.Groups.{AreGrouped, IsGroupOf, AreGroups, written_walk_of}
use Rattle.configuration_model.proofs.Lists.{in-at}
use Rattle.policy_configuration.proofs.Few.{zipped-one}

pub leaders-same : (policy : Policy) (leaders others group_of groups_of : List ℕ) → AreGrouped policy leaders group_of → AreGrouped policy others groups_of → leaders ≡ others
leaders-same policy leaders others group_of groups_of h g =
    ascending-same leaders others h.ascending g.ascending (λ j. (λ c. (g.leaders_are j).1 ((h.leaders_are j).0 c), λ c. (h.leaders_are j).1 ((g.leaders_are j).0 c)))

module _ (net : Network) (policy : Policy) (symbols : List Symbol) (automata : List AutomatonTables) (ends : List Ends) (walks : List (List Symbol)) (all : AreAllEnds net policy ends)
    (walk-for : (k : ℕ) (e : Ends) → slice_get ends k ≡ Some e → (w : List Symbol) × (slice_get walks k ≡ Some w)) where
  abbrev IsOf : ℕ → Group → Type 0
  IsOf j g = IsGroupOf policy symbols automata ends walks j g

  -- the group of a statement
  module _ (j : ℕ) (g h : Group) (is : IsOf j g) (other : IsOf j h) where
    automaton-same : g.automaton ≡ h.automaton
    automaton-same = is.automaton ∙ ap (automaton_of symbols) (some-same (sym is.stands ∙ other.stands)) ∙ sym other.automaton

    parts-same : (n : ℕ) → min_of policy j ≡ n → (g.written ≡ h.written) × (g.queue ≡ h.queue)
    parts-same zero e =
        let free = λ (up : IsGuaranteed policy j). never up e in
        ((is.best_effort free).0 ∙ sym (other.best_effort free).0, (is.best_effort free).1 ∙ sym (other.best_effort free).1)
      where
        never : 0 < min_of policy j → min_of policy j ≡ 0 → ⊥
        never up e = omega (arith, up, e)
    parts-same (suc n) e =
        let member = in_map (λ e. e.statement) ends j (in_from (map (λ e. e.statement) ends) j (all.all j (omega (arith, e)))) in
        let spot = in-at ends member.0 member.1 in
        let walk = walk-for spot.0 member.0 spot.1 in
        let one = is.guaranteed spot.0 member.0 walk.0 spot.1 (sym member.2) walk.1 in
        let two = other.guaranteed spot.0 member.0 walk.0 spot.1 (sym member.2) walk.1 in
        (one.0 ∙ ap (λ a. Some (written_walk_of a member.0 walk.0)) automaton-same ∙ sym two.0, one.1 ∙ sym two.1)

    group-same : g ≡ h
    group-same =
        let parts = parts-same (min_of policy j) refl in
        λ i. record { automaton = automaton-same i; written = parts.0 i; queue = parts.1 i }

  pub groups-of-same : (leaders : List ℕ) (gs hs : List Group) → AreGroups policy symbols automata ends walks leaders gs → AreGroups policy symbols automata ends walks leaders hs → gs ≡ hs
  groups-of-same leaders gs hs p q = zipped-one IsOf group-same leaders gs hs p q
