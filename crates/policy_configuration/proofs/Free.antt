-- Where nothing is guaranteed there is nothing to assign.
use Rattle.std.proofs.Common.{◌≡◌, ◌≤◌, ◌<◌, ◌*◌, ℕ, List, [], ◌∷◌, refl, subst, arith}
use Rattle.std.specs.List.{AllByRecursion}
use Rattle.merlin_model.specs.declared.network.DirectedLink.{DirectedLink}
use Rattle.merlin_model.specs.declared.policy.Ends.{Ends}
use Rattle.merlin_model.specs.declared.policy.Objective.{Objective}
use Rattle.merlin_model.specs.declared.policy.Symbol.{Symbol}
use Rattle.merlin_model.specs.declared.policy.Value.{Value}
use Rattle.merlin_model.specs.declared.policy.Value.TheVariants.{Whole, Ratio}
use Rattle.merlin_model.specs.Networks.{Network, directed_links}
use Rattle.merlin_model.specs.Policies.{Policy}
use Rattle.merlin_model.specs.Rates.{IsGuaranteed}
use Rattle.merlin_model.specs.Assignments.{AreAllEnds, IsAssignment, IsFeasible, load_on, value_of, IsSmaller, IsLeast}
use Rattle.path_automaton.specs.Automata.{AutomatonTables}
use Rattle.configuration_model.specs.Groups.{HaveDifferentVertices}
use Rattle.policy_configuration.proofs.Few.{none-some}

pub no-ends : (net : Network) (policy : Policy) (ends : List Ends) → ((i : ℕ) → ¬ IsGuaranteed policy i) → AreAllEnds net policy ends → ends ≡ []
no-ends net policy [] free all = refl
no-ends net policy (e ∷ ends) free all = absurd (free e.statement all.each.0.guaranteed)

pub no-walks : (net : Network) (policy : Policy) (walks : List (List Symbol)) → IsAssignment net policy [] walks → walks ≡ []
no-walks net policy [] h = refl
no-walks net policy (w ∷ walks) h = absurd h

pub none-meet : (policy : Policy) (symbols : List Symbol) (automata : List AutomatonTables) → HaveDifferentVertices policy symbols automata [] []
none-meet policy symbols automata k e w t at-e at-w at-t = absurd (none-some at-e)

pub nothing-fits : (net : Network) (policy : Policy) → IsFeasible net policy [] []
nothing-fits net policy = each (directed_links net)
  where
    each : (links : List DirectedLink) → AllByRecursion (λ link. load_on net policy [] [] link ≤ link.capacity) links
    each [] = tt
    each (link ∷ links) = (omega arith, each links)

not-below : (n : ℕ) → n < n → ⊥
not-below n h = omega (arith, h)

not-smaller : (v : Value) → IsSmaller v v → ⊥
not-smaller (Whole a) h = not-below a h
not-smaller (Ratio a b) h = not-below (a * b) h

pub none-least : (net : Network) (policy : Policy) (objective : Objective) → IsLeast net policy [] objective []
none-least net policy objective = record {
  assignment = tt;
  feasible = nothing-fits net policy;
  least = λ others assigned fits smaller.
      not-smaller (value_of net policy [] objective [])
      (subst (λ walks. IsSmaller (value_of net policy [] objective walks) (value_of net policy [] objective [])) (no-walks net policy others assigned) smaller);
}
