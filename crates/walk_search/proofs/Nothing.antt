-- Where nothing is guaranteed.
use Rattle.std.proofs.Common.{◌≡◌, ℕ, ◌+◌, ◌≤◌, ◌<◌, ◌^◌, List, [], ◌∷◌, map, None, length, refl, ◌∙◌, ap, subst, arith}
use Rattle.std.specs.List.{AllByRecursion}
use Rattle.merlin_model.specs.declared.network.DirectedLink.{DirectedLink}
use Rattle.merlin_model.specs.declared.policy.Objective.{Objective}
use Rattle.merlin_model.specs.declared.policy.Symbol.{Symbol}
use Rattle.merlin_model.specs.Networks.{Network, directed_links}
use Rattle.merlin_model.specs.Policies.{Policy}
use Rattle.merlin_model.specs.Programs.{variables}
use Rattle.merlin_model.specs.Assignments.{IsAssignment, IsFeasible, load_on, value_of}
use Rattle.cutoff_program.specs.declared.flow.Flow.{Flow}
use Rattle.cutoff_program.specs.declared.flow.Problem.{Problem}
use Rattle.cutoff_program.specs.Flows.{program_at, variables_of, variables_from, may_be_one}
use Rattle.cutoff_program.specs.declared.flow.Variable.{Variable}
use Rattle.policy_flows.specs.Layouts.{StatementParts, AreFlowsBetween}
use Rattle.walk_search.specs.declared.found.WalksFound.{WalksFound}
use Rattle.walk_search.specs.declared.found.WalksFound.TheVariants.{Least, Infeasible, Budget}
use Rattle.walk_search.specs.Found.{IsFoundFor, AreNoWalks}

free : (net : Network) (policy : Policy) → IsFeasible net policy [] []
free net policy = by (directed_links net)
  where
    by : (links : List DirectedLink) → AllByRecursion (λ link. load_on net policy [] [] link ≤ link.capacity) links
    by [] = tt
    by (link ∷ links) = (omega arith, by links)

no-flows : (net : Network) (parts : StatementParts) (flows : List Flow) (symbols : List (List Symbol)) → AreFlowsBetween net parts [] flows symbols → flows ≡ []
no-flows net parts [] symbols are = refl
no-flows net parts (flow ∷ flows) symbols are = absurd are

no-variables : (problem : Problem) → problem.flows ≡ [] → variables (program_at problem None) ≡ 0
no-variables problem e = by (variables_of problem) (ap (variables_from 0) e)
  where
    by : (vs : List Variable) → vs ≡ [] → length (map (may_be_one problem None) vs) ≡ 0
    by [] e = refl
    by (v ∷ vs) e = cc

no-walks : (net : Network) (policy : Policy) (walks : List (List Symbol)) → IsAssignment net policy [] walks → walks ≡ []
no-walks net policy [] assigned = refl
no-walks net policy (w ∷ walks) assigned = absurd assigned

pub nothing : (net : Network) (policy : Policy) (parts : StatementParts) (o : Objective) (budget : ℕ) (found : WalksFound) → 0 < budget → IsFoundFor net policy parts [] o budget found → AreNoWalks net policy o found
nothing net policy parts o budget (Least value walks tree) some h =
    let e = no-walks net policy walks h.is.found.assignment in
    (e, h.is.found.value_is ∙ ap (value_of net policy [] o) e)
nothing net policy parts o budget (Infeasible tree) some h = h.is.none [] tt (free net policy)
nothing net policy parts o budget (Budget best bound tree) some h =
    let e = no-variables h.problem (no-flows net parts h.problem.flows h.symbols h.layout.flows) in
    let s : budget + 1 < 2 ^ (0 + 1) = subst (λ n. budget + 1 < 2 ^ (n + 1)) e h.is.spent.small in
    let two : 2 ^ (0 + 1) ≡ 2 = refl in
    absurd (omega (arith, s, two, some))
