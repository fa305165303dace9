use Rattle.std.proofs.Common.{subst, ◌∙◌, inl, inr, pos, ◌≤ℤ◌, List, ℕ, Bool, Option, None, Some, length, ap, arith}
use Rattle.std.proofs.lemmas.List.{take_all}
use Rattle.std.proofs.lemmas.Option.{slice_get_within}
use Rattle.std.specs.Option.{option_copied}
use Rattle.merlin_model.specs.declared.certificate.Weight.{Weight}
use Rattle.merlin_model.specs.declared.policy.Value.{Value}
use Rattle.cutoff_program.specs.declared.flow.Problem.{Problem}
use Rattle.cutoff_program.specs.Flows.{program_at, room}
use Rattle.price_candidates.specs.Leaves.{OnLink, capacity_at, flow_weights, leaf_from}
use Rattle.price_bound.specs.Numbers.{IsLeafTried, IsLinkTried, AreFloors}
use Rattle.price_bound.proofs.Lightening.{fits-light}
use Rattle.price_bound.proofs.Steps.{ok-so}
use Rattle.price_bound.proofs.tried.try_link.Goals as goal

pub returns-then-fits-clause-tried : goal.returns-then-fits-clause-tried
returns-then-fits-clause-tried c =
    let problem = c.args.program.now.problem in
    let cutoff = option_copied c.args.cutoff in
    let box = c.args.fixed.now in
    let load = c.requires.load in
    inr (fits-light problem cutoff box load.point c.args.link load.of (subst (λ n. pos n ≤ℤ room problem.objective cutoff (capacity_at problem c.args.link)) load.is (c.fits.ensures.0 c.if-fits.true)))

pub returns-clause-tried : goal.returns-clause-tried
returns-clause-tried c =
    let problem = c.args.program.now.problem in
    let cutoff = option_copied c.args.cutoff in
    let box = c.args.fixed.now in
    let link = c.args.link in
    let floors = c.in_ok-numbers.ensures in
    let flat = c.as_slice.ensures ∙ floors.flat ∙ ap (flow_weights floors.at 0) (take_all (length problem.flows) problem.flows (omega arith)) in
    ok-so (IsLeafTried (program_at problem cutoff) box (leaf_from problem floors.at (OnLink link))) (IsLinkTried problem cutoff box link) c.try_leaf.result
    (λ o. by problem cutoff box link floors o)
    (c.try_leaf.ensures.tried floors.at flat)
  where
    by : (problem : Problem) (cutoff : Option Value) (box : List (Option Bool)) (link : ℕ) {numbers : List ℕ} → (floors : AreFloors problem cutoff box link (length problem.flows) numbers) → (o : Option (List Weight)) → IsLeafTried (program_at problem cutoff) box (leaf_from problem floors.at (OnLink link)) o → IsLinkTried problem cutoff box link o
    by problem cutoff box link floors None fails = inl (record {
      at = floors.at;
      tried = record { floors = λ n flow s. floors.floors n flow (slice_get_within problem.flows n flow s) s; range = floors.small };
      fails = fails;
    })
    by problem cutoff box link floors (Some weights) r = r
