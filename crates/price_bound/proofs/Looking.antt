-- From what was found to what the laws of candidates ask.
use Rattle.std.proofs.Common.{◌≡◌, ℕ, zero, suc, ◌+◌, ◌≤◌, ◌^◌, ◌==◌, Bool, true, false, cond, List, [], ◌∷◌, take, length, Option, Some, slice_get, refl, ◌∙◌, ap, subst, arith}
use Rattle.std.proofs.lemmas.List.{take_all}
use Rattle.merlin_model.specs.declared.policy.Value.{Value}
use Rattle.cutoff_program.specs.declared.flow.Problem.{Problem}
use Rattle.cutoff_program.specs.declared.flow.Flow.{Flow}
use Rattle.std.specs.List.{AllByRecursion}
use Rattle.cutoff_program.specs.Easy.{EachFlowHas, MayIn}
use Rattle.graph_search.proofs.Places.{none-some, some-same}
use Rattle.price_candidates.specs.Leaves.{AreSmallNumbers, flow_weights}
use Rattle.price_candidates.specs.Tried.{IsUnreached, IsLeastPath, IsTried, only}
use Rattle.price_bound.specs.declared.costs.Costs.{Costs}
use Rattle.price_bound.specs.Loads.{IsAllowedPath, IsOfPaths}
use Rattle.price_bound.specs.Numbers.{AreCosts, EachIsReached}

pub cut-small : (problem : Problem) (cutoff : Option Value) (box : List (Option Bool)) (n : ℕ) (flow : Flow) (at : ℕ → ℕ) → IsUnreached problem cutoff box n flow at → AreSmallNumbers (only n at)
cut-small problem cutoff box n flow at is = record { start = λ m. start (m == n); low = λ m u. low u (m == n) }
  where
    start : (b : Bool) → cond b (at 0) 0 ≡ 0
    start true = is.potential.start
    start false = refl

    low : (u : ℕ) (b : Bool) → cond b (at u) 0 ≤ 2 ^ 60
    low u true = let l = is.low u in omega arith
    low u false = omega arith

each-get : {X : Type 0} (Q : ℕ → Flow → X → Type 0) (n j : ℕ) (flows : List Flow) (xs : List X) (flow : Flow) → EachFlowHas Q n flows xs → slice_get flows j ≡ Some flow → (x : X) × Q (n + j) flow x
each-get Q n j [] xs flow each e = absurd (none-some e)
each-get Q n j (f ∷ flows) [] flow each e = absurd each
each-get Q n zero (f ∷ flows) (x ∷ xs) flow each e = (x, subst (λ m. Q m flow x) (let a : n ≡ n + zero = omega arith in a) (subst (λ g. Q n g x) (some-same e) each.0))
each-get Q n (suc j) (f ∷ flows) (x ∷ xs) flow each e = let r = each-get Q (n + 1) j flows xs flow each.1 e in (r.0, subst (λ m. Q m flow r.0) (let a : n + 1 + j ≡ n + suc j = omega arith in a) r.1)

each-allowed : (problem : Problem) (cutoff : Option Value) (box : List (Option Bool)) (at : ℕ → ℕ → ℕ) (n : ℕ) (flows : List Flow) (paths : List (List ℕ)) → EachFlowHas (IsLeastPath problem cutoff box at) n flows paths → EachFlowHas (IsAllowedPath problem cutoff box) n flows paths
each-allowed problem cutoff box at n [] [] each = tt
each-allowed problem cutoff box at n [] (path ∷ paths) each = absurd each
each-allowed problem cutoff box at n (flow ∷ flows) [] each = absurd each
each-allowed problem cutoff box at n (flow ∷ flows) (path ∷ paths) each = (record { is_path = each.0.is_path; allowed = each.0.allowed }, each-allowed problem cutoff box at (n + 1) flows paths each.1)

module _ (problem : Problem) (cutoff : Option Value) (box : List (Option Bool)) (costs : Costs) (are : AreCosts problem cutoff box (length problem.flows) costs) where
  whole : take (length problem.flows) problem.flows ≡ problem.flows
  whole = take_all (length problem.flows) problem.flows (omega arith)

  paths-are : EachFlowHas (IsLeastPath problem cutoff box are.at) 0 problem.flows are.paths
  paths-are = subst (λ flows. EachFlowHas (IsLeastPath problem cutoff box are.at) 0 flows are.paths) whole are.are_paths

  pub costs-flat : costs.numbers ≡ flow_weights are.at 0 problem.flows
  costs-flat = are.flat ∙ ap (flow_weights are.at 0) whole

  pub costs-tried : IsTried problem cutoff box are.at are.paths
  costs-tried = record { are_paths = paths-are; costs = are.small }

  pub costs-of : IsOfPaths problem cutoff box costs.point
  costs-of = record { paths = are.paths; are_paths = each-allowed problem cutoff box are.at 0 problem.flows are.paths paths-are; of = are.of }

-- where there are paths each flow is reached
pub all-reached : (problem : Problem) (cutoff : Option Value) (box : List (Option Bool)) (point : List Bool) → IsOfPaths problem cutoff box point → EachIsReached problem cutoff box
all-reached problem cutoff box point is n flow stands =
    let p = each-get (IsAllowedPath problem cutoff box) 0 n problem.flows is.paths flow is.are_paths stands in
    let l = subst (λ m. IsAllowedPath problem cutoff box m flow p.0) (let e : 0 + n ≡ n = omega arith in e) p.1 in
    (p.0, record { steps = l.is_path.steps; allowed = l.allowed })

-- Paths that a narrower box allows are allowed.

widened : (problem : Problem) (cutoff : Option Value) (box narrow : List (Option Bool)) → ((k : ℕ) → MayIn problem cutoff narrow k → MayIn problem cutoff box k) → (ks : List ℕ) → AllByRecursion (MayIn problem cutoff narrow) ks → AllByRecursion (MayIn problem cutoff box) ks
widened problem cutoff box narrow may [] all = tt
widened problem cutoff box narrow may (k ∷ ks) all = (may k all.0, widened problem cutoff box narrow may ks all.1)

each-wider : (problem : Problem) (cutoff : Option Value) (box narrow : List (Option Bool)) → ((k : ℕ) → MayIn problem cutoff narrow k → MayIn problem cutoff box k) → (n : ℕ) (flows : List Flow) (paths : List (List ℕ)) →
    EachFlowHas (IsAllowedPath problem cutoff narrow) n flows paths → EachFlowHas (IsAllowedPath problem cutoff box) n flows paths
each-wider problem cutoff box narrow may n [] [] each = tt
each-wider problem cutoff box narrow may n [] (path ∷ paths) each = absurd each
each-wider problem cutoff box narrow may n (flow ∷ flows) [] each = absurd each
each-wider problem cutoff box narrow may n (flow ∷ flows) (path ∷ paths) each =
    (record { is_path = each.0.is_path; allowed = widened problem cutoff box narrow may path each.0.allowed }, each-wider problem cutoff box narrow may (n + 1) flows paths each.1)

pub wider-paths : (problem : Problem) (cutoff : Option Value) (box narrow : List (Option Bool)) (point : List Bool) → ((k : ℕ) → MayIn problem cutoff narrow k → MayIn problem cutoff box k) → IsOfPaths problem cutoff narrow point → IsOfPaths problem cutoff box point
wider-paths problem cutoff box narrow point may is = record { paths = is.paths; are_paths = each-wider problem cutoff box narrow may 0 problem.flows is.paths is.are_paths; of = is.of }
