-- What the search finds is a least path.
use Rattle.std.proofs.Common.{◌≡◌, ℕ, suc, ◌+◌, ◌*◌, ◌^◌, ◌≤◌, ◌<◌, Bool, List, [], ◌∷◌, length, Option, None, Some, sum_by, refl, sym, ◌∙◌, ap, subst, arith}
use Rattle.std.proofs.lemmas.List.Sums.{sum_by-cons}
use Rattle.std.specs.List.{AllByRecursion}
use Rattle.graph_search.specs.declared.paths.Potentials.{Potentials}
use Rattle.graph_search.specs.declared.graph.Edge.{Edge}
use Rattle.graph_search.specs.Graphs.{AreEdgesAmong, ArePotentials, known_at, cost_of_all}
use Rattle.cutoff_program.specs.Flows.{variables_of, last_of, cost_of_variable}
use Rattle.cutoff_program.specs.declared.flow.Flow.{Flow}
use Rattle.cutoff_program.specs.declared.flow.Problem.{Problem}
use Rattle.cutoff_program.specs.declared.flow.Variable.{Variable}
use Rattle.cutoff_program.specs.Limits.{IsProblem}
use Rattle.cutoff_program.specs.Trails.{IsTrailOf, IsPath, sum_along, point_with}
use Rattle.cutoff_program.specs.Easy.{IsTrailThrough}
use Rattle.cutoff_program.proofs.Lists.{all_so, within_length}
use Rattle.cutoff_program.proofs.Following.{sum-cons}
use Rattle.cutoff_program.proofs.Points.{point-sum, trail-of, trail-different, IsOf}
use Rattle.cutoff_program.proofs.Sums.{taken-most}
use Rattle.cutoff_program.proofs.Variables.{costs-small}
use Rattle.program_walks.specs.declared.backwards.Turned.{Turned}
use Rattle.program_walks.specs.Turned.{AreTurned}
use Rattle.program_walks.specs.Paths.{IsChosenIn, IsLeastPath}
use Rattle.program_walks.specs.Followed.{IsWayBy}
use Rattle.program_walks.proofs.Going.{by-different, back-trail, trail-back}

-- The edges of a path add no more than all variables do.

pub path-below : (variables : List Variable) (n : ℕ) (ks : List ℕ) (from to : ℕ) → IsTrailOf variables n ks from to → AllByRecursion (λ k. k < length variables) ks
path-below variables n ks from to t = all_so (IsOf variables n) (λ k. k < length variables) ks (λ k is. within_length variables k is.0 is.1) (trail-of variables n ks from to t)

pub path-sum : (variables : List Variable) (n : ℕ) (ks : List ℕ) (from to : ℕ) (f : Variable → ℕ) → IsPath variables n ks from to → sum_along variables f ks ≤ sum_by f variables
path-sum variables n ks from to f p =
    let s = point-sum variables f ks (path-below variables n ks from to p.steps) (trail-different variables n ks from to p.steps p.simple.1) in
    let m = taken-most 0 f variables (point_with (length variables) ks) in
    omega (arith, s, m)

ones : (variables : List Variable) (n : ℕ) (ks : List ℕ) (from to : ℕ) → IsTrailOf variables n ks from to → sum_along variables (λ v. 1) ks ≡ length ks
ones variables n [] from to t = refl
ones variables n (k ∷ ks) from to t = let e = ones variables n ks t.0.edge.to to t.4 in let s = sum-cons variables (λ v. 1) k ks t.0 t.1 in omega (arith, e, s)

all-ones : (variables : List Variable) → sum_by (λ v. 1) variables ≡ length variables
all-ones [] = refl
all-ones (v ∷ vs) = let e = all-ones vs in let s = sum_by-cons (λ (w : Variable). 1) v vs in omega (arith, e, s)

pub path-few : (variables : List Variable) (n : ℕ) (ks : List ℕ) (from to : ℕ) → IsPath variables n ks from to → length ks ≤ length variables
path-few variables n ks from to p =
    let s = path-sum variables n ks from to (λ v. 1) p in
    let e = ones variables n ks from to p.steps in
    let a = all-ones variables in
    omega (arith, s, e, a)

pub small-sum : (f : Variable → ℕ) (vs : List Variable) → AllByRecursion (λ v. f v ≤ 10 ^ 9) vs → sum_by f vs ≤ length vs * 10 ^ 9
small-sum f [] all = omega arith
small-sum f (v ∷ vs) all = let s = sum_by-cons f v vs in let h = small-sum f vs all.1 in more _ _ _ _ s all.0 h
  where
    more : (s a b n : ℕ) → s ≡ a + b → a ≤ 10 ^ 9 → b ≤ n * 10 ^ 9 → s ≤ suc n * 10 ^ 9
    more s a b n e h i = omega arith

pub cost-small : (problem : Problem) (n : ℕ) (ks : List ℕ) (from to : ℕ) → IsProblem problem → IsPath (variables_of problem) n ks from to → sum_along (variables_of problem) (cost_of_variable problem) ks ≤ 2 ^ 45
cost-small problem n ks from to is p =
    let s = path-sum (variables_of problem) n ks from to (cost_of_variable problem) p in
    let t = small-sum (cost_of_variable problem) (variables_of problem) (costs-small problem is) in
    let f = is.few_variables in
    omega (arith, s, t, f)

module _ (problem : Problem) (point : List Bool) (n : ℕ) (flow : Flow) (found : Turned) (p : Potentials) (is : IsProblem problem) (t : AreTurned problem point n (last_of flow) (length (variables_of problem)) found) (are : ArePotentials (last_of flow + 1) found.edges (last_of flow) p) where
  pub record HasLeast (cost : ℕ) : Type 0 where
    pub ks : List ℕ
    pub way : IsWayBy (variables_of problem) found.numbers p.before ks
    pub least : IsLeastPath problem point n flow (record { path = ks; cost = cost })
    pub small : cost ≤ 2 ^ 45

  pub has-least : (cost : ℕ) → known_at p.distance 0 ≡ Some cost → HasLeast cost
  has-least cost known =
      let r = are.reached 0 cost known in
      let h = back-trail problem point n (last_of flow) (length (variables_of problem)) found t p.before 0 (last_of flow) r.back (let b = are.befores in omega (arith, b)) r.goes_back in
      let is_path : IsPath (variables_of problem) n h.ks 0 (last_of flow) = record { steps = h.steps; simple = by-different (variables_of problem) found.numbers p.before 0 h.ks h.goes } in
      let c = h.costs ∙ r.costs in
      let small = cost-small problem n h.ks 0 (last_of flow) is is_path in
      record {
        ks = h.ks;
        way = record { goes = h.goes; few = path-few (variables_of problem) n h.ks 0 (last_of flow) is_path };
        least = record {
          is_path = is_path;
          chosen = h.chosen;
          costs = c;
          no_less = λ other through.
              let q = trail-back problem point n (last_of flow) (length (variables_of problem)) found t 0 (last_of flow) other refl through.steps through.allowed in
              let l = r.least q.path q.is_path in
              let e = q.costs in
              omega (arith, l, e);
        };
        small = omega (arith, small, c);
      }

  pub has-none : known_at p.distance 0 ≡ None → (trail : List ℕ) → ¬ IsTrailThrough problem (IsChosenIn point) n flow trail
  has-none known trail through =
      let q = trail-back problem point n (last_of flow) (length (variables_of problem)) found t 0 (last_of flow) trail refl through.steps through.allowed in
      (are.unreached 0 known).1 q.path q.is_path

-- What the search is asked with.

pub turned-inside : (problem : Problem) (point : List Bool) (n last bound : ℕ) (found : Turned) → AreTurned problem point n last bound found → (end : ℕ) → end ≡ last → AreEdgesAmong (end + 1) found.edges
turned-inside problem point n last bound found t end e = subst (λ x. AreEdgesAmong (x + 1) found.edges) (sym e) t.inside

pub turned-costs : (problem : Problem) (variables : List Variable) (point : List Bool) (n last : ℕ) (found : Turned) → IsProblem problem → variables ≡ variables_of problem → AreTurned problem point n last (length variables) found → cost_of_all found.edges < 2 ^ 120
turned-costs problem variables point n last found is are t =
    let c = t.costs in
    let e = ap length are in
    let f = is.few_variables in
    below _ _ _ c e f
  where
    below : (s a b : ℕ) → s ≤ a * 10 ^ 9 → a ≡ b → b ≤ 32768 → s < 2 ^ 120
    below s a b h e f = let g : s ≤ 32768 * 10 ^ 9 = omega arith in omega (arith, g)

pub whole : (problem : Problem) (variables : List Variable) (point : List Bool) (n : ℕ) (flow : Flow) (found : Turned) → variables ≡ variables_of problem → AreTurned problem point n (last_of flow) (length variables) found → AreTurned problem point n (last_of flow) (length (variables_of problem)) found
whole problem variables point n flow found are t = subst (λ vs. AreTurned problem point n (last_of flow) (length vs) found) are t

pub at-end : (edges : List Edge) (p : Potentials) (end : ℕ) (flow : Flow) → end ≡ last_of flow → ArePotentials (end + 1) edges end p → ArePotentials (last_of flow + 1) edges (last_of flow) p
at-end edges p end flow e are = subst (λ x. ArePotentials (x + 1) edges x p) e are

pub way-same : (variables others : List Variable) (numbers more : List ℕ) (next after : List (Option ℕ)) (ks : List ℕ) → others ≡ variables → more ≡ numbers → after ≡ next → IsWayBy variables numbers next ks → IsWayBy others more after ks
way-same variables others numbers more next after ks e f g way =
    subst (λ vs. IsWayBy vs more after ks) (sym e) (subst (λ ns. IsWayBy variables ns after ks) (sym f) (subst (λ n. IsWayBy variables numbers n ks) (sym g) way))
