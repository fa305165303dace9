-- When a point of paths is a solution, and what a solution's rows say.
use Rattle.std.proofs.Common.{◌≡◌, ℕ, zero, suc, ◌+◌, ◌==◌, Bool, true, ℤ, pos, ◌+ℤ◌, ◌≤ℤ◌, List, [], ◌∷◌, ◌++◌, map, Option, Some, slice_get, sum_by, refl, sym, ◌∙◌, ap, subst, arith}
use Rattle.std.proofs.lemmas.Int.{ints}
use Rattle.std.proofs.lemmas.List.{length-map}
use Rattle.std.specs.List.{AllByRecursion, range_with_len}
use Rattle.merlin_model.specs.declared.network.DirectedLink.{DirectedLink}
use Rattle.merlin_model.specs.declared.policy.Value.{Value}
use Rattle.merlin_model.specs.Programs.{Row, is_chosen, left_side, Compares, IsSolution}
use Rattle.merlin_model.proofs.Members.{In, in_from, in_to}
use Rattle.cutoff_program.specs.declared.flow.Problem.{Problem}
use Rattle.cutoff_program.specs.declared.flow.Flow.{Flow}
use Rattle.cutoff_program.specs.declared.flow.Variable.{Variable}
use Rattle.cutoff_program.specs.Flows.{flow_row, link_row, rate_over, variables_of, program_at, room, last_of, net_out, length_of, cutoff_right, cutoff_row, entries_from, flow_right, flow_rows_from, link_rows_from, taken_from, chosen_from, may_be_one}
use Rattle.cutoff_program.specs.Trails.{IsNeat, one_at}
use Rattle.cutoff_program.specs.Limits.{IsProblem}
use Rattle.price_candidates.specs.Tried.{edges_of, HasEdgesOf, IsBetter}
use Rattle.price_candidates.proofs.Places.{some_some, none_some}
use Rattle.price_candidates.proofs.Entries.{left-entries}
use Rattle.price_candidates.proofs.Refuting.{all-append}
use Rattle.price_candidates.proofs.Points.{along, chosen-taken, Marks, chosen-along, ArePaths, paths-apart, paths-stand, paths-balance, to-right, neat-from}

abbrev pub Meets : List Bool → Row → Type 0
Meets point row = Compares row.is_equality (left_side row.entries point) row.right

all-left : {X : Type 0} (P : X → Type 0) (xs ys : List X) → AllByRecursion P (xs ++ ys) → AllByRecursion P xs
all-left P [] ys h = tt
all-left P (x ∷ xs) ys h = (h.0, all-left P xs ys h.1)

all-right : {X : Type 0} (P : X → Type 0) (xs ys : List X) → AllByRecursion P (xs ++ ys) → AllByRecursion P ys
all-right P [] ys h = h
all-right P (x ∷ xs) ys h = all-right P xs ys h.1

map-meets : (point : List Bool) (f : ℕ → Row) (us : List ℕ) → ((u : ℕ) → Meets point (f u)) → AllByRecursion (Meets point) (map f us)
map-meets point f [] h = tt
map-meets point f (u ∷ us) h = (h u, map-meets point f us h)

flows-meet : (problem : Problem) (point : List Bool) (n : ℕ) (flows : List Flow) → ((i j : ℕ) (flow : Flow) → i ≡ n + j → slice_get flows j ≡ Some flow → (u : ℕ) → chosen_from 0 (net_out i u) (variables_of problem) point ≡ flow_right flow u) →
    AllByRecursion (Meets point) (flow_rows_from problem n flows)
flows-meet problem point n [] h = tt
flows-meet problem point n (flow ∷ flows) h =
    all-append (Meets point) (map (flow_row problem n flow) (range_with_len 0 (last_of flow + 1))) (flow_rows_from problem (n + 1) flows)
    (map-meets point (flow_row problem n flow) (range_with_len 0 (last_of flow + 1)) (λ u. left-entries 0 (net_out n u) (variables_of problem) point ∙ h n 0 flow (omega arith) refl u))
    (flows-meet problem point (n + 1) flows (λ i j flow e s. h i (suc j) flow (omega arith) s))

link-left : (problem : Problem) (point : List Bool) (link : ℕ) → left_side (entries_from 0 (λ v. pos (rate_over link v)) (variables_of problem)) point ≡ pos (taken_from 0 (rate_over link) (variables_of problem) point)
link-left problem point link = left-entries 0 (λ v. pos (rate_over link v)) (variables_of problem) point ∙ chosen-taken 0 (rate_over link) (variables_of problem) point

cutoff-left : (problem : Problem) (point : List Bool) → left_side (entries_from 0 (λ v. pos (length_of problem.objective problem v)) (variables_of problem)) point ≡ pos (taken_from 0 (length_of problem.objective problem) (variables_of problem) point)
cutoff-left problem point = left-entries 0 (λ v. pos (length_of problem.objective problem v)) (variables_of problem) point ∙ chosen-taken 0 (length_of problem.objective problem) (variables_of problem) point

links-meet : (problem : Problem) (cutoff : Option Value) (point : List Bool) (n : ℕ) (links : List DirectedLink) → ((i j : ℕ) (directed : DirectedLink) → i ≡ n + j → slice_get links j ≡ Some directed → pos (taken_from 0 (rate_over i) (variables_of problem) point) ≤ℤ room problem.objective cutoff directed.capacity) →
    AllByRecursion (Meets point) (link_rows_from problem cutoff n links)
links-meet problem cutoff point n [] h = tt
links-meet problem cutoff point n (directed ∷ links) h = (
  (let l = link-left problem point n in let r = h n 0 directed (omega arith) refl in omega (arith, ints)),
  links-meet problem cutoff point (n + 1) links (λ i j w e s. h i (suc j) w (omega arith) s),
)

links-met : (problem : Problem) (cutoff : Option Value) (point : List Bool) (n : ℕ) (links : List DirectedLink) → AllByRecursion (Meets point) (link_rows_from problem cutoff n links) → (i j : ℕ) (directed : DirectedLink) → i ≡ n + j → slice_get links j ≡ Some directed → Meets point (link_row problem cutoff i directed)
links-met problem cutoff point n [] all i j directed e s = absurd (none_some s)
links-met problem cutoff point n (c ∷ links) all i zero directed e s = subst (λ x. Meets point (link_row problem cutoff x directed)) (let at : n ≡ i = omega arith in at) (subst (λ x. Meets point (link_row problem cutoff n x)) (some_some s) all.0)
links-met problem cutoff point n (c ∷ links) all i (suc j) directed e s = links-met problem cutoff point (n + 1) links all.1 i j directed (omega arith) s

-- what a solution says of a link
pub fits-link : (problem : Problem) (cutoff : Option Value) (point : List Bool) → IsSolution (program_at problem cutoff) point → (link : ℕ) (directed : DirectedLink) → slice_get problem.links link ≡ Some directed → pos (taken_from 0 (rate_over link) (variables_of problem) point) ≤ℤ room problem.objective cutoff directed.capacity
fits-link problem cutoff point solution link directed stands =
    let rows = all-right (Meets point) (flow_rows_from problem 0 problem.flows) (link_rows_from problem cutoff 0 problem.links ++ cutoff_row problem cutoff ∷ []) solution.meets in
    let links = all-left (Meets point) (link_rows_from problem cutoff 0 problem.links) (cutoff_row problem cutoff ∷ []) rows in
    let here = links-met problem cutoff point 0 problem.links links link link directed (omega arith) stands in
    let l = link-left problem point link in
    omega (arith, ints)

-- and of the lengths
pub fits-cutoff : (problem : Problem) (cutoff : Option Value) (point : List Bool) → IsSolution (program_at problem cutoff) point → pos (taken_from 0 (length_of problem.objective problem) (variables_of problem) point) ≤ℤ cutoff_right cutoff (sum_by (length_of problem.objective problem) (variables_of problem))
fits-cutoff problem cutoff point solution =
    let rows = all-right (Meets point) (flow_rows_from problem 0 problem.flows) (link_rows_from problem cutoff 0 problem.links ++ cutoff_row problem cutoff ∷ []) solution.meets in
    let last = all-right (Meets point) (link_rows_from problem cutoff 0 problem.links) (cutoff_row problem cutoff ∷ []) rows in
    let here : Meets point (cutoff_row problem cutoff) = last.0 in
    let l = cutoff-left problem point in
    omega (arith, ints)

pub marks-of : (problem : Problem) (paths : List (List ℕ)) (point : List Bool) → HasEdgesOf problem paths point → Marks (edges_of paths) point
marks-of problem paths point is = record { to = λ k e. in_from (edges_of paths) k ((is.chosen k).0 e); from = λ k i. (is.chosen k).1 (in_to (edges_of paths) k i) }

pub point-neat : (problem : Problem) (paths : List (List ℕ)) (point : List Bool) → ArePaths (variables_of problem) 0 problem.flows paths → HasEdgesOf problem paths point → IsNeat problem point
point-neat problem paths point are is =
    let marks = marks-of problem paths point is in
    neat-from problem point 0 problem.flows paths are (λ k v e l. (marks.to k, marks.from k))

-- the sums of a point of paths
pub point-sum : (problem : Problem) (paths : List (List ℕ)) (point : List Bool) (f : Variable → ℤ) → ArePaths (variables_of problem) 0 problem.flows paths → HasEdgesOf problem paths point → chosen_from 0 f (variables_of problem) point ≡ along (variables_of problem) f (edges_of paths)
point-sum problem paths point f are is =
    chosen-along f (variables_of problem) (edges_of paths) point (paths-apart (variables_of problem) 0 problem.flows paths are) (paths-stand (variables_of problem) 0 problem.flows paths are) (marks-of problem paths point is)

pub solves : (problem : Problem) (cutoff : Option Value) (paths : List (List ℕ)) (point : List Bool) → IsProblem problem → ArePaths (variables_of problem) 0 problem.flows paths → HasEdgesOf problem paths point →
    ((k : ℕ) → In k (edges_of paths) → is_chosen (program_at problem cutoff).upper k ≡ true) →
    ((link : ℕ) (directed : DirectedLink) → slice_get problem.links link ≡ Some directed → pos (taken_from 0 (rate_over link) (variables_of problem) point) ≤ℤ room problem.objective cutoff directed.capacity) →
    pos (taken_from 0 (length_of problem.objective problem) (variables_of problem) point) ≤ℤ cutoff_right cutoff (sum_by (length_of problem.objective problem) (variables_of problem)) → IsBetter problem cutoff point
solves problem cutoff paths point form are is may loads lengths = record {
  solution = record {
    size = is.size ∙ sym (length-map (variables_of problem) (may_be_one problem cutoff));
    within = λ k e. may k (marks.to k e);
    meets = all-append (Meets point) (flow_rows_from problem 0 problem.flows) (link_rows_from problem cutoff 0 problem.links ++ cutoff_row problem cutoff ∷ [])
        (flows-meet problem point 0 problem.flows (λ i j flow e s u. to-right flow u _ (ap (λ t. t +ℤ one_at (u == last_of flow)) (point-sum problem paths point (net_out i u) are is) ∙ paths-balance problem form i u 0 j problem.flows paths flow are e s)))
        (all-append (Meets point) (link_rows_from problem cutoff 0 problem.links) (cutoff_row problem cutoff ∷ [])
        (links-meet problem cutoff point 0 problem.links (λ i j directed e s. loads i directed (let at : i ≡ j = omega arith in ap (slice_get problem.links) at ∙ s)))
        ((let l = cutoff-left problem point in omega (arith, ints)), tt));
  };
  is_neat = point-neat problem paths point are is;
}
  where
    marks : Marks (edges_of paths) point
    marks = marks-of problem paths point is
