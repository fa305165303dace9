-- Numbers at vertices from least sums, and how great they get.
use Rattle.std.proofs.Common.{◌≡◌, ◌≢◌, ℕ, zero, suc, ◌+◌, ◌*◌, ◌≤◌, ◌<◌, nat_eq, min, inl, inr, Bool, true, false, pos, List, [], ◌∷◌, ◌++◌, length, replicate, Option, None, Some, slice_get, slice_set, length-set, get_or-set_same, get_or-set_other, refl, sym, ◌∙◌, ap, arith}
use Rattle.std.proofs.lemmas.Int.{ints, clamps}
use Rattle.std.proofs.lemmas.List.{length-replicate}
use Rattle.std.proofs.lemmas.Option.{slice_get_within}
use Rattle.std.specs.List.{AllByRecursion}
use Rattle.merlin_model.specs.declared.policy.Value.{Value}
use Rattle.merlin_model.specs.Programs.{is_chosen}
use Rattle.merlin_model.proofs.Members.{In, in_from, in_to}
use Rattle.cutoff_program.specs.declared.flow.Problem.{Problem}
use Rattle.cutoff_program.specs.declared.flow.Flow.{Flow}
use Rattle.cutoff_program.specs.declared.flow.Variable.{Variable}
use Rattle.cutoff_program.specs.Flows.{variables_of, last_of, count_if, taken_from}
use Rattle.cutoff_program.specs.Trails.{plus_term, IsTrailOf, sum_along, IsPath}
use Rattle.cutoff_program.specs.Easy.{MayIn}
use Rattle.price_candidates.specs.Tried.{SpreadsCosts, capped, missing, IsCapped, IsReached, IsUnreached, AreLeastSums, point_with, edges_of, HasEdgesOf}
use Rattle.price_candidates.proofs.Following.{sum-cons}
use Rattle.price_candidates.proofs.Places.{false-true}
use Rattle.price_candidates.proofs.Points.{along-sum, chosen-taken, Marks, Stands, chosen-along, path-apart, trail-at, all-from, ArePaths, later}

capped-low : (most : ℕ) (o : Option ℕ) → capped most o ≤ most
capped-low most None = omega arith
capped-low most (Some d) = grind (arith, clamps)

pub spread-capped : (problem : Problem) (cutoff : Option Value) (box : List (Option Bool)) (n : ℕ) (flow : Flow) (f : Variable → ℕ) (most : ℕ) (distance : ℕ → Option ℕ) → SpreadsCosts problem cutoff box n f distance → distance (last_of flow) ≡ Some most →
    IsCapped problem cutoff box n flow f most (λ u. capped most (distance u))
spread-capped problem cutoff box n flow f most distance is last = record {
  potential = record { start = ap (capped most) is.start ∙ zero_at; rises = λ k v e s may. by v (distance v.edge.from) refl (is.spreads k v e s may) };
  last = ap (capped most) last ∙ itself;
  low = λ u. capped-low most (distance u);
}
  where
    zero_at : capped most (Some 0) ≡ 0
    zero_at = grind (arith, clamps)

    itself : capped most (Some most) ≡ most
    itself = grind (arith, clamps)

    by : (v : Variable) (o : Option ℕ) → distance v.edge.from ≡ o → ((a : ℕ) → distance v.edge.from ≡ Some a → (b : ℕ) × (distance v.edge.to ≡ Some b) × (b ≤ a + f v)) → capped most (distance v.edge.to) ≤ capped most o + f v
    by v None e h = let l = capped-low most (distance v.edge.to) in omega arith
    by v (Some a) e h =
        let r = h a e in
        let c : capped most (distance v.edge.to) ≡ min r.0 most = ap (capped most) r.1 in
        let l = r.2 in
        grind (arith, clamps)

pub spread-missing : (problem : Problem) (cutoff : Option Value) (box : List (Option Bool)) (n : ℕ) (flow : Flow) (f : Variable → ℕ) (distance : ℕ → Option ℕ) → SpreadsCosts problem cutoff box n f distance → distance (last_of flow) ≡ None →
    IsUnreached problem cutoff box n flow (λ u. missing (distance u))
spread-missing problem cutoff box n flow f distance is last = record {
  potential = record { start = ap missing is.start; rises = λ k v e s may. by v (distance v.edge.from) refl (is.spreads k v e s may) };
  low = λ u. low (distance u);
  last = ap missing last;
}
  where
    low : (o : Option ℕ) → missing o ≤ 1
    low None = omega arith
    low (Some d) = omega arith

    by : (v : Variable) (o : Option ℕ) → distance v.edge.from ≡ o → ((a : ℕ) → distance v.edge.from ≡ Some a → (b : ℕ) × (distance v.edge.to ≡ Some b) × (b ≤ a + f v)) → missing (distance v.edge.to) ≤ missing o + 0
    by v None e h = let l = low (distance v.edge.to) in omega arith
    by v (Some a) e h = let r = h a e in let c = ap missing r.1 in omega arith

-- The point that chooses some variables.

marked-size : (n : ℕ) (ks : List ℕ) → length (point_with n ks) ≡ n
marked-size n [] = length-replicate n false
marked-size n (k ∷ ks) = length-set (point_with n ks) k true ∙ marked-size n ks

none-in : (n k : ℕ) → is_chosen (replicate n false) k ≡ false
none-in zero k = refl
none-in (suc n) zero = refl
none-in (suc n) (suc k) = none-in n k

pub marked-marks : (n : ℕ) (ks : List ℕ) → AllByRecursion (λ k. k < n) ks → Marks ks (point_with n ks)
marked-marks n [] low = record { to = λ k e. absurd (false-true (sym (none-in n k) ∙ e)); from = λ k i. absurd i }
marked-marks n (k ∷ ks) low = let rest = marked-marks n ks low.1 in record {
  to = λ j e. to rest j e (nat_eq j k) refl;
  from = λ j i. from rest j i (nat_eq j k) refl;
}
  where
    within : k < length (point_with n ks)
    within = let s = marked-size n ks in let l = low.0 in omega arith

    to : Marks ks (point_with n ks) → (j : ℕ) → is_chosen (slice_set (point_with n ks) k true) j ≡ true → (b : Bool) → nat_eq j k ≡ b → In j (k ∷ ks)
    to rest j e true s = inl (grind arith)
    to rest j e false s = let other : j ≢ k = grind arith in inr (rest.to j (sym (get_or-set_other (point_with n ks) k j true false other) ∙ e))

    from : Marks ks (point_with n ks) → (j : ℕ) → In j (k ∷ ks) → (b : Bool) → nat_eq j k ≡ b → is_chosen (slice_set (point_with n ks) k true) j ≡ true
    from rest j i true s = let at : j ≡ k = grind arith in ap (is_chosen (slice_set (point_with n ks) k true)) at ∙ get_or-set_same (point_with n ks) k true false within
    from rest j (inl e) false s = let other : j ≢ k = grind arith in absurd (other e)
    from rest j (inr i) false s = let other : j ≢ k = grind arith in get_or-set_other (point_with n ks) k j true false other ∙ rest.from j i

-- A path's sum is no more than the greatest term for each variable.

taken-most : (n : ℕ) (f : Variable → ℕ) (m : ℕ) (vs : List Variable) (point : List Bool) → ((j : ℕ) (v : Variable) → slice_get vs j ≡ Some v → f v ≤ m) → taken_from n f vs point ≤ length vs * m
taken-most n f m [] point h = omega arith
taken-most n f m (v ∷ vs) point h =
    let ih = taken-most (n + 1) f m vs point (λ j w e. h (suc j) w e) in
    let here = h 0 v refl in
    let c = part (is_chosen point n) in
    let p : suc (length vs) * m ≡ m + length vs * m = omega arith in
    omega arith
  where
    part : (b : Bool) → count_if b (f v) ≤ f v
    part true = omega arith
    part false = omega arith

pub path-small : (vs : List Variable) (f : Variable → ℕ) (m n : ℕ) (path : List ℕ) (a b : ℕ) → ((j : ℕ) (v : Variable) → slice_get vs j ≡ Some v → f v ≤ m) → IsPath vs n path a b → sum_along vs f path ≤ length vs * m
path-small vs f m n path a b h is =
    let t = taken-most 0 f m vs (point_with (length vs) path) h in
    let low = all-from (λ k. k < length vs) path (λ k i. let s = trail-at vs n path a b k is.steps i in slice_get_within vs k s.0 s.1) in
    let stand = all-from (Stands vs) path (λ k i. let s = trail-at vs n path a b k is.steps i in (s.0, s.1)) in
    let c = chosen-along (λ v. pos (f v)) vs path (point_with (length vs) path) (path-apart vs n path a b is.steps is.simple.1) stand (marked-marks (length vs) path low) in
    let d = chosen-taken 0 f vs (point_with (length vs) path) in
    let e = along-sum vs f path in
    let same : sum_along vs f path ≡ taken_from 0 f vs (point_with (length vs) path) = omega (arith, ints) in
    omega arith

-- The point of paths.
pub paths-marked : (problem : Problem) (paths : List (List ℕ)) → ArePaths (variables_of problem) 0 problem.flows paths → HasEdgesOf problem paths (point_with (length (variables_of problem)) (edges_of paths))
paths-marked problem paths are =
    let low = all-from (λ k. k < length (variables_of problem)) (edges_of paths) (λ k i. let s = later (variables_of problem) 0 problem.flows paths k are i in slice_get_within (variables_of problem) k s.0 s.1) in
    let m = marked-marks (length (variables_of problem)) (edges_of paths) low in
    record { size = marked-size (length (variables_of problem)) (edges_of paths); chosen = λ k. (λ e. in_to (edges_of paths) k (m.to k e), λ c. m.from k (in_from (edges_of paths) k c)) }

-- From the least sums of trails.

trail-append : (vs : List Variable) (n : ℕ) (ks : List ℕ) (a b k : ℕ) (v : Variable) → IsTrailOf vs n ks a b → slice_get vs k ≡ Some v → v.flow ≡ n → v.edge.from ≡ b → IsTrailOf vs n (ks ++ k ∷ []) a v.edge.to
trail-append vs n [] a b k v steps e f g = (v, e, f, g ∙ sym steps, refl)
trail-append vs n (j ∷ ks) a b k v steps e f g = (steps.0, steps.1, steps.2, steps.3, trail-append vs n ks steps.0.edge.to b k v steps.4 e f g)

sum-append : (vs : List Variable) (f : Variable → ℕ) (ks : List ℕ) (k : ℕ) (v : Variable) → slice_get vs k ≡ Some v → sum_along vs f (ks ++ k ∷ []) ≡ sum_along vs f ks + f v
sum-append vs f [] k v e = let c = sum-cons vs f k [] v e in omega arith
sum-append vs f (j ∷ ks) k v e = by (slice_get vs j) (sum-append vs f ks k v e)
  where
    by : (o : Option Variable) → sum_along vs f (ks ++ k ∷ []) ≡ sum_along vs f ks + f v → plus_term f o (sum_along vs f (ks ++ k ∷ [])) ≡ plus_term f o (sum_along vs f ks) + f v
    by None ih = ih
    by (Some w) ih = omega arith

may-append : (P : ℕ → Type 0) (ks : List ℕ) (k : ℕ) → AllByRecursion P ks → P k → AllByRecursion P (ks ++ k ∷ [])
may-append P [] k all h = (h, tt)
may-append P (j ∷ ks) k all h = (all.0, may-append P ks k all.1 h)

least-spread : (problem : Problem) (cutoff : Option Value) (box : List (Option Bool)) (n : ℕ) (f : Variable → ℕ) (distance : ℕ → Option ℕ) → AreLeastSums problem cutoff box n f distance → SpreadsCosts problem cutoff box n f distance
least-spread problem cutoff box n f distance are = record {
  start = let l = are.least 0 [] refl tt in let z : l.0 ≡ 0 = let h = l.2 in omega arith in l.1 ∙ ap (λ d. Some d) z;
  spreads = λ k v e s may a d.
      let r = are.reached v.edge.from a d in
      let l = are.least v.edge.to (r.0 ++ k ∷ []) (trail-append (variables_of problem) n r.0 0 v.edge.from k v r.1 e s refl) (may-append (MayIn problem cutoff box) r.0 k r.2 may) in
      let c = sum-append (variables_of problem) f r.0 k v e in
      let t = r.3 in
      let h = l.2 in
      (l.0, l.1, (omega arith));
}

pub least-reached : (problem : Problem) (cutoff : Option Value) (box : List (Option Bool)) (n : ℕ) (flow : Flow) (f : Variable → ℕ) (most : ℕ) (distance : ℕ → Option ℕ) → AreLeastSums problem cutoff box n f distance → distance (last_of flow) ≡ Some most →
    IsReached problem cutoff box n flow f (λ u. capped most (distance u))
least-reached problem cutoff box n flow f most distance are last =
    let c = spread-capped problem cutoff box n flow f most distance (least-spread problem cutoff box n f distance are) last in
    let r = are.reached (last_of flow) most last in
    record { potential = c.potential; trail = r.0; through = record { steps = r.1; allowed = r.2 }; reached = r.3 ∙ sym c.last }

pub least-unreached : (problem : Problem) (cutoff : Option Value) (box : List (Option Bool)) (n : ℕ) (flow : Flow) (f : Variable → ℕ) (distance : ℕ → Option ℕ) → AreLeastSums problem cutoff box n f distance → distance (last_of flow) ≡ None →
    IsUnreached problem cutoff box n flow (λ u. missing (distance u))
least-unreached problem cutoff box n flow f distance are last = spread-missing problem cutoff box n flow f distance (least-spread problem cutoff box n f distance are) last
