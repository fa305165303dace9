-- Looking for the widest trail of a flow.
use Rattle.std.proofs.Common.{◌≡◌, ℕ, ◌+◌, ◌*◌, ◌≤◌, ◌<◌, nat_le, Bool, true, false, List, [], ◌∷◌, map, Option, None, Some, slice_get, refl, sym, ◌∙◌, subst, arith}
use Rattle.std.proofs.lemmas.Bool.{ltb-true, leb-true, leb-false}
use Rattle.std.specs.List.{AllByRecursion}
use Rattle.merlin_model.specs.Assignments.{ratio_lt}
use Rattle.cutoff_program.specs.Flows.{variables_of, last_of}
use Rattle.cutoff_program.specs.declared.flow.Flow.{Flow}
use Rattle.cutoff_program.specs.declared.flow.Problem.{Problem}
use Rattle.cutoff_program.specs.declared.flow.Variable.{Variable}
use Rattle.cutoff_program.specs.Limits.{IsProblem}
use Rattle.cutoff_program.specs.Easy.{IsTrailThrough, MayAt}
use Rattle.cutoff_program.proofs.Lists.{all_so, all_map, map_all, all_any}
use Rattle.cutoff_program.proofs.Places.{get-in}
use Rattle.cutoff_program.proofs.Points.{IsOf, trail-of}
use Rattle.program_walks.specs.declared.crossing.TheConstants.{UNCROSSED}
use Rattle.program_walks.specs.declared.paths.LeastPath.{LeastPath}
use Rattle.program_walks.specs.Bounds.{share_by_number, greatest_share, IsLeastShare, IsWithoutTrail}
use Rattle.program_walks.specs.Widths.{wide_point, IsWideAt, IsShareAtWidth, HasNoTrailAtWidth, IsShareIf}
use Rattle.program_walks.specs.Paths.{IsChosenIn, IsLeastPath}
use Rattle.program_walks.proofs.Ratios.{IsAtMost, most-through, greatest-within, greatest-bounds}
use Rattle.program_walks.proofs.Turning.{flow-at}
use Rattle.program_walks.proofs.Widening.{width_of, width-most, wide-may, wide-width, may-wide, share-at, share-positive, wider-share}

both-all : {X : Type 0} (P Q : X → Type 0) (xs : List X) → AllByRecursion P xs → AllByRecursion Q xs → AllByRecursion (λ x. P x × Q x) xs
both-all P Q [] a b = tt
both-all P Q (x ∷ xs) a b = ((a.0, b.0), both-all P Q xs a.1 b.1)

pub shares-positive : (problem : Problem) → IsProblem problem → (ks : List ℕ) → AllByRecursion (λ r. 0 < r.1) (map (share_by_number problem) ks)
shares-positive problem is ks = all_map (λ r. 0 < r.1) (share_by_number problem) ks (all_any (λ k. 0 < (share_by_number problem k).1) ks (share-positive problem is))

-- none of its shares is greater than the greatest
pub shares-most : (problem : Problem) → IsProblem problem → (ks : List ℕ) → AllByRecursion (λ k. IsAtMost (share_by_number problem k) (greatest_share problem ks)) ks
shares-most problem is ks = map_all (λ r. IsAtMost r (greatest_share problem ks)) (share_by_number problem) ks (greatest-bounds (map (share_by_number problem) ks) (shares-positive problem is ks))

-- the widest trail is at least so wide, as one is of which the share is known, and less wide than that
pub record IsNarrowed (problem : Problem) (n : ℕ) (flow : Flow) (low high : ℕ) (share : ℕ × ℕ) : Type 0 where
  pub found : IsShareAtWidth problem n flow low share
  pub none : HasNoTrailAtWidth problem n flow high

module _ (problem : Problem) (is : IsProblem problem) (n : ℕ) (flow : Flow) where
  -- what is wide may be taken, and what may be taken is at least 0 wide
  pub wide-through : (width : ℕ) (trail : List ℕ) → IsTrailThrough problem (IsWideAt problem width) n flow trail → IsTrailThrough problem (MayAt problem None) n flow trail
  wide-through width trail t = record {
    steps = t.steps;
    allowed = all_so (λ k. IsOf (variables_of problem) n k × IsWideAt problem width k) (MayAt problem None) trail (λ k h. wide-may problem k h.0.0 h.0.1 width h.1)
        (both-all (IsOf (variables_of problem) n) (IsWideAt problem width) trail (trail-of (variables_of problem) n trail 0 (last_of flow) t.steps) t.allowed);
  }

  pub through-wide : (trail : List ℕ) → IsTrailThrough problem (MayAt problem None) n flow trail → IsTrailThrough problem (IsWideAt problem 0) n flow trail
  through-wide trail t = record {
    steps = t.steps;
    allowed = all_so (λ k. IsOf (variables_of problem) n k × MayAt problem None k) (IsWideAt problem 0) trail (λ k h. may-wide problem k h.0.0 h.0.1 0 h.1 (omega arith))
        (both-all (IsOf (variables_of problem) n) (MayAt problem None) trail (trail-of (variables_of problem) n trail 0 (last_of flow) t.steps) t.allowed);
  }

  pub narrow-none : HasNoTrailAtWidth problem n flow 0 → IsWithoutTrail problem n flow
  narrow-none none trail t = none trail (through-wide trail t)

  -- no trail is wider than an edge that crosses no link
  pub none-wider : (high : ℕ) → high ≡ UNCROSSED + 1 → HasNoTrailAtWidth problem n flow high
  none-wider high at [] t = let s = t.steps in let bad : ⊥ = omega (arith, s) in bad
  none-wider high at (k ∷ ks) t =
      let h = wide-width problem k t.steps.0 t.steps.1 high t.allowed.0 in
      let m = width-most problem t.steps.0 is in
      let bad : ⊥ = omega (arith, h, m, at) in bad

  module _ (stands : slice_get problem.flows n ≡ Some flow) where
    rate-is : (k : ℕ) (v : Variable) → slice_get (variables_of problem) k ≡ Some v → v.flow ≡ n → v.rate ≡ flow.rate
    rate-is k v e f = ((flow-at problem n flow stands).only v (get-in (variables_of problem) k v e) f).1

    -- where the width is found, its share is least
    pub widest-least : (low high : ℕ) (share : ℕ × ℕ) → IsNarrowed problem n flow low high share → high ≤ low + 1 → IsLeastShare problem n flow share
    widest-least low high share h last = record {
      trail = h.found.trail;
      through = wide-through low h.found.trail h.found.through;
      reached = h.found.reached;
      no_less = λ other t. at other t (ratio_lt (greatest_share problem other) share) refl;
    }
      where
        -- no share of the trail that was found is greater than that of a variable that is less wide
        below : (k : ℕ) (v : Variable) → slice_get (variables_of problem) k ≡ Some v → v.flow ≡ n → width_of problem v < high → IsAtMost share (share_by_number problem k)
        below k v e f narrow =
            subst (λ s. IsAtMost s (share_by_number problem k)) h.found.reached
            (greatest-within (share_by_number problem k) (map (share_by_number problem) h.found.trail)
            (all_map (λ r. IsAtMost r (share_by_number problem k)) (share_by_number problem) h.found.trail
            (all_so (λ j. IsOf (variables_of problem) n j × IsWideAt problem low j) (λ j. IsAtMost (share_by_number problem j) (share_by_number problem k)) h.found.trail
            (λ j g.
            let wide = wide-width problem j g.0.0 g.0.1 low g.1 in
            let order : width_of problem v ≤ width_of problem g.0.0 = omega (arith, wide, narrow, last) in
            let most = wider-share problem v g.0.0 is (rate-is j g.0.0 g.0.1 g.0.2 ∙ sym (rate-is k v e f)) order in
            subst (λ s. IsAtMost s (share_by_number problem k)) (sym (share-at problem j g.0.0 g.0.1)) (subst (IsAtMost _) (sym (share-at problem k v e)) most))
            (both-all (IsOf (variables_of problem) n) (IsWideAt problem low) h.found.trail (trail-of (variables_of problem) n h.found.trail 0 (last_of flow) h.found.through.steps) h.found.through.allowed))))

        at : (other : List ℕ) → IsTrailThrough problem (MayAt problem None) n flow other → (b : Bool) → ratio_lt (greatest_share problem other) share ≡ b → b ≡ false
        at other t false e = refl
        at other t true e = absurd (h.none other (record {
          steps = t.steps;
          allowed = all_so (λ k. (IsOf (variables_of problem) n k × MayAt problem None k) × IsAtMost (share_by_number problem k) (greatest_share problem other)) (IsWideAt problem high) other
              (λ k g. wide k g.0.0.0 g.0.0.1 g.0.0.2 g.0.1 g.1 (nat_le high (width_of problem g.0.0.0)) refl)
              (both-all (λ k. IsOf (variables_of problem) n k × MayAt problem None k) (λ k. IsAtMost (share_by_number problem k) (greatest_share problem other)) other
              (both-all (IsOf (variables_of problem) n) (MayAt problem None) other (trail-of (variables_of problem) n other 0 (last_of flow) t.steps) t.allowed)
              (shares-most problem is other));
        }))
          where
            clash : IsAtMost share (greatest_share problem other) → ⊥
            clash m = contrary _ _ m (ltb-true ((greatest_share problem other).0 * share.1) (share.0 * (greatest_share problem other).1) e)
              where
                contrary : (m n : ℕ) → m ≤ n → n < m → ⊥
                contrary m n h g = omega arith

            wide : (k : ℕ) (v : Variable) → slice_get (variables_of problem) k ≡ Some v → v.flow ≡ n → MayAt problem None k → IsAtMost (share_by_number problem k) (greatest_share problem other) → (b : Bool) → nat_le high (width_of problem v) ≡ b → IsWideAt problem high k
            wide k v s f may m true x = may-wide problem k v s high may (leb-true high (width_of problem v) x)
            wide k v s f may m false x =
                absurd (clash (most-through share (share_by_number problem k) (greatest_share problem other) (below k v s f (leb-false high (width_of problem v) x)) m (share-positive problem is k)))

-- The steps of the search.

module _ (problem : Problem) (n : ℕ) (flow : Flow) where
  pub narrowed-first : (high : ℕ) (found : Option (ℕ × ℕ)) (share : ℕ × ℕ) → IsProblem problem → high ≡ UNCROSSED + 1 → IsShareIf problem n flow 0 found → found ≡ Some share → IsNarrowed problem n flow 0 high share
  narrowed-first high found share is e h s = record { found = subst (IsShareIf problem n flow 0) s h; none = none-wider problem is n flow high e }

  pub narrowed-low : (low high middle : ℕ) (found : Option (ℕ × ℕ)) (old share : ℕ × ℕ) → IsNarrowed problem n flow low high old → IsShareIf problem n flow middle found → found ≡ Some share → IsNarrowed problem n flow middle high share
  narrowed-low low high middle found old share t h s = record { found = subst (IsShareIf problem n flow middle) s h; none = t.none }

  pub narrowed-high : (low high middle : ℕ) (found : Option (ℕ × ℕ)) (share : ℕ × ℕ) → IsNarrowed problem n flow low high share → IsShareIf problem n flow middle found → found ≡ None → IsNarrowed problem n flow low middle share
  narrowed-high low high middle found share t h s = record { found = t.found; none = subst (IsShareIf problem n flow middle) s h }

  pub without-trail : (found : Option (ℕ × ℕ)) → IsProblem problem → IsShareIf problem n flow 0 found → found ≡ None → IsWithoutTrail problem n flow
  without-trail found is h s = narrow-none problem is n flow (subst (IsShareIf problem n flow 0) s h)

-- What the search for a path finds.

pub path-share : (problem : Problem) (n : ℕ) (flow : Flow) (width : ℕ) (point : List Bool) (found : LeastPath) (share : ℕ × ℕ) → point ≡ wide_point problem width → IsLeastPath problem point n flow found → share ≡ greatest_share problem found.path → IsShareAtWidth problem n flow width share
path-share problem n flow width point found share e l s = record {
  trail = found.path;
  through = record { steps = l.is_path.steps; allowed = subst (λ p. AllByRecursion (IsChosenIn p) found.path) e l.chosen };
  reached = sym s;
}

pub no-path : (problem : Problem) (n : ℕ) (flow : Flow) (width : ℕ) (point : List Bool) → point ≡ wide_point problem width → ((trail : List ℕ) → ¬ IsTrailThrough problem (IsChosenIn point) n flow trail) → HasNoTrailAtWidth problem n flow width
no-path problem n flow width point e none trail t = none trail (record { steps = t.steps; allowed = subst (λ p. AllByRecursion (IsChosenIn p) trail) (sym e) t.allowed })
