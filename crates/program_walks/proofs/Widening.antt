-- How wide variables are, and what their shares are.
use Rattle.std.proofs.Common.{◌≡◌, ℕ, ◌*◌, ◌≤◌, ◌<◌, nat_le, int_le, pos, Bool, true, false, map, Option, None, Some, slice_get, refl, sym, ◌∙◌, ap, subst, arith}
use Rattle.std.proofs.lemmas.Int.{ints}
use Rattle.std.proofs.lemmas.Bool.{leb-true, le-leb}
use Rattle.std.proofs.Math.Nat.{mul-le-mul_left}
use Rattle.std.specs.Option.{option_map_or}
use Rattle.merlin_model.specs.declared.network.DirectedLink.{DirectedLink}
use Rattle.merlin_model.specs.declared.policy.Objective.{Objective}
use Rattle.merlin_model.specs.declared.policy.Objective.TheVariants as objective
use Rattle.merlin_model.specs.Programs.{is_chosen}
use Rattle.merlin_model.proofs.Fitting.{and-first, and-second, and-both}
use Rattle.cutoff_program.specs.Flows.{variables_of, fits_over, fits_on, may_be_one}
use Rattle.cutoff_program.specs.declared.flow.Problem.{Problem}
use Rattle.cutoff_program.specs.declared.flow.Variable.{Variable}
use Rattle.cutoff_program.specs.Limits.{IsLinkWithin, IsProblem}
use Rattle.cutoff_program.specs.Easy.{MayAt}
use Rattle.cutoff_program.proofs.Lists.{none_some, map-at}
use Rattle.cutoff_program.proofs.Following.{each-at}
use Rattle.cutoff_program.proofs.Rooms.{room-none}
use Rattle.program_walks.specs.declared.crossing.TheConstants.{UNCROSSED}
use Rattle.program_walks.specs.Bounds.{link_crossed, share_on_link, share_of_variable, share_by_number}
use Rattle.program_walks.specs.Widths.{has_width, is_so_wide, IsWideAt}
use Rattle.program_walks.proofs.Ratios.{IsAtMost, none-most}

pub crossed-within : (problem : Problem) → IsProblem problem → (c : Option ℕ) (link : DirectedLink) → link_crossed problem c ≡ Some link → IsLinkWithin link
crossed-within problem is None link e = absurd (none_some e)
crossed-within problem is (Some l) link e = each-at IsLinkWithin problem.links l link is.links e

-- Widths.

abbrev pub width_over : Option DirectedLink → ℕ
width_over None = UNCROSSED
width_over (Some link) = link.capacity

abbrev pub width_of : Problem → Variable → ℕ
width_of problem v = width_over (link_crossed problem v.edge.crosses)

abbrev AreWithin : Option DirectedLink → Type 0
AreWithin l = (link : DirectedLink) → l ≡ Some link → IsLinkWithin link

over-most : (l : Option DirectedLink) → AreWithin l → width_over l ≤ UNCROSSED
over-most None h = omega arith
over-most (Some link) h = let s = (h link refl).small in omega (arith, s)

pub width-most : (problem : Problem) (v : Variable) → IsProblem problem → width_of problem v ≤ UNCROSSED
width-most problem v is = over-most (link_crossed problem v.edge.crosses) (crossed-within problem is v.edge.crosses)

has-wide : (width rate : ℕ) (l : Option DirectedLink) → has_width width rate l ≡ true → width ≤ width_over l
has-wide width rate None e = leb-true width UNCROSSED e
has-wide width rate (Some link) e = leb-true width link.capacity (and-second (nat_le rate link.capacity) (nat_le width link.capacity) e)

pub fits-true : (r c : ℕ) → r ≤ c → int_le (pos r) (pos c) ≡ true
fits-true r c h = grind (arith, ints)

true-fits : (r c : ℕ) → int_le (pos r) (pos c) ≡ true → r ≤ c
true-fits r c e = grind (arith, ints)

has-fits : (o : Objective) (width rate : ℕ) (l : Option DirectedLink) → has_width width rate l ≡ true → fits_over o None rate l ≡ true
has-fits o width rate None e = refl
has-fits o width rate (Some link) e =
    ap (int_le (pos rate)) (room-none o link.capacity) ∙ fits-true rate link.capacity (leb-true rate link.capacity (and-first (nat_le rate link.capacity) (nat_le width link.capacity) e))

fits-has : (o : Objective) (width rate : ℕ) (l : Option DirectedLink) → fits_over o None rate l ≡ true → width ≤ width_over l → has_width width rate l ≡ true
fits-has o width rate None e h = le-leb width UNCROSSED h
fits-has o width rate (Some link) e h =
    and-both (nat_le rate link.capacity) (nat_le width link.capacity) (le-leb rate link.capacity (true-fits rate link.capacity (ap (int_le (pos rate)) (sym (room-none o link.capacity)) ∙ e))) (le-leb width link.capacity h)

pub fits-crossed : (problem : Problem) (rate : ℕ) (c : Option ℕ) → fits_on problem None rate c ≡ fits_over problem.objective None rate (link_crossed problem c)
fits-crossed problem rate None = refl
fits-crossed problem rate (Some l) = refl

module _ (problem : Problem) (k : ℕ) (v : Variable) (e : slice_get (variables_of problem) k ≡ Some v) where
  pub may-at : (w : Bool) → may_be_one problem None v ≡ w → is_chosen (map (may_be_one problem None) (variables_of problem)) k ≡ w
  may-at w m = map-at (may_be_one problem None) (variables_of problem) k v false e ∙ m

  pub wide-may : (width : ℕ) → IsWideAt problem width k → MayAt problem None k
  wide-may width h =
      may-at true (fits-crossed problem v.rate v.edge.crosses ∙ has-fits problem.objective width v.rate (link_crossed problem v.edge.crosses) (sym (map-at (is_so_wide problem width) (variables_of problem) k v false e) ∙ h))

  pub wide-width : (width : ℕ) → IsWideAt problem width k → width ≤ width_of problem v
  wide-width width h = has-wide width v.rate (link_crossed problem v.edge.crosses) (sym (map-at (is_so_wide problem width) (variables_of problem) k v false e) ∙ h)

  pub may-wide : (width : ℕ) → MayAt problem None k → width ≤ width_of problem v → IsWideAt problem width k
  may-wide width may h =
      map-at (is_so_wide problem width) (variables_of problem) k v false e
      ∙ fits-has problem.objective width v.rate (link_crossed problem v.edge.crosses) (sym (fits-crossed problem v.rate v.edge.crosses) ∙ sym (map-at (may_be_one problem None) (variables_of problem) k v false e) ∙ may) h

  pub share-at : share_by_number problem k ≡ share_of_variable problem v
  share-at = ap (λ o. option_map_or (share_of_variable problem) o (0, 1)) e

-- Shares.

positive-on : (o : Objective) (rate : ℕ) (l : Option DirectedLink) → AreWithin l → 0 < (share_on_link o rate l).1
positive-on objective.Ratio rate (Some link) h = (h link refl).positive
positive-on objective.Reserved rate (Some link) h = omega arith
positive-on objective.Shortest rate (Some link) h = omega arith
positive-on objective.Ratio rate None h = omega arith
positive-on objective.Reserved rate None h = omega arith
positive-on objective.Shortest rate None h = omega arith

pub share-positive : (problem : Problem) → IsProblem problem → (k : ℕ) → 0 < (share_by_number problem k).1
share-positive problem is k = by (slice_get (variables_of problem) k)
  where
    by : (o : Option Variable) → 0 < (option_map_or (share_of_variable problem) o (0, 1)).1
    by None = omega arith
    by (Some v) = positive-on problem.objective v.rate (link_crossed problem v.edge.crosses) (crossed-within problem is v.edge.crosses)

-- of two edges with one rate the wider has the lesser share
wider-on : (o : Objective) (rate : ℕ) (a b : Option DirectedLink) → AreWithin b → width_over a ≤ width_over b → IsAtMost (share_on_link o rate b) (share_on_link o rate a)
wider-on objective.Ratio rate (Some a) (Some b) h g = mul-le-mul_left rate g
wider-on objective.Reserved rate (Some a) (Some b) h g = plain (rate * 1)
  where
    plain : (n : ℕ) → n ≤ n
    plain n = omega arith
wider-on objective.Ratio rate None (Some b) h g = let s = (h b refl).small in let bad : ⊥ = omega (arith, s, g) in absurd bad
wider-on objective.Reserved rate None (Some b) h g = let s = (h b refl).small in let bad : ⊥ = omega (arith, s, g) in absurd bad
wider-on objective.Ratio rate (Some a) None h g = none-most (rate, a.capacity)
wider-on objective.Reserved rate (Some a) None h g = none-most (rate, 1)
wider-on objective.Ratio rate None None h g = none-most (0, 1)
wider-on objective.Reserved rate None None h g = none-most (0, 1)
wider-on objective.Shortest rate (Some a) (Some b) h g = none-most (0, 1)
wider-on objective.Shortest rate (Some a) None h g = none-most (0, 1)
wider-on objective.Shortest rate None (Some b) h g = none-most (0, 1)
wider-on objective.Shortest rate None None h g = none-most (0, 1)

pub wider-share : (problem : Problem) (v w : Variable) → IsProblem problem → w.rate ≡ v.rate → width_of problem v ≤ width_of problem w → IsAtMost (share_of_variable problem w) (share_of_variable problem v)
wider-share problem v w is same h =
    subst (λ r. IsAtMost (share_on_link problem.objective r (link_crossed problem w.edge.crosses)) (share_of_variable problem v)) (sym same)
    (wider-on problem.objective v.rate (link_crossed problem v.edge.crosses) (link_crossed problem w.edge.crosses) (crossed-within problem is w.edge.crosses) h)
