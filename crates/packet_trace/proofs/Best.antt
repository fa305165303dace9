-- The best of the rules before a place, place by place.
use Rattle.std.proofs.Common.{◌≡◌, ℕ, ◌+◌, ◌≤◌, ◌<◌, Bool, true, false, ◌&&◌, nat_lt, List, length, Option, None, Some, slice_get, refl, sym, ◌∙◌, ap, subst, arith, below_more}
use Rattle.std.proofs.lemmas.Option.{slice_get_within}
use Rattle.merlin_model.specs.declared.config.Rule.{Rule}
use Rattle.merlin_model.specs.Machine.{Frame, is_for, acting_rule, ActsAt}
use Rattle.merlin_model.proofs.ActsAt.{acts}
use Rattle.merlin_model.proofs.Traces.{Some-inj}
use Rattle.packet_trace.specs.Fitting.{NoneFits, IsBestBelow, beats}

false-true : false ≡ true → ⊥
false-true e = cc

not_above : (a b : ℕ) (s : Bool) → nat_lt a b ≡ s → (s && true) ≡ false → b ≤ a
not_above a b true e h = absurd (false-true (sym h))
not_above a b false e h = grind arith

module _ (rules : List Rule) (f : Frame) where
  -- what holds of each rule before a place, and of the rule at it, holds of each before the next
  more : (P : Rule → Type 0) (place : ℕ) (x : Rule) → slice_get rules place ≡ Some x → P x →
      ((j : ℕ) → j < place → (q : Rule) → slice_get rules j ≡ Some q → P q) →
      (j : ℕ) → j < place + 1 → (q : Rule) → slice_get rules j ≡ Some q → P q
  more P place x at here before = below_more (λ j. (q : Rule) → slice_get rules j ≡ Some q → P q) place before (λ q e. subst P (Some-inj (sym at ∙ e)) here)

  -- a rule that fits and comes before the best takes its place
  pub taken : (place : ℕ) (best : Option (ℕ × ℕ)) (x : Rule) → slice_get rules place ≡ Some x → beats best x.priority ≡ true → is_for f x ≡ true →
      IsBestBelow rules f place best → IsBestBelow rules f (place + 1) (Some (place, x.priority))
  taken place None x at wins fits none = (
    x,
    record {
      below = omega arith;
      stands = at;
      fits = fits;
      highest = more (λ q. is_for f q ≡ true → q.priority ≤ x.priority) place x at (λ _. omega arith) (λ j lt q e fq. absurd (false-true (sym (none j lt q e) ∙ fq)));
      first = λ j lt q e fq. absurd (false-true (sym (none j lt q e) ∙ fq));
    },
    refl,
  )
  taken place (Some best) x at wins fits (r, here, priority) =
      let above : r.priority < x.priority = grind arith in (
        x,
        record {
          below = omega arith;
          stands = at;
          fits = fits;
          highest = more (λ q. is_for f q ≡ true → q.priority ≤ x.priority) place x at (λ _. omega arith) (λ j lt q e fq. let h = here.highest j lt q e fq in omega arith);
          first = λ j lt q e fq. let h = here.highest j lt q e fq in omega arith;
        },
        refl,
      )

  -- any other rule leaves the best as it is
  pub kept : (place : ℕ) (best : Option (ℕ × ℕ)) (x : Rule) → slice_get rules place ≡ Some x → (beats best x.priority && is_for f x) ≡ false →
      IsBestBelow rules f place best → IsBestBelow rules f (place + 1) best
  kept place None x at fails none = more (λ q. is_for f q ≡ false) place x at fails none
  kept place (Some best) x at fails (r, here, priority) = (
    r,
    record {
      below = let b = here.below in omega arith;
      stands = here.stands;
      fits = here.fits;
      highest = more (λ q. is_for f q ≡ true → q.priority ≤ r.priority) place x at (λ fits. let h = not_above best.1 x.priority (nat_lt best.1 x.priority) refl (ap (λ b. nat_lt best.1 x.priority && b) (sym fits) ∙ fails) in omega arith) here.highest;
      first = here.first;
    },
    priority,
  )

  -- the best of all is the rule that acts
  pub acts_of_all : (best : ℕ × ℕ) → IsBestBelow rules f (length rules) (Some best) → (r : Rule) × ActsAt rules f best.0 r
  acts_of_all best (r, here, priority) = (
    r,
    record {
      stands = here.stands;
      fits = here.fits;
      highest = λ j q e fq. here.highest j (slice_get_within rules j q e) q e fq;
      first = λ j q lt e fq. here.first j lt q e fq;
    },
  )

  pub none_of_all : IsBestBelow rules f (length rules) None → NoneFits rules f
  none_of_all none j q e = none j (slice_get_within rules j q e) q e

  -- no rule acts where none fits
  pub none_acts : NoneFits rules f → acting_rule rules f ≡ None
  none_acts none = by (acting_rule rules f) refl
    where
      by : (o : Option Rule) → acting_rule rules f ≡ o → o ≡ None
      by None e = refl
      by (Some r) e = let at = acts rules f r e in absurd (false-true (sym (none at.0 r at.1.stands) ∙ at.1.fits))
