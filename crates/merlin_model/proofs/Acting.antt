-- The rule that acts: it fits, and each other rule that fits has a lower priority.
use Rattle.std.proofs.Common.{◌≡◌, ℕ, ◌≤◌, ◌<◌, ◌==◌, ◌⊎◌, inl, inr, true, List, [], ◌∷◌, map, Some, refl, sym, ◌∙◌, ap, arith}
use Rattle.std.proofs.lemmas.Bool.{eqb-true, eq-eqb}
use Rattle.merlin_model.specs.declared.config.Rule.{Rule}
use Rattle.merlin_model.specs.Rates.{greatest_of}
use Rattle.merlin_model.specs.Machine.{Frame, is_for, acting_rule, fitting_rules}
use Rattle.merlin_model.proofs.Members.{In, in_filter, filter_in, find_only}

greatest-ge : (rules : List Rule) (r : Rule) → In r rules → r.priority ≤ greatest_of (map (λ q. q.priority) rules)
greatest-ge [] r h = absurd h
greatest-ge (x ∷ rules) r (inl e) = let here : r.priority ≡ x.priority = ap (λ q. q.priority) e in omega arith
greatest-ge (x ∷ rules) r (inr h) = let later = greatest-ge rules r h in omega arith

greatest-le : (rules : List Rule) (n : ℕ) → ((q : Rule) → In q rules → q.priority ≤ n) → greatest_of (map (λ q. q.priority) rules) ≤ n
greatest-le [] n h = omega arith
greatest-le (x ∷ rules) n h = let here = h x (inl refl) in let later = greatest-le rules n (λ q i. h q (inr i)) in omega arith

abbrev top : List Rule → Frame → ℕ
top rules f = greatest_of (map (λ q. q.priority) (fitting_rules rules f))

pub acting-is : (rules : List Rule) (f : Frame) (r : Rule) → In r rules → is_for f r ≡ true →
    ((q : Rule) → In q rules → is_for f q ≡ true → (q ≡ r) ⊎ (q.priority < r.priority)) → acting_rule rules f ≡ Some r
acting-is rules f r present fits best = find_only (λ q. q.priority == top rules f) (fitting_rules rules f) r here (eq-eqb _ _ (sym is_top)) only
  where
    here : In r (fitting_rules rules f)
    here = filter_in (is_for f) rules r present fits

    below : (q : Rule) → (q ≡ r) ⊎ (q.priority < r.priority) → q.priority ≤ r.priority
    below q (inl e) = let same : q.priority ≡ r.priority = ap (λ x. x.priority) e in omega arith
    below q (inr lt) = omega arith

    is_top : top rules f ≡ r.priority
    is_top =
        let ge = greatest-ge (fitting_rules rules f) r here in
        let le = greatest-le (fitting_rules rules f) r.priority (λ q i. let m = in_filter (is_for f) rules q i in below q (best q m.0 m.1)) in
        omega arith

    only : (q : Rule) → In q (fitting_rules rules f) → (q.priority == top rules f) ≡ true → q ≡ r
    only q i t = by (best q (in_filter (is_for f) rules q i).0 (in_filter (is_for f) rules q i).1)
      where
        by : (q ≡ r) ⊎ (q.priority < r.priority) → q ≡ r
        by (inl e) = e
        by (inr lt) = let same : q.priority ≡ r.priority = eqb-true _ _ t ∙ is_top in let no : ⊥ = omega arith in absurd no
