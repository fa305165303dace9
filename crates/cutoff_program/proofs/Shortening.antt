-- A trail is shortened to a path: what lies between two visits of a vertex is cut out.
use Rattle.std.proofs.Common.{◌≡◌, ◌≢◌, ℕ, nat_eq, ◌⊎◌, inl, inr, Bool, true, false, List, [], ◌∷◌, Some, slice_get, refl, sym, ◌∙◌, ap, subst, arith}
use Rattle.std.specs.List.{AllByRecursion}
use Rattle.merlin_model.specs.Networks.{Pairwise}
use Rattle.cutoff_program.specs.Flows.{Variable}
use Rattle.cutoff_program.specs.Trails.{IsTrailOf, IsPath, IsShortened, comes_to, with_vertex}
use Rattle.cutoff_program.proofs.Following.{sum-cons}

pub comes_to-cons : (variables : List Variable) (k : ℕ) (ks : List ℕ) (v : Variable) → slice_get variables k ≡ Some v → comes_to variables (k ∷ ks) ≡ v.edge.to ∷ comes_to variables ks
comes_to-cons variables k ks v e = ap (λ o. with_vertex o (comes_to variables ks)) e

-- A path from a on which u lies has a path from u at its end.
cut : (variables : List Variable) (flow : ℕ) (path : List ℕ) (a to u : ℕ) → IsPath variables flow path a to →
    (AllByRecursion (λ x. u ≢ x) (a ∷ comes_to variables path)) ⊎ IsShortened variables flow path u to
cut variables flow [] a to u p = by (nat_eq u a) refl
  where
    by : (b : Bool) → nat_eq u a ≡ b → (AllByRecursion (λ x. u ≢ x) (a ∷ [])) ⊎ IsShortened variables flow [] u to
    by true e =
        let at : u ≡ a = grind arith in
        inr (record { path = []; is_path = record { steps = at ∙ p.steps; simple = (tt, tt) }; no_more = λ f. omega arith; among = λ t all. all })
    by false e = let other : u ≢ a = grind arith in inl (other, tt)
cut variables flow (k ∷ ks) a to u p = by (nat_eq u a) refl (cut variables flow ks v.edge.to to u rest)
  where
    v : Variable
    v = p.steps.0

    e : slice_get variables k ≡ Some v
    e = p.steps.1

    tail : Pairwise (λ x y. x ≢ y) (a ∷ (v.edge.to ∷ comes_to variables ks))
    tail = subst (λ xs. Pairwise (λ x y. x ≢ y) (a ∷ xs)) (comes_to-cons variables k ks v e) p.simple

    rest : IsPath variables flow ks v.edge.to to
    rest = record { steps = p.steps.4; simple = tail.1 }

    by : (b : Bool) → nat_eq u a ≡ b → (AllByRecursion (λ x. u ≢ x) (v.edge.to ∷ comes_to variables ks)) ⊎ IsShortened variables flow ks u to →
        (AllByRecursion (λ x. u ≢ x) (a ∷ comes_to variables (k ∷ ks))) ⊎ IsShortened variables flow (k ∷ ks) u to
    by true s h =
        let at : u ≡ a = grind arith in
        inr (record { path = k ∷ ks; is_path = subst (λ x. IsPath variables flow (k ∷ ks) x to) (sym at) p; no_more = λ f. omega arith; among = λ t all. all })
    by false s (inl all) = let other : u ≢ a = grind arith in inl (other, subst (AllByRecursion (λ x. u ≢ x)) (sym (comes_to-cons variables k ks v e)) all)
    by false s (inr shorter) =
        inr (record { path = shorter.path; is_path = shorter.is_path; no_more = λ f. let h = shorter.no_more f in let c = sum-cons variables f k ks v e in omega arith; among = λ t all. shorter.among t all.1 })

pub shorten : (variables : List Variable) (flow : ℕ) (ks : List ℕ) (from to : ℕ) → IsTrailOf variables flow ks from to → IsShortened variables flow ks from to
shorten variables flow [] from to steps = record { path = []; is_path = record { steps = steps; simple = (tt, tt) }; no_more = λ f. omega arith; among = λ t all. all }
shorten variables flow (k ∷ ks) from to steps = by (shorten variables flow ks v.edge.to to steps.4)
  where
    v : Variable
    v = steps.0

    e : slice_get variables k ≡ Some v
    e = steps.1

    by : IsShortened variables flow ks v.edge.to to → IsShortened variables flow (k ∷ ks) from to
    by shorter = choose (cut variables flow shorter.path v.edge.to to from shorter.is_path)
      where
        choose : (AllByRecursion (λ x. from ≢ x) (v.edge.to ∷ comes_to variables shorter.path)) ⊎ IsShortened variables flow shorter.path from to → IsShortened variables flow (k ∷ ks) from to
        choose (inl all) = record {
          path = k ∷ shorter.path;
          is_path = record {
            steps = (v, e, steps.2, steps.3, shorter.is_path.steps);
            simple = subst (λ xs. Pairwise (λ x y. x ≢ y) (from ∷ xs)) (sym (comes_to-cons variables k shorter.path v e)) (all, shorter.is_path.simple);
          };
          no_more = λ f. let h = shorter.no_more f in let c = sum-cons variables f k ks v e in let d = sum-cons variables f k shorter.path v e in omega arith;
          among = λ t all. (all.0, shorter.among t all.1);
        }
        choose (inr cut_out) = record {
          path = cut_out.path;
          is_path = cut_out.is_path;
          no_more = λ f. let h = cut_out.no_more f in let g = shorter.no_more f in let c = sum-cons variables f k ks v e in omega arith;
          among = λ t all. cut_out.among t (shorter.among t all.1);
        }
