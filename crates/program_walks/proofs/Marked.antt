-- Taking the variables of walks.
use Rattle.std.proofs.Common.{◌≡◌, ◌≢◌, ℕ, zero, suc, ◌+◌, ◌≤◌, ◌<◌, ◌==◌, inl, inr, Bool, true, false, List, [], ◌∷◌, ◌++◌, length, length-set, replicate, drop, Option, None, Some, slice_get, slice_set, get_or, get_or-set_same, get_or-set_other, append_assoc, append-nil, refl, sym, ◌∙◌, ap, subst, arith}
use Rattle.std.specs.List.{AllByRecursion}
use Rattle.merlin_model.specs.declared.policy.Symbol.{Symbol}
use Rattle.merlin_model.specs.Programs.{is_chosen}
use Rattle.cutoff_program.specs.Flows.{taken_from, count_if}
use Rattle.cutoff_program.specs.declared.flow.Variable.{Variable}
use Rattle.cutoff_program.specs.Trails.{edges_of, sum_along, plus_term, point_with}
use Rattle.cutoff_program.proofs.Lists.{some_some, none_some}
use Rattle.cutoff_program.proofs.Following.{earlier-count}
use Rattle.program_walks.specs.Marks.{LeadsToSymbol, IsNextBy, FollowsTrail, with_more, TakesTrail, TrailsOf, TakeTrails}

-- A symbol more.

pub follows-stay : (variables : List Variable) (symbols : List Symbol) (n vertex : ℕ) (word : List Symbol) (trail : List ℕ) (to : ℕ) (x : Symbol) → FollowsTrail variables symbols n vertex word trail to →
    IsNextBy variables symbols n to x None → FollowsTrail variables symbols n vertex (word ++ x ∷ []) trail to
follows-stay variables symbols n vertex [] trail to x f none =
    inl (subst (λ u. IsNextBy variables symbols n u x None) (sym f.1) none, f)
follows-stay variables symbols n vertex (y ∷ word) trail to x (inl s) none = inl (s.0, follows-stay variables symbols n vertex word trail to x s.1 none)
follows-stay variables symbols n vertex (y ∷ word) trail to x (inr g) none =
    let h = g.1.1 in
    inr (g.0, (g.1.0, (h.0, h.1, h.2, h.3, follows-stay variables symbols n h.0.edge.to word g.1.0 to x h.4 none)))

pub follows-go : (variables : List Variable) (symbols : List Symbol) (n vertex : ℕ) (word : List Symbol) (trail : List ℕ) (to : ℕ) (x : Symbol) (k : ℕ) (v : Variable) → FollowsTrail variables symbols n vertex word trail to →
    slice_get variables k ≡ Some v → LeadsToSymbol symbols n to x v → FollowsTrail variables symbols n vertex (word ++ x ∷ []) (trail ++ k ∷ []) v.edge.to
follows-go variables symbols n vertex [] trail to x k v f e leads =
    inr (k, ([], (v, ap (λ ks. ks ++ k ∷ []) f.0, e, subst (λ u. LeadsToSymbol symbols n u x v) (sym f.1) leads, (refl, refl))))
follows-go variables symbols n vertex (y ∷ word) trail to x k v (inl s) e leads = inl (s.0, follows-go variables symbols n vertex word trail to x k v s.1 e leads)
follows-go variables symbols n vertex (y ∷ word) trail to x k v (inr g) e leads =
    let h = g.1.1 in
    inr (g.0, (g.1.0 ++ k ∷ [], (h.0, ap (λ ks. ks ++ k ∷ []) h.1, h.2, h.3, follows-go variables symbols n h.0.edge.to word g.1.0 to x k v h.4 e leads)))

-- More places.

pub more-append : (point : List Bool) (ks js : List ℕ) → with_more point (ks ++ js) ≡ with_more (with_more point ks) js
more-append point [] js = refl
more-append point (k ∷ ks) js = more-append (slice_set point k true) ks js

pub more-length : (point : List Bool) (ks : List ℕ) → length (with_more point ks) ≡ length point
more-length point [] = refl
more-length point (k ∷ ks) = more-length (slice_set point k true) ks ∙ length-set point k true

set-keeps : (point : List Bool) (k j : ℕ) → is_chosen point j ≡ true → is_chosen (slice_set point k true) j ≡ true
set-keeps point k j c = by (j == k) refl
  where
    inside : (xs : List Bool) (j : ℕ) → get_or xs j false ≡ true → j < length xs
    inside [] j e = absurd (let bad : ⊥ = cc in bad)
    inside (x ∷ xs) zero e = omega arith
    inside (x ∷ xs) (suc j) e = let h = inside xs j e in omega (arith, h)

    by : (b : Bool) → (j == k) ≡ b → is_chosen (slice_set point k true) j ≡ true
    by true s =
        let same : j ≡ k = grind arith in
        let lt = inside point j c in
        ap (is_chosen (slice_set point k true)) same ∙ get_or-set_same point k true false (omega (arith, lt, same))
    by false s = let other : j ≢ k = grind arith in get_or-set_other point k j true false other ∙ c

pub more-keeps : (point : List Bool) (ks : List ℕ) (j : ℕ) → is_chosen point j ≡ true → is_chosen (with_more point ks) j ≡ true
more-keeps point [] j c = c
more-keeps point (k ∷ ks) j c = more-keeps (slice_set point k true) ks j (set-keeps point k j c)

pub more-chosen : (point : List Bool) (ks : List ℕ) → AllByRecursion (λ k. k < length point) ks → AllByRecursion (λ k. is_chosen (with_more point ks) k ≡ true) ks
more-chosen point [] below = tt
more-chosen point (k ∷ ks) below = (
  more-keeps (slice_set point k true) ks k (get_or-set_same point k true false below.0),
  more-chosen (slice_set point k true) ks (all-length ks (sym (length-set point k true)) below.1),
)
  where
    all-length : (js : List ℕ) {m n : ℕ} → m ≡ n → AllByRecursion (λ j. j < m) js → AllByRecursion (λ j. j < n) js
    all-length js e all = subst (λ m. AllByRecursion (λ j. j < m) js) e all

-- A place more adds at most what stands there.

set-most : (f : Variable → ℕ) (n : ℕ) (variables : List Variable) (point : List Bool) (k : ℕ) (v : Variable) → slice_get variables k ≡ Some v → taken_from n f variables (slice_set point (n + k) true) ≤ f v + taken_from n f variables point
set-most f n [] point k v e = absurd (none_some e)
set-most f n (w ∷ vs) point zero v e =
    let same : w ≡ v = some_some e in
    let at : n + 0 ≡ n = omega arith in
    let rest = earlier-count f (n + 1) vs point n true (omega arith) in
    let one = ap (λ j. taken_from n f (w ∷ vs) (slice_set point j true)) at in
    let term = ap f same in
    most _ _ _ _ _ _ _ one (split (is_chosen (slice_set point n true) n)) rest term
  where
    split : (b : Bool) → count_if b (f w) ≤ f w
    split true = omega arith
    split false = omega arith

    most : (whole first rest old mine fv fw : ℕ) → whole ≡ first + rest → first ≤ fw → rest ≡ old → fw ≡ fv → whole ≤ fv + (mine + old)
    most whole first rest old mine fv fw a b c d = omega arith
set-most f n (w ∷ vs) point (suc k) v e =
    let other : n ≢ n + suc k = omega arith in
    let at : n + suc k ≡ n + 1 + k = omega arith in
    let first = get_or-set_other point (n + suc k) n true false other in
    let ih = set-most f (n + 1) vs point k v e in
    most _ _ _ _ _ (ap (λ b. count_if b (f w)) first) (ap (λ j. taken_from (n + 1) f vs (slice_set point j true)) at) ih
  where
    most : (first mine rest later old : ℕ) → first ≡ mine → rest ≡ later → later ≤ f v + old → first + rest ≤ f v + (mine + old)
    most first mine rest later old a b c = omega arith

pub more-most : (variables : List Variable) (f : Variable → ℕ) (ks : List ℕ) (point : List Bool) → AllByRecursion (λ k. k < length variables) ks → taken_from 0 f variables (with_more point ks) ≤ sum_along variables f ks + taken_from 0 f variables point
more-most variables f [] point below = omega arith
more-most variables f (k ∷ ks) point below = by (slice_get variables k) refl (more-most variables f ks (slice_set point k true) below.1)
  where
    get-none : {X : Type 0} (xs : List X) (k : ℕ) → slice_get xs k ≡ None → k < length xs → ⊥
    get-none [] k e h = omega arith
    get-none (x ∷ xs) zero e h = none_some (sym e)
    get-none (x ∷ xs) (suc k) e h = get-none xs k e (omega arith)

    by : (o : Option Variable) → slice_get variables k ≡ o → taken_from 0 f variables (with_more (slice_set point k true) ks) ≤ sum_along variables f ks + taken_from 0 f variables (slice_set point k true) →
        taken_from 0 f variables (with_more (slice_set point k true) ks) ≤ plus_term f (slice_get variables k) (sum_along variables f ks) + taken_from 0 f variables point
    by None e more = absurd (get-none variables k e below.0)
    by (Some v) e more =
        let at : 0 + k ≡ k = omega arith in
        let one = set-most f 0 variables point k v e in
        let same = ap (λ j. taken_from 0 f variables (slice_set point j true)) at in
        let term = ap (λ o. plus_term f o (sum_along variables f ks)) e in
        chain _ _ _ _ _ _ _ more one same term
      where
        chain : (whole rest mid there fv old sum : ℕ) → whole ≤ rest + mid → there ≤ fv + old → there ≡ mid → sum ≡ fv + rest → whole ≤ sum + old
        chain whole rest mid there fv old sum a b c d = omega arith

pub nothing-taken : (f : Variable → ℕ) (n : ℕ) (vs : List Variable) (size : ℕ) → taken_from n f vs (replicate size false) ≡ 0
nothing-taken f n [] size = refl
nothing-taken f n (v ∷ vs) size =
    let e = ap (λ b. count_if b (f v)) (none size n) in
    let ih = nothing-taken f (n + 1) vs size in
    zeros _ _ e ih
  where
    none : (size k : ℕ) → is_chosen (replicate size false) k ≡ false
    none zero k = refl
    none (suc size) zero = refl
    none (suc size) (suc k) = none size k

    zeros : (a b : ℕ) → a ≡ 0 → b ≡ 0 → a + b ≡ 0
    zeros a b e f = omega arith

-- The order of the places does not matter.

set-swap : (point : List Bool) (j k : ℕ) → slice_set (slice_set point j true) k true ≡ slice_set (slice_set point k true) j true
set-swap [] j k = refl
set-swap (b ∷ bs) zero zero = refl
set-swap (b ∷ bs) zero (suc k) = refl
set-swap (b ∷ bs) (suc j) zero = refl
set-swap (b ∷ bs) (suc j) (suc k) = ap (λ xs. b ∷ xs) (set-swap bs j k)

more-set : (point : List Bool) (ks : List ℕ) (j : ℕ) → with_more (slice_set point j true) ks ≡ slice_set (with_more point ks) j true
more-set point [] j = refl
more-set point (k ∷ ks) j = ap (λ p. with_more p ks) (set-swap point j k) ∙ more-set (slice_set point k true) ks j

pub more-point : (size : ℕ) (ks : List ℕ) → with_more (replicate size false) ks ≡ point_with size ks
more-point size [] = refl
more-point size (k ∷ ks) = more-set (replicate size false) ks k ∙ ap (λ p. slice_set p k true) (more-point size ks)

-- Symbol by symbol.

pub record TakesTo (variables : List Variable) (symbols : List Symbol) (n : ℕ) (word : List Symbol) (old new : List Bool) (vertex : ℕ) : Type 0 where
  pub trail : List ℕ
  pub follows : FollowsTrail variables symbols n 0 word trail vertex
  pub chosen : new ≡ with_more old trail

pub takes-stay : (variables : List Variable) (symbols : List Symbol) (n : ℕ) (word longer : List Symbol) (old new : List Bool) (vertex : ℕ) (x : Symbol) → TakesTo variables symbols n word old new vertex → longer ≡ word ++ x ∷ [] →
    IsNextBy variables symbols n vertex x None → TakesTo variables symbols n longer old new vertex
takes-stay variables symbols n word longer old new vertex x t more none = record {
  trail = t.trail;
  follows = subst (λ w. FollowsTrail variables symbols n 0 w t.trail vertex) (sym more) (follows-stay variables symbols n 0 word t.trail vertex x t.follows none);
  chosen = t.chosen;
}

pub takes-go : (variables : List Variable) (symbols : List Symbol) (n : ℕ) (word longer : List Symbol) (old new newer : List Bool) (vertex to : ℕ) (x : Symbol) (k : ℕ) (v : Variable) → TakesTo variables symbols n word old new vertex → longer ≡ word ++ x ∷ [] →
    slice_get variables k ≡ Some v → LeadsToSymbol symbols n vertex x v → to ≡ v.edge.to → newer ≡ slice_set new k true → TakesTo variables symbols n longer old newer to
takes-go variables symbols n word longer old new newer vertex to x k v t more e leads is set = record {
  trail = t.trail ++ k ∷ [];
  follows = subst (λ w. FollowsTrail variables symbols n 0 w (t.trail ++ k ∷ []) to) (sym more)
      (subst (FollowsTrail variables symbols n 0 (word ++ x ∷ []) (t.trail ++ k ∷ [])) (sym is) (follows-go variables symbols n 0 word t.trail vertex x k v t.follows e leads));
  chosen = set ∙ ap (λ p. slice_set p k true) t.chosen ∙ sym (more-append old t.trail (k ∷ []));
}

pub takes-length : (variables : List Variable) (symbols : List Symbol) (n : ℕ) (word : List Symbol) (old new : List Bool) (vertex : ℕ) → TakesTo variables symbols n word old new vertex → length new ≡ length old
takes-length variables symbols n word old new vertex t = ap length t.chosen ∙ more-length old t.trail

-- Walk by walk.

pub no-symbols : (variables : List Variable) (symbols : List Symbol) (n : ℕ) (walk : List Symbol) (point : List Bool) → length walk < 1 → TakesTrail variables symbols n (drop 1 walk) point point
no-symbols variables symbols n [] point h = record { trail = []; to = 0; follows = (refl, refl); chosen = refl }
no-symbols variables symbols n (x ∷ walk) point h = absurd (omega arith)

trails-snoc : (variables : List Variable) (n : ℕ) (symbols walks : List (List Symbol)) (trails : List (List ℕ)) (first walk : List Symbol) (trail : List ℕ) (to m : ℕ) → TrailsOf variables n symbols walks trails → m ≡ n + length walks →
    FollowsTrail variables first m 0 (drop 1 walk) trail to → TrailsOf variables n (symbols ++ first ∷ []) (walks ++ walk ∷ []) (trails ++ trail ∷ [])
trails-snoc variables n [] [] [] first walk trail to m t e f = ((to, subst (λ x. FollowsTrail variables first x 0 (drop 1 walk) trail to) (let s : m ≡ n = omega arith in s) f), tt)
trails-snoc variables n (g ∷ symbols) (w ∷ walks) (ks ∷ trails) first walk trail to m t e f = (t.0, trails-snoc variables (n + 1) symbols walks trails first walk trail to m t.1 (omega (arith, e)) f)
trails-snoc variables n [] (w ∷ walks) [] first walk trail to m t e f = absurd t
trails-snoc variables n [] (w ∷ walks) (ks ∷ trails) first walk trail to m t e f = absurd t
trails-snoc variables n (g ∷ symbols) [] [] first walk trail to m t e f = absurd t
trails-snoc variables n (g ∷ symbols) [] (ks ∷ trails) first walk trail to m t e f = absurd t
trails-snoc variables n [] [] (ks ∷ trails) first walk trail to m t e f = absurd t
trails-snoc variables n (g ∷ symbols) (w ∷ walks) [] first walk trail to m t e f = absurd t

pub edges-snoc : (trails : List (List ℕ)) (trail : List ℕ) → edges_of (trails ++ trail ∷ []) ≡ edges_of trails ++ trail
edges-snoc [] trail = append-nil trail
edges-snoc (ks ∷ trails) trail = ap (λ es. ks ++ es) (edges-snoc trails trail) ∙ sym (append_assoc ks (edges_of trails) trail)

pub walk-more : (variables : List Variable) (symbols walks : List (List Symbol)) (first walk : List Symbol) (old new : List Bool) (n : ℕ) → TakeTrails variables symbols walks old → n ≡ length walks → TakesTrail variables first n (drop 1 walk) old new →
    TakeTrails variables (symbols ++ first ∷ []) (walks ++ walk ∷ []) new
walk-more variables symbols walks first walk old new n t e m = record {
  trails = t.trails ++ m.trail ∷ [];
  are = trails-snoc variables 0 symbols walks t.trails first walk m.trail m.to n t.are (omega (arith, e)) m.follows;
  chosen = m.chosen ∙ ap (λ p. with_more p m.trail) t.chosen ∙ sym (more-append (replicate (length variables) false) (edges_of t.trails) m.trail) ∙ ap (with_more (replicate (length variables) false)) (sym (edges-snoc t.trails m.trail));
}

pub replicate-length : (size : ℕ) → length (replicate size false) ≡ size
replicate-length zero = refl
replicate-length (suc size) = ap suc (replicate-length size)

pub taken-length : (variables : List Variable) (symbols walks : List (List Symbol)) (point : List Bool) → TakeTrails variables symbols walks point → length point ≡ length variables
taken-length variables symbols walks point t = ap length t.chosen ∙ more-length (replicate (length variables) false) (edges_of t.trails) ∙ replicate-length (length variables)
