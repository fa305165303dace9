-- Following chosen edges, one after the other, from where one unit starts to where it ends.
use Rattle.std.proofs.Common.{◌≡◌, ◌≢◌, ℕ, zero, suc, ◌+◌, ◌≤◌, ◌<◌, ◌==◌, nat_lt, Bool, true, false, cond, ℤ, pos, negsuc, ◌+ℤ◌, List, [], ◌∷◌, length, length-set, None, Some, slice_get, slice_set, get_or-set_same, get_or-set_other, refl, sym, ◌∙◌, ap, arith}
use Rattle.std.proofs.lemmas.Int.{ints}
use Rattle.std.proofs.lemmas.List.{get_or_past}
use Rattle.merlin_model.specs.Programs.{is_chosen, coefficient_if}
use Rattle.cutoff_program.specs.declared.flow.Variable.{Variable}
use Rattle.cutoff_program.specs.Flows.{net_out, count_if, taken_from, chosen_from}
use Rattle.cutoff_program.specs.Trails.{one_at, sum_along, plus_term, comes_to, with_vertex}

some_some : {X : Type 0} {x y : X} → Some x ≡ Some y → x ≡ y
some_some e = cc

none_some : {X : Type 0} {x : X} → None ≡ Some x → ⊥
none_some e = cc

-- Taking a chosen variable away.

earlier : (f : Variable → ℤ) (n : ℕ) (variables : List Variable) (point : List Bool) (j : ℕ) (b : Bool) → j < n → chosen_from n f variables (slice_set point j b) ≡ chosen_from n f variables point
earlier f n [] point j b h = refl
earlier f n (v ∷ vs) point j b h =
    let other : n ≢ j = omega arith in
    let same : is_chosen (slice_set point j b) n ≡ is_chosen point n = get_or-set_other point j n b false other in
    ap (λ c. coefficient_if c (f v) +ℤ chosen_from (n + 1) f vs (slice_set point j b)) same ∙ ap (λ t. coefficient_if (is_chosen point n) (f v) +ℤ t) (earlier f (n + 1) vs point j b (omega arith))

earlier-count : (f : Variable → ℕ) (n : ℕ) (variables : List Variable) (point : List Bool) (j : ℕ) (b : Bool) → j < n → taken_from n f variables (slice_set point j b) ≡ taken_from n f variables point
earlier-count f n [] point j b h = refl
earlier-count f n (v ∷ vs) point j b h =
    let other : n ≢ j = omega arith in
    let same : is_chosen (slice_set point j b) n ≡ is_chosen point n = get_or-set_other point j n b false other in
    ap (λ c. count_if c (f v) + taken_from (n + 1) f vs (slice_set point j b)) same ∙ ap (λ t. count_if (is_chosen point n) (f v) + t) (earlier-count f (n + 1) vs point j b (omega arith))

pub none_there : (point : List Bool) (j : ℕ) → is_chosen (slice_set point j false) j ≡ false
none_there point j = by (nat_lt j (length point)) refl
  where
    by : (b : Bool) → nat_lt j (length point) ≡ b → is_chosen (slice_set point j false) j ≡ false
    by true e = let h : j < length point = grind arith in get_or-set_same point j false false h
    by false e = let h : length (slice_set point j false) ≤ j = grind (arith, length-set) in get_or_past (slice_set point j false) j false h

pub away : (f : Variable → ℤ) (n : ℕ) (variables : List Variable) (point : List Bool) (k : ℕ) (v : Variable) → slice_get variables k ≡ Some v → is_chosen point (n + k) ≡ true →
    chosen_from n f variables (slice_set point (n + k) false) +ℤ f v ≡ chosen_from n f variables point
away f n [] point k v s c = absurd (none_some s)
away f n (w ∷ vs) point zero v s c =
    let e : n + 0 ≡ n = omega arith in
    let same : w ≡ v = some_some s in
    let at : chosen_from n f (w ∷ vs) (slice_set point n false) ≡ chosen_from (n + 1) f vs point =
    ap (λ b. coefficient_if b (f w) +ℤ chosen_from (n + 1) f vs (slice_set point n false)) (none_there point n) ∙ first (chosen_from (n + 1) f vs (slice_set point n false)) ∙ earlier f (n + 1) vs point n false (omega arith) in
    ap (λ j. chosen_from n f (w ∷ vs) (slice_set point j false) +ℤ f v) e ∙ ap (λ t. t +ℤ f v) at ∙ swap (chosen_from (n + 1) f vs point) (f v) ∙ sym (ap (λ x. f x +ℤ chosen_from (n + 1) f vs point) same)
    ∙ sym (ap (λ b. coefficient_if b (f w) +ℤ chosen_from (n + 1) f vs point) (ap (is_chosen point) (sym e) ∙ c))
  where
    first : (t : ℤ) → pos 0 +ℤ t ≡ t
    first t = omega (arith, ints)

    swap : (a b : ℤ) → a +ℤ b ≡ b +ℤ a
    swap a b = omega (arith, ints)
away f n (w ∷ vs) point (suc k) v s c =
    let e : n + suc k ≡ n + 1 + k = omega arith in
    let other : n ≢ n + suc k = omega arith in
    let ih = away f (n + 1) vs point k v s (ap (is_chosen point) (sym e) ∙ c) in
    ap (λ b. coefficient_if b (f w) +ℤ chosen_from (n + 1) f vs (slice_set point (n + suc k) false) +ℤ f v) (get_or-set_other point (n + suc k) n false false other)
    ∙ ap (λ j. coefficient_if (is_chosen point n) (f w) +ℤ chosen_from (n + 1) f vs (slice_set point j false) +ℤ f v) e
    ∙ group (coefficient_if (is_chosen point n) (f w)) (chosen_from (n + 1) f vs (slice_set point (n + 1 + k) false)) (f v)
    ∙ ap (λ t. coefficient_if (is_chosen point n) (f w) +ℤ t) ih
  where
    group : (a b d : ℤ) → a +ℤ b +ℤ d ≡ a +ℤ (b +ℤ d)
    group a b d = omega (arith, ints)

pub away-count : (f : Variable → ℕ) (n : ℕ) (variables : List Variable) (point : List Bool) (k : ℕ) (v : Variable) → slice_get variables k ≡ Some v → is_chosen point (n + k) ≡ true →
    taken_from n f variables (slice_set point (n + k) false) + f v ≡ taken_from n f variables point
away-count f n [] point k v s c = absurd (none_some s)
away-count f n (w ∷ vs) point zero v s c =
    let e : n + 0 ≡ n = omega arith in
    let same : w ≡ v = some_some s in
    let at : taken_from n f (w ∷ vs) (slice_set point n false) ≡ 0 + taken_from (n + 1) f vs point =
    ap (λ b. count_if b (f w) + taken_from (n + 1) f vs (slice_set point n false)) (none_there point n) ∙ ap (λ t. 0 + t) (earlier-count f (n + 1) vs point n false (omega arith)) in
    let is : taken_from n f (w ∷ vs) point ≡ f w + taken_from (n + 1) f vs point = ap (λ b. count_if b (f w) + taken_from (n + 1) f vs point) (ap (is_chosen point) (sym e) ∙ c) in
    let g : f w ≡ f v = ap f same in
    ap (λ j. taken_from n f (w ∷ vs) (slice_set point j false) + f v) e ∙ (omega arith)
away-count f n (w ∷ vs) point (suc k) v s c =
    let e : n + suc k ≡ n + 1 + k = omega arith in
    let other : n ≢ n + suc k = omega arith in
    let ih = away-count f (n + 1) vs point k v s (ap (is_chosen point) (sym e) ∙ c) in
    let first = get_or-set_other point (n + suc k) n false false other in
    ap (λ b. count_if b (f w) + taken_from (n + 1) f vs (slice_set point (n + suc k) false) + f v) first
    ∙ ap (λ j. count_if (is_chosen point n) (f w) + taken_from (n + 1) f vs (slice_set point j false) + f v) e ∙ (omega arith)

-- what an edge of the flow net_out at a vertex
pub leaves-at : (flow u : ℕ) (v : Variable) → v.flow ≡ flow → v.edge.from ≢ v.edge.to → net_out flow u v +ℤ one_at (u == v.edge.to) ≡ one_at (u == v.edge.from)
leaves-at flow u v e apart = by (v.flow == flow) refl (v.edge.from == u) refl (v.edge.to == u) refl (u == v.edge.to) refl (u == v.edge.from) refl
  where
    by : (a : Bool) → (v.flow == flow) ≡ a → (b : Bool) → (v.edge.from == u) ≡ b → (d : Bool) → (v.edge.to == u) ≡ d → (x : Bool) → (u == v.edge.to) ≡ x → (y : Bool) → (u == v.edge.from) ≡ y →
        (cond a (cond b (pos 1) (cond d (negsuc 0) (pos 0))) (pos 0)) +ℤ one_at x ≡ one_at y
    by false a b f d g x h y k = let bad : ⊥ = grind arith in absurd bad
    by true a true f d g true h y k = let bad : ⊥ = grind arith in absurd bad
    by true a true f d g false h true k = refl
    by true a true f d g false h false k = let bad : ⊥ = grind arith in absurd bad
    by true a false f true g true h true k = let bad : ⊥ = grind arith in absurd bad
    by true a false f true g true h false k = refl
    by true a false f true g false h y k = let bad : ⊥ = grind arith in absurd bad
    by true a false f false g true h y k = let bad : ⊥ = grind arith in absurd bad
    by true a false f false g false h true k = let bad : ⊥ = grind arith in absurd bad
    by true a false f false g false h false k = refl

pub sum-cons : (variables : List Variable) (f : Variable → ℕ) (k : ℕ) (ks : List ℕ) (v : Variable) → slice_get variables k ≡ Some v → sum_along variables f (k ∷ ks) ≡ f v + sum_along variables f ks
sum-cons variables f k ks v e = ap (λ o. plus_term f o (sum_along variables f ks)) e

pub comes_to-cons : (variables : List Variable) (k : ℕ) (ks : List ℕ) (v : Variable) → slice_get variables k ≡ Some v → comes_to variables (k ∷ ks) ≡ v.edge.to ∷ comes_to variables ks
comes_to-cons variables k ks v e = ap (λ o. with_vertex o (comes_to variables ks)) e
