-- Following chosen edges, one after the other, from where one unit starts to where it ends.
use Rattle.std.proofs.Common.{◌≡◌, ◌≢◌, ℕ, zero, suc, ◌+◌, ◌≤◌, ◌<◌, ◌==◌, nat_lt, Bool, true, false, cond, ℤ, pos, negsuc, ◌+ℤ◌, ◌<ℤ◌, List, [], ◌∷◌, length, length-set, None, Some, slice_get, slice_set, get_or-set_same, get_or-set_other, refl, sym, ◌∙◌, ap, subst, arith}
use Rattle.std.proofs.lemmas.Int.{ints}
use Rattle.std.proofs.lemmas.List.{get_or_past}
use Rattle.std.specs.List.{AllByRecursion}
use Rattle.merlin_model.specs.Programs.{is_chosen, coefficient_if}
use Rattle.cutoff_program.specs.Flows.{Variable, net_out, count_if, taken_from, chosen_from}
use Rattle.cutoff_program.specs.Trails.{HasChosenTrail, IsBalanced, one_at, sum_along, plus_term}

pub some_some : {X : Type 0} {x y : X} → Some x ≡ Some y → x ≡ y
some_some e = cc

pub false_true : false ≡ true → ⊥
false_true e = cc

pub none_some : {X : Type 0} {x : X} → None ≡ Some x → ⊥
none_some e = cc

-- a chosen variable whose term is above 0
pub record HasPositive (f : Variable → ℤ) (n : ℕ) (variables : List Variable) (point : List Bool) : Type 0 where
  pub k : ℕ
  pub v : Variable
  pub stands : slice_get variables k ≡ Some v
  pub chosen : is_chosen point (n + k) ≡ true
  pub positive : pos 0 <ℤ f v

positive : (f : Variable → ℤ) (n : ℕ) (variables : List Variable) (point : List Bool) → pos 0 <ℤ chosen_from n f variables point → HasPositive f n variables point
positive f n [] point h = let bad : ⊥ = omega (arith, ints) in absurd bad
positive f n (v ∷ vs) point h = by (is_chosen point n) refl (f v) refl (chosen_from (n + 1) f vs point) h (λ t. positive f (n + 1) vs point t)
  where
    later : HasPositive f (n + 1) vs point → HasPositive f n (v ∷ vs) point
    later p = record { k = suc p.k; v = p.v; stands = p.stands; chosen = (let e : n + suc p.k ≡ n + 1 + p.k = omega arith in ap (is_chosen point) e) ∙ p.chosen; positive = p.positive }

    by : (b : Bool) → is_chosen point n ≡ b → (z : ℤ) → f v ≡ z → (t : ℤ) → pos 0 <ℤ (coefficient_if b z +ℤ t) → (pos 0 <ℤ t → HasPositive f (n + 1) vs point) → HasPositive f n (v ∷ vs) point
    by false c z e t h ih = later (ih (omega (arith, ints)))
    by true c (pos zero) e t h ih = later (ih (omega (arith, ints)))
    by true c (negsuc m) e t h ih = later (ih (omega (arith, ints)))
    by true c (pos (suc m)) e t h ih = record { k = 0; v = v; stands = refl; chosen = (let e : n + 0 ≡ n = omega arith in ap (is_chosen point) e) ∙ c; positive = rw e (omega (arith, ints)) }

-- Taking a chosen variable away.

pub earlier : (f : Variable → ℤ) (n : ℕ) (variables : List Variable) (point : List Bool) (j : ℕ) (b : Bool) → j < n → chosen_from n f variables (slice_set point j b) ≡ chosen_from n f variables point
earlier f n [] point j b h = refl
earlier f n (v ∷ vs) point j b h =
    let other : n ≢ j = omega arith in
    let same : is_chosen (slice_set point j b) n ≡ is_chosen point n = get_or-set_other point j n b false other in
    ap (λ c. coefficient_if c (f v) +ℤ chosen_from (n + 1) f vs (slice_set point j b)) same ∙ ap (λ t. coefficient_if (is_chosen point n) (f v) +ℤ t) (earlier f (n + 1) vs point j b (omega arith))

pub earlier-count : (f : Variable → ℕ) (n : ℕ) (variables : List Variable) (point : List Bool) (j : ℕ) (b : Bool) → j < n → taken_from n f variables (slice_set point j b) ≡ taken_from n f variables point
earlier-count f n [] point j b h = refl
earlier-count f n (v ∷ vs) point j b h =
    let other : n ≢ j = omega arith in
    let same : is_chosen (slice_set point j b) n ≡ is_chosen point n = get_or-set_other point j n b false other in
    ap (λ c. count_if c (f v) + taken_from (n + 1) f vs (slice_set point j b)) same ∙ ap (λ t. count_if (is_chosen point n) (f v) + t) (earlier-count f (n + 1) vs point j b (omega arith))

pub none_there : (point : List Bool) (j : ℕ) → is_chosen (slice_set point j false) j ≡ false
none_there point j = by (nat_lt j (length point)) refl
  where
    by : (b : Bool) → nat_lt j (length point) ≡ b → is_chosen (slice_set point j false) j ≡ false
    by true e = let h : j < length point = grind arith in get_or-set_same point j false false h
    by false e = let h : length (slice_set point j false) ≤ j = grind (arith, length-set) in get_or_past (slice_set point j false) j false h

pub away : (f : Variable → ℤ) (n : ℕ) (variables : List Variable) (point : List Bool) (k : ℕ) (v : Variable) → slice_get variables k ≡ Some v → is_chosen point (n + k) ≡ true →
    chosen_from n f variables (slice_set point (n + k) false) +ℤ f v ≡ chosen_from n f variables point
away f n [] point k v s c = absurd (none_some s)
away f n (w ∷ vs) point zero v s c =
    let e : n + 0 ≡ n = omega arith in
    let same : w ≡ v = some_some s in
    let at : chosen_from n f (w ∷ vs) (slice_set point n false) ≡ chosen_from (n + 1) f vs point =
    ap (λ b. coefficient_if b (f w) +ℤ chosen_from (n + 1) f vs (slice_set point n false)) (none_there point n) ∙ first (chosen_from (n + 1) f vs (slice_set point n false)) ∙ earlier f (n + 1) vs point n false (omega arith) in
    ap (λ j. chosen_from n f (w ∷ vs) (slice_set point j false) +ℤ f v) e ∙ ap (λ t. t +ℤ f v) at ∙ swap (chosen_from (n + 1) f vs point) (f v) ∙ sym (ap (λ x. f x +ℤ chosen_from (n + 1) f vs point) same)
    ∙ sym (ap (λ b. coefficient_if b (f w) +ℤ chosen_from (n + 1) f vs point) (ap (is_chosen point) (sym e) ∙ c))
  where
    first : (t : ℤ) → pos 0 +ℤ t ≡ t
    first t = omega (arith, ints)

    swap : (a b : ℤ) → a +ℤ b ≡ b +ℤ a
    swap a b = omega (arith, ints)
away f n (w ∷ vs) point (suc k) v s c =
    let e : n + suc k ≡ n + 1 + k = omega arith in
    let other : n ≢ n + suc k = omega arith in
    let ih = away f (n + 1) vs point k v s (ap (is_chosen point) (sym e) ∙ c) in
    ap (λ b. coefficient_if b (f w) +ℤ chosen_from (n + 1) f vs (slice_set point (n + suc k) false) +ℤ f v) (get_or-set_other point (n + suc k) n false false other)
    ∙ ap (λ j. coefficient_if (is_chosen point n) (f w) +ℤ chosen_from (n + 1) f vs (slice_set point j false) +ℤ f v) e
    ∙ group (coefficient_if (is_chosen point n) (f w)) (chosen_from (n + 1) f vs (slice_set point (n + 1 + k) false)) (f v)
    ∙ ap (λ t. coefficient_if (is_chosen point n) (f w) +ℤ t) ih
  where
    group : (a b d : ℤ) → a +ℤ b +ℤ d ≡ a +ℤ (b +ℤ d)
    group a b d = omega (arith, ints)

pub away-count : (f : Variable → ℕ) (n : ℕ) (variables : List Variable) (point : List Bool) (k : ℕ) (v : Variable) → slice_get variables k ≡ Some v → is_chosen point (n + k) ≡ true →
    taken_from n f variables (slice_set point (n + k) false) + f v ≡ taken_from n f variables point
away-count f n [] point k v s c = absurd (none_some s)
away-count f n (w ∷ vs) point zero v s c =
    let e : n + 0 ≡ n = omega arith in
    let same : w ≡ v = some_some s in
    let at : taken_from n f (w ∷ vs) (slice_set point n false) ≡ 0 + taken_from (n + 1) f vs point =
    ap (λ b. count_if b (f w) + taken_from (n + 1) f vs (slice_set point n false)) (none_there point n) ∙ ap (λ t. 0 + t) (earlier-count f (n + 1) vs point n false (omega arith)) in
    let is : taken_from n f (w ∷ vs) point ≡ f w + taken_from (n + 1) f vs point = ap (λ b. count_if b (f w) + taken_from (n + 1) f vs point) (ap (is_chosen point) (sym e) ∙ c) in
    let g : f w ≡ f v = ap f same in
    ap (λ j. taken_from n f (w ∷ vs) (slice_set point j false) + f v) e ∙ (omega arith)
away-count f n (w ∷ vs) point (suc k) v s c =
    let e : n + suc k ≡ n + 1 + k = omega arith in
    let other : n ≢ n + suc k = omega arith in
    let ih = away-count f (n + 1) vs point k v s (ap (is_chosen point) (sym e) ∙ c) in
    let first = get_or-set_other point (n + suc k) n false false other in
    ap (λ b. count_if b (f w) + taken_from (n + 1) f vs (slice_set point (n + suc k) false) + f v) first
    ∙ ap (λ j. count_if (is_chosen point n) (f w) + taken_from (n + 1) f vs (slice_set point j false) + f v) e ∙ (omega arith)

-- What net_out a vertex.

leaving : (flow u : ℕ) (v : Variable) → pos 0 <ℤ net_out flow u v → (v.flow ≡ flow) × (v.edge.from ≡ u)
leaving flow u v h = by (v.flow == flow) refl (v.edge.from == u) refl (v.edge.to == u) h
  where
    by : (a : Bool) → (v.flow == flow) ≡ a → (b : Bool) → (v.edge.from == u) ≡ b → (d : Bool) →
        pos 0 <ℤ (cond a (cond b (pos 1) (cond d (negsuc 0) (pos 0))) (pos 0)) → (v.flow ≡ flow) × (v.edge.from ≡ u)
    by true e true f d h = (grind arith, grind arith)
    by true e false f true h = let bad : ⊥ = omega (arith, ints) in absurd bad
    by true e false f false h = let bad : ⊥ = omega (arith, ints) in absurd bad
    by false e b f d h = let bad : ⊥ = omega (arith, ints) in absurd bad

-- what an edge of the flow net_out at a vertex
pub leaves-at : (flow u : ℕ) (v : Variable) → v.flow ≡ flow → v.edge.from ≢ v.edge.to → net_out flow u v +ℤ one_at (u == v.edge.to) ≡ one_at (u == v.edge.from)
leaves-at flow u v e apart = by (v.flow == flow) refl (v.edge.from == u) refl (v.edge.to == u) refl (u == v.edge.to) refl (u == v.edge.from) refl
  where
    by : (a : Bool) → (v.flow == flow) ≡ a → (b : Bool) → (v.edge.from == u) ≡ b → (d : Bool) → (v.edge.to == u) ≡ d → (x : Bool) → (u == v.edge.to) ≡ x → (y : Bool) → (u == v.edge.from) ≡ y →
        (cond a (cond b (pos 1) (cond d (negsuc 0) (pos 0))) (pos 0)) +ℤ one_at x ≡ one_at y
    by false a b f d g x h y k = let bad : ⊥ = grind arith in absurd bad
    by true a true f d g true h y k = let bad : ⊥ = grind arith in absurd bad
    by true a true f d g false h true k = refl
    by true a true f d g false h false k = let bad : ⊥ = grind arith in absurd bad
    by true a false f true g true h true k = let bad : ⊥ = grind arith in absurd bad
    by true a false f true g true h false k = refl
    by true a false f true g false h y k = let bad : ⊥ = grind arith in absurd bad
    by true a false f false g true h y k = let bad : ⊥ = grind arith in absurd bad
    by true a false f false g false h true k = let bad : ⊥ = grind arith in absurd bad
    by true a false f false g false h false k = refl

pub each-at : {X : Type 0} (P : X → Type 0) (xs : List X) (k : ℕ) (x : X) → AllByRecursion P xs → slice_get xs k ≡ Some x → P x
each-at P [] k x all e = absurd (none_some e)
each-at P (y ∷ ys) zero x all e = subst P (some_some e) all.0
each-at P (y ∷ ys) (suc k) x all e = each-at P ys k x all.1 e

pub sum-cons : (variables : List Variable) (f : Variable → ℕ) (k : ℕ) (ks : List ℕ) (v : Variable) → slice_get variables k ≡ Some v → sum_along variables f (k ∷ ks) ≡ f v + sum_along variables f ks
sum-cons variables f k ks v e = ap (λ o. plus_term f o (sum_along variables f ks)) e

-- the first step: a chosen edge of the flow that net_out the vertex
pub record HasStep (variables : List Variable) (flow : ℕ) (point : List Bool) (from to : ℕ) : Type 0 where
  pub k : ℕ
  pub v : Variable
  pub stands : slice_get variables k ≡ Some v
  pub chosen : is_chosen point k ≡ true
  pub of_flow : v.flow ≡ flow
  pub starts : v.edge.from ≡ from
  pub balanced : IsBalanced variables flow (slice_set point k false) v.edge.to to
  pub fewer : taken_from 0 (λ v. 1) variables (slice_set point k false) + 1 ≡ taken_from 0 (λ v. 1) variables point

one_step : (variables : List Variable) (flow : ℕ) (point : List Bool) (from to : ℕ) → from ≢ to → AllByRecursion (λ v. v.edge.from ≢ v.edge.to) variables → IsBalanced variables flow point from to → HasStep variables flow point from to
one_step variables flow point from to differ apart balanced = record {
  k = p.k;
  v = p.v;
  stands = p.stands;
  chosen = chosen;
  of_flow = here.0;
  starts = here.1;
  balanced = λ u.
      let a = ap (λ j. chosen_from 0 (net_out flow u) variables (slice_set point j false) +ℤ net_out flow u p.v) at in
      let t = away (net_out flow u) 0 variables point p.k p.v p.stands p.chosen in
      let b = balanced u in
      let l = leaves-at flow u p.v here.0 (each-at (λ v. v.edge.from ≢ v.edge.to) variables p.k p.v apart p.stands) in
      let s = ap (λ x. one_at (u == x)) here.1 in
      sums _ _ _ _ _ _ (sym a ∙ t) b (l ∙ s);
  fewer = ap (λ j. taken_from 0 (λ v. 1) variables (slice_set point j false) + 1) (sym at) ∙ away-count (λ v. 1) 0 variables point p.k p.v p.stands p.chosen;
}
  where
    total : pos 0 <ℤ chosen_from 0 (net_out flow from) variables point
    total = by (from == to) refl (from == from) refl (chosen_from 0 (net_out flow from) variables point) (balanced from)
      where
        by : (x : Bool) → (from == to) ≡ x → (y : Bool) → (from == from) ≡ y → (t : ℤ) → t +ℤ one_at x ≡ one_at y → pos 0 <ℤ t
        by true e y f t b = let bad : ⊥ = grind arith in absurd bad
        by false e true f t b = omega (arith, ints)
        by false e false f t b = let bad : ⊥ = grind arith in absurd bad

    p : HasPositive (net_out flow from) 0 variables point
    p = positive (net_out flow from) 0 variables point total

    at : 0 + p.k ≡ p.k
    at = omega arith

    chosen : is_chosen point p.k ≡ true
    chosen = ap (is_chosen point) (sym at) ∙ p.chosen

    here : (p.v.flow ≡ flow) × (p.v.edge.from ≡ from)
    here = leaving flow from p.v p.positive

    sums : (less whole edge into out end : ℤ) → less +ℤ edge ≡ whole → whole +ℤ end ≡ out → edge +ℤ into ≡ out → less +ℤ end ≡ into
    sums less whole edge into out end a b c = omega (arith, ints)

-- what is chosen once an edge is taken away was chosen before
still : (point : List Bool) (j k : ℕ) → is_chosen (slice_set point j false) k ≡ true → is_chosen point k ≡ true
still point j k h = by (k == j) refl
  where
    by : (b : Bool) → (k == j) ≡ b → is_chosen point k ≡ true
    by true e =
        let same : k ≡ j = grind arith in
        let at : is_chosen (slice_set point j false) j ≡ true = ap (is_chosen (slice_set point j false)) (sym same) ∙ h in
        let bad : false ≡ true = sym (none_there point j) ∙ at in
        absurd (false_true bad)
    by false e = let other : k ≢ j = grind arith in sym (get_or-set_other point j k false false other) ∙ h

all-away : (point : List Bool) (j : ℕ) (ks : List ℕ) → AllByRecursion (λ k. is_chosen (slice_set point j false) k ≡ true) ks → AllByRecursion (λ k. is_chosen point k ≡ true) ks
all-away point j [] all = tt
all-away point j (k ∷ ks) all = (still point j k all.0, all-away point j ks all.1)

follow : (n : ℕ) (variables : List Variable) (flow : ℕ) (point : List Bool) (from to : ℕ) → taken_from 0 (λ v. 1) variables point ≤ n → AllByRecursion (λ v. v.edge.from ≢ v.edge.to) variables → IsBalanced variables flow point from to →
    (b : Bool) → (from == to) ≡ b → HasChosenTrail variables flow point from to
follow n variables flow point from to room apart balanced true e =
    let same : from ≡ to = grind arith in
    record { trail = []; steps = same; no_more = λ f. omega arith; chosen = tt }
follow zero variables flow point from to room apart balanced false e =
    let differ : from ≢ to = grind arith in
    let s = one_step variables flow point from to differ apart balanced in
    let f = s.fewer in
    let bad : ⊥ = omega arith in absurd bad
follow (suc n) variables flow point from to room apart balanced false e =
    let differ : from ≢ to = grind arith in
    let s = one_step variables flow point from to differ apart balanced in
    let room' : taken_from 0 (λ v. 1) variables (slice_set point s.k false) ≤ n = let f = s.fewer in omega arith in
    let rest = follow n variables flow (slice_set point s.k false) s.v.edge.to to room' apart s.balanced (s.v.edge.to == to) refl in
    record {
      trail = s.k ∷ rest.trail;
      steps = (s.v, s.stands, s.of_flow, s.starts, rest.steps);
      no_more = λ f.
          let m = rest.no_more f in
          let c = sum-cons variables f s.k rest.trail s.v s.stands in
          let at : 0 + s.k ≡ s.k = omega arith in
          let t = ap (λ j. taken_from 0 f variables (slice_set point j false) + f s.v) (sym at) ∙ away-count f 0 variables point s.k s.v s.stands (ap (is_chosen point) at ∙ s.chosen) in
          omega arith;
      chosen = (s.chosen, all-away point s.k rest.trail rest.chosen);
    }

pub balanced : (variables : List Variable) (flow : ℕ) (point : List Bool) (from to : ℕ) → AllByRecursion (λ v. v.edge.from ≢ v.edge.to) variables → IsBalanced variables flow point from to → HasChosenTrail variables flow point from to
balanced variables flow point from to apart b = follow (taken_from 0 (λ v. 1) variables point) variables flow point from to (omega arith) apart b (from == to) refl
