-- The coefficients and the right side of a leaf that is made from numbers at vertices.
use Rattle.std.proofs.Common.{◌≡◌, ◌≢◌, ℕ, zero, suc, ◌+◌, ◌≤◌, ◌<◌, ◌==◌, Bool, true, false, cond, ℤ, pos, negsuc, ◌+ℤ◌, ◌*ℤ◌, List, [], ◌∷◌, ◌++◌, map, length, Option, None, Some, slice_get, get_or, refl, sym, ◌∙◌, ap, arith, length-append}
use Rattle.std.proofs.lemmas.Int.{ints, clamps}
use Rattle.std.proofs.lemmas.List.{length-map}
use Rattle.std.specs.List.{range_with_len}
use Rattle.merlin_model.specs.declared.network.DirectedLink.{DirectedLink}
use Rattle.merlin_model.specs.declared.policy.Value.{Value}
use Rattle.merlin_model.specs.Programs.{Row, no_row, total, coefficient_if}
use Rattle.merlin_model.specs.Trees.{coefficient_in, weighted_coefficient, weighted_right}
use Rattle.merlin_model.proofs.Sums.{total-add, total-same, total-zero, total-inside, coefficient_in-cons}
use Rattle.cutoff_program.specs.declared.flow.Problem.{Problem}
use Rattle.cutoff_program.specs.declared.flow.Flow.{Flow}
use Rattle.cutoff_program.specs.declared.flow.Variable.{Variable}
use Rattle.cutoff_program.specs.Flows.{flow_row, link_row, rate_over, variables_of, program_at, room, last_of, count_if, net_out, length_of, with_entry, entries_from, flow_right, flow_rows_from, link_rows_from, cutoff_row}
use Rattle.cutoff_program.specs.Limits.{IsEdgeOf, IsProblem}
use Rattle.price_candidates.specs.Leaves.{capacity_of, Pricing, Bare, Lengths, OnLink, IsPriced, flow_weights, link_weights, row_weights, leaf_from, price_of, priced_right, link_of, prices_lengths}
use Rattle.price_candidates.proofs.Places.{some_some, none_some, flow-of}
use Rattle.price_candidates.proofs.Dots.{dot, dot-append, dot-map, dot-weights}

-- What a row has at a variable.

entry : (k n : ℕ) (z : ℤ) (es : List (ℕ × ℤ)) → coefficient_in k (with_entry n z es) ≡ coefficient_if (n == k) z +ℤ coefficient_in k es
entry k n (pos zero) es = nothing (n == k) (coefficient_in k es)
  where
    nothing : (b : Bool) (t : ℤ) → t ≡ coefficient_if b (pos 0) +ℤ t
    nothing true t = omega (arith, ints)
    nothing false t = omega (arith, ints)
entry k n (pos (suc m)) es = coefficient_in-cons k (n, pos (suc m)) es
entry k n (negsuc m) es = coefficient_in-cons k (n, negsuc m) es

pub entries-before : (k n : ℕ) (f : Variable → ℤ) (vs : List Variable) → k < n → coefficient_in k (entries_from n f vs) ≡ pos 0
entries-before k n f [] h = refl
entries-before k n f (v ∷ vs) h =
    let other : (n == k) ≡ false = grind arith in
    entry k n (f v) (entries_from (n + 1) f vs) ∙ by (n == k) other (entries-before k (n + 1) f vs (omega arith))
  where
    by : (b : Bool) → b ≡ false → {t : ℤ} → t ≡ pos 0 → coefficient_if b (f v) +ℤ t ≡ pos 0
    by true e h = absurd (let bad : true ≡ false → ⊥ = λ x. cc in bad e)
    by false e h = omega (arith, ints)

pub entries-at : (k n j : ℕ) (f : Variable → ℤ) (vs : List Variable) (v : Variable) → k ≡ n + j → slice_get vs j ≡ Some v → coefficient_in k (entries_from n f vs) ≡ f v
entries-at k n j f [] v e s = absurd (none_some s)
entries-at k n zero f (w ∷ vs) v e s =
    let here : (n == k) ≡ true = grind arith in
    let rest = entries-before k (n + 1) f vs (omega arith) in
    entry k n (f w) (entries_from (n + 1) f vs) ∙ by (n == k) here rest ∙ ap f (some_some s)
  where
    by : (b : Bool) → b ≡ true → {t : ℤ} → t ≡ pos 0 → coefficient_if b (f w) +ℤ t ≡ f w
    by true e h = omega (arith, ints)
    by false e h = absurd (let bad : false ≡ true → ⊥ = λ x. cc in bad e)
entries-at k n (suc j) f (w ∷ vs) v e s =
    let other : (n == k) ≡ false = grind arith in
    entry k n (f w) (entries_from (n + 1) f vs) ∙ by (n == k) other (entries-at k (n + 1) j f vs v (omega arith) s)
  where
    by : (b : Bool) → b ≡ false → {t z : ℤ} → t ≡ z → coefficient_if b (f w) +ℤ t ≡ z
    by true e h = absurd (let bad : true ≡ false → ⊥ = λ x. cc in bad e)
    by false e h = omega (arith, ints)

-- The rows of flows.

abbrev flow_sum : (ℕ → ℕ → ℕ) → Variable → ℕ → List Flow → ℤ
flow_sum y v n [] = pos 0
flow_sum y v n (flow ∷ flows) = total (map (λ u. pos (y n u) *ℤ net_out n u v) (range_with_len 0 (last_of flow + 1))) +ℤ flow_sum y v (n + 1) flows

same-size : {X : Type 0} (f : ℕ → ℕ) (g : ℕ → X) (us : List ℕ) → length (map f us) ≡ length (map g us)
same-size f g us = length-map us f ∙ sym (length-map us g)

flow-column : (problem : Problem) (y : ℕ → ℕ → ℕ) (k : ℕ) (v : Variable) → slice_get (variables_of problem) k ≡ Some v → (n : ℕ) (flows : List Flow) →
    dot (λ row. coefficient_in k row.entries) (flow_weights y n flows) (flow_rows_from problem n flows) ≡ flow_sum y v n flows
flow-column problem y k v e n [] = refl
flow-column problem y k v e n (flow ∷ flows) =
    dot-append g (map (λ u. y n u) us) (flow_weights y (n + 1) flows) (map (flow_row problem n flow) us) (flow_rows_from problem (n + 1) flows) (same-size (λ u. y n u) (flow_row problem n flow) us)
    ∙ ap (λ t. t +ℤ dot g (flow_weights y (n + 1) flows) (flow_rows_from problem (n + 1) flows))
    (dot-map g (λ u. y n u) (flow_row problem n flow) us
    ∙ total-same (λ u. pos (y n u) *ℤ g (flow_row problem n flow u)) (λ u. pos (y n u) *ℤ net_out n u v) us (λ u. ap (λ z. pos (y n u) *ℤ z) (entries-at k 0 k (net_out n u) (variables_of problem) v (omega arith) e)))
    ∙ ap (λ t. total (map (λ u. pos (y n u) *ℤ net_out n u v) us) +ℤ t) (flow-column problem y k v e (n + 1) flows)
  where
    us : List ℕ
    us = range_with_len 0 (last_of flow + 1)

    g : Row → ℤ
    g row = coefficient_in k row.entries

elsewhere : (y : ℕ → ℕ) (v : Variable) (n : ℕ) (us : List ℕ) → v.flow ≢ n → total (map (λ u. pos (y u) *ℤ net_out n u v) us) ≡ pos 0
elsewhere y v n us h = total-zero (λ u. pos (y u) *ℤ net_out n u v) us (λ u. by u (v.flow == n) refl)
  where
    by : (u : ℕ) (b : Bool) → (v.flow == n) ≡ b → pos (y u) *ℤ cond b (cond (v.edge.from == u) (pos 1) (cond (v.edge.to == u) (negsuc 0) (pos 0))) (pos 0) ≡ pos 0
    by u true e = let bad : ⊥ = grind arith in absurd bad
    by u false e = omega (arith, ints)

here : (y : ℕ → ℕ) (v : Variable) (n m : ℕ) → v.flow ≡ n → v.edge.from < m → v.edge.to < m → v.edge.from ≢ v.edge.to →
    total (map (λ u. pos (y u) *ℤ net_out n u v) (range_with_len 0 m)) +ℤ pos (y v.edge.to) ≡ pos (y v.edge.from)
here y v n m is from to apart =
    sums (total-same (λ u. pos (y u) *ℤ net_out n u v) (λ u. coefficient_if (v.edge.from == u) out +ℤ coefficient_if (v.edge.to == u) into) us (λ u. by u (v.flow == n) refl (v.edge.from == u) refl (v.edge.to == u) refl)
    ∙ total-add (λ u. coefficient_if (v.edge.from == u) out) (λ u. coefficient_if (v.edge.to == u) into) us)
    (total-inside (λ u. true) v.edge.from out 0 m (omega arith) (omega arith))
    (total-inside (λ u. true) v.edge.to into 0 m (omega arith) (omega arith))
  where
    us : List ℕ
    us = range_with_len 0 m

    out : ℤ
    out = pos (y v.edge.from)

    into : ℤ
    into = negsuc 0 *ℤ pos (y v.edge.to)

    sums : {t a b : ℤ} → t ≡ a +ℤ b → a ≡ out → b ≡ into → t +ℤ pos (y v.edge.to) ≡ out
    sums e f g = omega (arith, ints)

    by : (u : ℕ) (a : Bool) → (v.flow == n) ≡ a → (b : Bool) → (v.edge.from == u) ≡ b → (c : Bool) → (v.edge.to == u) ≡ c →
        pos (y u) *ℤ cond a (cond b (pos 1) (cond c (negsuc 0) (pos 0))) (pos 0) ≡ coefficient_if b out +ℤ coefficient_if c into
    by u false e b f c g = let bad : ⊥ = grind arith in absurd bad
    by u true e true f true g = let bad : ⊥ = grind arith in absurd bad
    by u true e true f false g = let same : v.edge.from ≡ u = grind arith in let s = ap y same in omega (arith, ints)
    by u true e false f true g = let same : v.edge.to ≡ u = grind arith in let s = ap y same in omega (arith, ints)
    by u true e false f false g = omega (arith, ints)

flow_sum-none : (y : ℕ → ℕ → ℕ) (v : Variable) (n : ℕ) (flows : List Flow) → v.flow < n → flow_sum y v n flows ≡ pos 0
flow_sum-none y v n [] h = refl
flow_sum-none y v n (flow ∷ flows) h =
    let first = elsewhere (y n) v n (range_with_len 0 (last_of flow + 1)) (omega arith) in
    let rest = flow_sum-none y v (n + 1) flows (omega arith) in
    omega (arith, ints)

flow_sum-at : (links : List DirectedLink) (y : ℕ → ℕ → ℕ) (v : Variable) (n j : ℕ) (flows : List Flow) (flow : Flow) → v.flow ≡ n + j → slice_get flows j ≡ Some flow → IsEdgeOf links (last_of flow) v.edge →
    flow_sum y v n flows +ℤ pos (y v.flow v.edge.to) ≡ pos (y v.flow v.edge.from)
flow_sum-at links y v n j [] flow e s is = absurd (none_some s)
flow_sum-at links y v n zero (f ∷ flows) flow e s is =
    let at : v.flow ≡ n = omega arith in
    let size : last_of f ≡ last_of flow = ap last_of (some_some s) in
    let a = is.starts in let b = is.ends in
    let first = here (y n) v n (last_of f + 1) at (omega arith) (omega arith) is.apart in
    let rest = flow_sum-none y v (n + 1) flows (omega arith) in
    let p = ap (λ m. y m v.edge.to) at in
    let q = ap (λ m. y m v.edge.from) at in
    omega (arith, ints)
flow_sum-at links y v n (suc j) (f ∷ flows) flow e s is =
    let first = elsewhere (y n) v n (range_with_len 0 (last_of f + 1)) (omega arith) in
    let rest = flow_sum-at links y v (n + 1) j flows flow (omega arith) s is in
    omega (arith, ints)

-- The rows of links.

links-none : (problem : Problem) (cutoff : Option Value) (g : Row → ℤ) (n : ℕ) (links : List DirectedLink) → dot g (link_weights None n links) (link_rows_from problem cutoff n links) ≡ pos 0
links-none problem cutoff g n [] = refl
links-none problem cutoff g n (directed ∷ links) = let ih = links-none problem cutoff g (n + 1) links in omega (arith, ints)

links-before : (problem : Problem) (cutoff : Option Value) (g : Row → ℤ) (link n : ℕ) (links : List DirectedLink) → link < n → dot g (link_weights (Some link) n links) (link_rows_from problem cutoff n links) ≡ pos 0
links-before problem cutoff g link n [] h = refl
links-before problem cutoff g link n (directed ∷ links) h = let other : (link == n) ≡ false = grind arith in by (link == n) other (links-before problem cutoff g link (n + 1) links (omega arith))
  where
    by : (b : Bool) → b ≡ false → {t : ℤ} → t ≡ pos 0 → pos (count_if b 1) *ℤ g (link_row problem cutoff n directed) +ℤ t ≡ pos 0
    by true e h = absurd (let bad : true ≡ false → ⊥ = λ x. cc in bad e)
    by false e h = omega (arith, ints)

links-at : (problem : Problem) (cutoff : Option Value) (g : Row → ℤ) (link n j : ℕ) (links : List DirectedLink) (found : DirectedLink) → link ≡ n + j → slice_get links j ≡ Some found →
    dot g (link_weights (Some link) n links) (link_rows_from problem cutoff n links) ≡ g (link_row problem cutoff link found)
links-at problem cutoff g link n j [] found e h = absurd (none_some h)
links-at problem cutoff g link n zero (directed ∷ links) found e h =
    let same : (link == n) ≡ true = grind arith in
    let at : n ≡ link = omega arith in
    by (link == n) same (links-before problem cutoff g link (n + 1) links (omega arith)) ∙ ap (λ l. g (link_row problem cutoff l directed)) at ∙ ap (λ w. g (link_row problem cutoff link w)) (some_some h)
  where
    by : (b : Bool) → b ≡ true → {t : ℤ} → t ≡ pos 0 → pos (count_if b 1) *ℤ g (link_row problem cutoff n directed) +ℤ t ≡ g (link_row problem cutoff n directed)
    by true e h = omega (arith, ints)
    by false e h = absurd (let bad : false ≡ true → ⊥ = λ x. cc in bad e)
links-at problem cutoff g link n (suc j) (directed ∷ links) found e h = let other : (link == n) ≡ false = grind arith in by (link == n) other (links-at problem cutoff g link (n + 1) j links found (omega arith) h)
  where
    by : (b : Bool) → b ≡ false → {t z : ℤ} → t ≡ z → pos (count_if b 1) *ℤ g (link_row problem cutoff n directed) +ℤ t ≡ z
    by true e h = absurd (let bad : true ≡ false → ⊥ = λ x. cc in bad e)
    by false e h = omega (arith, ints)

-- All rows.

flow-size : (problem : Problem) (y : ℕ → ℕ → ℕ) (n : ℕ) (flows : List Flow) → length (flow_weights y n flows) ≡ length (flow_rows_from problem n flows)
flow-size problem y n [] = refl
flow-size problem y n (flow ∷ flows) =
    let us : List ℕ = range_with_len 0 (last_of flow + 1) in
    let a = length-append (map (λ u. y n u) us) (flow_weights y (n + 1) flows) in
    let b = length-append (map (flow_row problem n flow) us) (flow_rows_from problem (n + 1) flows) in
    let c = same-size (λ u. y n u) (flow_row problem n flow) us in
    let ih = flow-size problem y (n + 1) flows in
    omega arith

link-size : (problem : Problem) (cutoff : Option Value) (link : Option ℕ) (n : ℕ) (links : List DirectedLink) → length (link_weights link n links) ≡ length (link_rows_from problem cutoff n links)
link-size problem cutoff link n [] = refl
link-size problem cutoff link n (directed ∷ links) = ap suc (link-size problem cutoff link (n + 1) links)

tail-size : (problem : Problem) (cutoff : Option Value) (link : Option ℕ) (last : ℕ) → length (link_weights link 0 problem.links ++ last ∷ []) ≡ length (link_rows_from problem cutoff 0 problem.links ++ cutoff_row problem cutoff ∷ [])
tail-size problem cutoff link last =
    let a = length-append (link_weights link 0 problem.links) (last ∷ []) in
    let b = length-append (link_rows_from problem cutoff 0 problem.links) (cutoff_row problem cutoff ∷ []) in
    let f = link-size problem cutoff link 0 problem.links in
    omega arith

pub row-size : (problem : Problem) (cutoff : Option Value) (y : ℕ → ℕ → ℕ) (pricing : Pricing) → length (row_weights problem y pricing) ≡ length (program_at problem cutoff).rows
row-size problem cutoff y pricing =
    let a = length-append (flow_weights y 0 problem.flows) (link_weights (link_of pricing) 0 problem.links ++ count_if (prices_lengths pricing) 1 ∷ []) in
    let b = length-append (flow_rows_from problem 0 problem.flows) (link_rows_from problem cutoff 0 problem.links ++ cutoff_row problem cutoff ∷ []) in
    let c = flow-size problem y 0 problem.flows in
    let d = tail-size problem cutoff (link_of pricing) (count_if (prices_lengths pricing) 1) in
    omega arith

all-rows : (problem : Problem) (cutoff : Option Value) (y : ℕ → ℕ → ℕ) (pricing : Pricing) (g : Row → ℤ) →
    total (map (λ w. w.weight *ℤ g (get_or (program_at problem cutoff).rows w.row no_row)) (leaf_from problem y pricing))
    ≡ dot g (flow_weights y 0 problem.flows) (flow_rows_from problem 0 problem.flows)
    +ℤ (dot g (link_weights (link_of pricing) 0 problem.links) (link_rows_from problem cutoff 0 problem.links) +ℤ pos (count_if (prices_lengths pricing) 1) *ℤ g (cutoff_row problem cutoff))
all-rows problem cutoff y pricing g =
    let all = dot-weights (program_at problem cutoff).rows g 0 (row_weights problem y pricing) (program_at problem cutoff).rows (row-size problem cutoff y pricing)
    (λ j. let e : 0 + j ≡ j = omega arith in ap (λ k. get_or (program_at problem cutoff).rows k no_row) e) in
    let outer = dot-append g (flow_weights y 0 problem.flows) (link_weights (link_of pricing) 0 problem.links ++ count_if (prices_lengths pricing) 1 ∷ [])
    (flow_rows_from problem 0 problem.flows) (link_rows_from problem cutoff 0 problem.links ++ cutoff_row problem cutoff ∷ []) (flow-size problem y 0 problem.flows) in
    let inner = dot-append g (link_weights (link_of pricing) 0 problem.links) (count_if (prices_lengths pricing) 1 ∷ []) (link_rows_from problem cutoff 0 problem.links) (cutoff_row problem cutoff ∷ []) (link-size problem cutoff (link_of pricing) 0 problem.links) in
    omega (arith, ints)

-- what the priced row gives
slice_get_none : {X : Type 0} (xs : List X) (i : ℕ) → slice_get xs i ≡ None → length xs ≤ i
slice_get_none [] i e = omega arith
slice_get_none (x ∷ xs) zero e = absurd (none_some (sym e))
slice_get_none (x ∷ xs) (suc i) e = let ih = slice_get_none xs i e in omega arith

abbrev priced_link : Problem → Option Value → (Row → ℤ) → ℕ → Option DirectedLink → ℤ
priced_link problem cutoff g link None = pos 0
priced_link problem cutoff g link (Some directed) = g (link_row problem cutoff link directed)

abbrev priced : Problem → Option Value → (Row → ℤ) → Pricing → ℤ
priced problem cutoff g Bare = pos 0
priced problem cutoff g Lengths = g (cutoff_row problem cutoff)
priced problem cutoff g (OnLink link) = priced_link problem cutoff g link (slice_get problem.links link)

priced-rows : (problem : Problem) (cutoff : Option Value) (g : Row → ℤ) (pricing : Pricing) → IsPriced problem pricing →
    dot g (link_weights (link_of pricing) 0 problem.links) (link_rows_from problem cutoff 0 problem.links) +ℤ pos (count_if (prices_lengths pricing) 1) *ℤ g (cutoff_row problem cutoff)
    ≡ priced problem cutoff g pricing
priced-rows problem cutoff g Bare is = let n = links-none problem cutoff g 0 problem.links in omega (arith, ints)
priced-rows problem cutoff g Lengths is = let n = links-none problem cutoff g 0 problem.links in omega (arith, ints)
priced-rows problem cutoff g (OnLink link) is = by (slice_get problem.links link) refl
  where
    by : (o : Option DirectedLink) → slice_get problem.links link ≡ o → dot g (link_weights (Some link) 0 problem.links) (link_rows_from problem cutoff 0 problem.links) +ℤ pos 0 *ℤ g (cutoff_row problem cutoff) ≡ priced_link problem cutoff g link o
    by None e = let past : length problem.links ≤ link = slice_get_none problem.links link e in let bad : ⊥ = omega arith in absurd bad
    by (Some directed) e = let n = links-at problem cutoff g link 0 link problem.links directed (omega arith) e in omega (arith, ints)

priced-at : (problem : Problem) (cutoff : Option Value) (k : ℕ) (v : Variable) (pricing : Pricing) → IsPriced problem pricing → slice_get (variables_of problem) k ≡ Some v →
    priced problem cutoff (λ row. coefficient_in k row.entries) pricing ≡ pos (price_of problem pricing v)
priced-at problem cutoff k v Bare is e = refl
priced-at problem cutoff k v Lengths is e = entries-at k 0 k (λ v. pos (length_of problem.objective problem v)) (variables_of problem) v (omega arith) e
priced-at problem cutoff k v (OnLink link) is e = by (slice_get problem.links link) refl
  where
    by : (o : Option DirectedLink) → slice_get problem.links link ≡ o → priced_link problem cutoff (λ row. coefficient_in k row.entries) link o ≡ pos (rate_over link v)
    by None f = let past : length problem.links ≤ link = slice_get_none problem.links link f in let bad : ⊥ = omega arith in absurd bad
    by (Some directed) f = entries-at k 0 k (λ v. pos (rate_over link v)) (variables_of problem) v (omega arith) e

-- the coefficient of a variable
pub column : (problem : Problem) (cutoff : Option Value) (y : ℕ → ℕ → ℕ) (pricing : Pricing) (k : ℕ) (v : Variable) → IsProblem problem → IsPriced problem pricing → slice_get (variables_of problem) k ≡ Some v →
    weighted_coefficient (program_at problem cutoff) (leaf_from problem y pricing) k +ℤ pos (y v.flow v.edge.to) ≡ pos (y v.flow v.edge.from + price_of problem pricing v)
column problem cutoff y pricing k v is priced_is e =
    let g : Row → ℤ = λ row. coefficient_in k row.entries in
    let f = flow-of problem k v is e in
    let all = all-rows problem cutoff y pricing g in
    let flows = flow-column problem y k v e 0 problem.flows in
    let at = flow_sum-at problem.links y v 0 f.j problem.flows f.flow f.is f.stands f.edge in
    let p = priced-rows problem cutoff g pricing priced_is ∙ priced-at problem cutoff k v pricing priced_is e in
    omega (arith, ints)

-- The right sides.

-- the numbers at the ends of all flows
abbrev pub ends_from : (ℕ → ℕ → ℕ) → ℕ → List Flow → ℕ
ends_from y n [] = 0
ends_from y n (flow ∷ flows) = y n (last_of flow) + ends_from y (n + 1) flows

swap : (a b : ℕ) → (a == b) ≡ (b == a)
swap a b = by (a == b) refl (b == a) refl
  where
    by : (x : Bool) → (a == b) ≡ x → (z : Bool) → (b == a) ≡ z → x ≡ z
    by true e true f = refl
    by false e false f = refl
    by true e false f = let bad : ⊥ = grind arith in absurd bad
    by false e true f = let bad : ⊥ = grind arith in absurd bad

pub some-last : (flow : Flow) → 0 < last_of flow
some-last flow = grind (arith, clamps)

right-here : (y : ℕ → ℕ) (flow : Flow) → y 0 ≡ 0 → total (map (λ u. pos (y u) *ℤ flow_right flow u) (range_with_len 0 (last_of flow + 1))) +ℤ pos (y (last_of flow)) ≡ pos 0
right-here y flow zero_at =
    sums (total-same (λ u. pos (y u) *ℤ flow_right flow u) (λ u. coefficient_if (0 == u) (pos 0) +ℤ coefficient_if (last_of flow == u) into) us (λ u. by u (u == 0) refl (u == last_of flow) refl ∙ ap (λ b. coefficient_if b (pos 0) +ℤ coefficient_if (u == last_of flow) into) (swap u 0) ∙ ap (λ b. coefficient_if (0 == u) (pos 0) +ℤ coefficient_if b into) (swap u (last_of flow)))
    ∙ total-add (λ u. coefficient_if (0 == u) (pos 0)) (λ u. coefficient_if (last_of flow == u) into) us)
    (total-inside (λ u. true) 0 (pos 0) 0 (last_of flow + 1) (omega arith) (omega arith))
    (total-inside (λ u. true) (last_of flow) into 0 (last_of flow + 1) (omega arith) (omega arith))
  where
    us : List ℕ
    us = range_with_len 0 (last_of flow + 1)

    into : ℤ
    into = negsuc 0 *ℤ pos (y (last_of flow))

    sums : {t a b : ℤ} → t ≡ a +ℤ b → a ≡ pos 0 → b ≡ into → t +ℤ pos (y (last_of flow)) ≡ pos 0
    sums e f g = omega (arith, ints)

    by : (u : ℕ) (b : Bool) → (u == 0) ≡ b → (c : Bool) → (u == last_of flow) ≡ c → pos (y u) *ℤ cond b (pos 1) (cond c (negsuc 0) (pos 0)) ≡ coefficient_if b (pos 0) +ℤ coefficient_if c into
    by u true e true f = let l = some-last flow in let bad : ⊥ = grind arith in absurd bad
    by u true e false f = let at : u ≡ 0 = grind arith in let s = ap y at in omega (arith, ints)
    by u false e true f = let at : u ≡ last_of flow = grind arith in let s = ap y at in omega (arith, ints)
    by u false e false f = omega (arith, ints)

flow-rights : (problem : Problem) (y : ℕ → ℕ → ℕ) → ((n : ℕ) → y n 0 ≡ 0) → (n : ℕ) (flows : List Flow) →
    dot (λ row. row.right) (flow_weights y n flows) (flow_rows_from problem n flows) +ℤ pos (ends_from y n flows) ≡ pos 0
flow-rights problem y zero_at n [] = refl
flow-rights problem y zero_at n (flow ∷ flows) =
    let a = dot-append g (map (λ u. y n u) us) (flow_weights y (n + 1) flows) (map (flow_row problem n flow) us) (flow_rows_from problem (n + 1) flows) (same-size (λ u. y n u) (flow_row problem n flow) us) in
    let b = dot-map g (λ u. y n u) (flow_row problem n flow) us in
    let c = right-here (y n) flow (zero_at n) in
    let ih = flow-rights problem y zero_at (n + 1) flows in
    omega (arith, ints)
  where
    us : List ℕ
    us = range_with_len 0 (last_of flow + 1)

    g : Row → ℤ
    g row = row.right

right-at : (problem : Problem) (cutoff : Option Value) (pricing : Pricing) → IsPriced problem pricing → priced problem cutoff (λ row. row.right) pricing ≡ priced_right problem cutoff pricing
right-at problem cutoff Bare is = refl
right-at problem cutoff Lengths is = refl
right-at problem cutoff (OnLink link) is = by (slice_get problem.links link) refl
  where
    by : (o : Option DirectedLink) → slice_get problem.links link ≡ o → priced_link problem cutoff (λ row. row.right) link o ≡ room problem.objective cutoff (capacity_of o)
    by None f = let past : length problem.links ≤ link = slice_get_none problem.links link f in let bad : ⊥ = omega arith in absurd bad
    by (Some directed) f = refl

pub rights : (problem : Problem) (cutoff : Option Value) (y : ℕ → ℕ → ℕ) (pricing : Pricing) → IsPriced problem pricing → ((n : ℕ) → y n 0 ≡ 0) →
    weighted_right (program_at problem cutoff) (leaf_from problem y pricing) +ℤ pos (ends_from y 0 problem.flows) ≡ priced_right problem cutoff pricing
rights problem cutoff y pricing priced_is zero_at =
    let all = all-rows problem cutoff y pricing (λ row. row.right) in
    let f = flow-rights problem y zero_at 0 problem.flows in
    let p = priced-rows problem cutoff (λ row. row.right) pricing priced_is ∙ right-at problem cutoff pricing priced_is in
    omega (arith, ints)
