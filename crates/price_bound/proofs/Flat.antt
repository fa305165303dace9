-- Numbers at vertices, one flow after the other.
use Rattle.std.proofs.Common.{◌≡◌, ◌≢◌, ℕ, zero, suc, ◌+◌, ◌≤◌, ◌<◌, ◌^◌, ◌==◌, Bool, true, false, cond, List, [], ◌∷◌, ◌++◌, map, take, length, replicate, Option, None, Some, slice_get, refl, sym, ◌∙◌, ap, subst, append_assoc, length-append, arith}
use Rattle.std.proofs.lemmas.List.{append-nil}
use Rattle.std.proofs.lemmas.Option.{get_or_from_slice_get}
use Rattle.std.proofs.lemmas.List.FromFn.{length-map-range_with_len}
use Rattle.std.specs.List.{AllByRecursion, range_with_len}
use Rattle.cutoff_program.proofs.Lists.{all_both}
use Rattle.cutoff_program.specs.declared.flow.Flow.{Flow}
use Rattle.cutoff_program.specs.Flows.{last_of}
use Rattle.cutoff_program.specs.Easy.{EachFlowHas}
use Rattle.graph_search.specs.Graphs.{known_at}
use Rattle.graph_search.proofs.Places.{take-next, none-some}
use Rattle.price_candidates.specs.Leaves.{flow_weights, AreSmallNumbers}
use Rattle.price_candidates.specs.Tried.{missing, only}
use Rattle.price_bound.specs.Numbers.{numbers_at}

pub map-same : {X : Type 0} (f g : ℕ → X) (xs : List ℕ) → ((u : ℕ) → f u ≡ g u) → map f xs ≡ map g xs
map-same f g [] h = refl
map-same f g (x ∷ xs) h = ap (λ y. y ∷ map f xs) (h x) ∙ ap (λ ys. g x ∷ ys) (map-same f g xs h)

map-places : {X Y : Type 0} (g : X → Y) (f : ℕ → Y) (xs : List X) (a : ℕ) → ((j : ℕ) (x : X) → slice_get xs j ≡ Some x → f (a + j) ≡ g x) → map g xs ≡ map f (range_with_len a (length xs))
map-places g f [] a h = refl
map-places g f (x ∷ xs) a h =
    let here : f a ≡ g x = ap f (let e : a ≡ a + 0 = omega arith in e) ∙ h 0 x refl in
    ap (λ y. y ∷ map g xs) (sym here) ∙ ap (λ ys. f a ∷ ys) (map-places g f xs (a + 1) (λ j y e. ap f (let e : a + 1 + j ≡ a + suc j = omega arith in e) ∙ h (suc j) y e))

-- a list is what it has at each place
pub map-known : {Y : Type 0} (g : Option ℕ → Y) (xs : List (Option ℕ)) → map g xs ≡ map (λ u. g (known_at xs u)) (range_with_len 0 (length xs))
map-known g xs = map-places g (λ u. g (known_at xs u)) xs 0 (λ j x e. let at : 0 + j ≡ j = omega arith in ap (λ i. g (known_at xs i)) at ∙ ap g (get_or_from_slice_get xs j x None e))

pub zeros-from : (a c : ℕ) → (let zero_of : ℕ = 0 in replicate c zero_of) ≡ map (λ u. 0) (range_with_len a c)
zeros-from a zero = refl
zeros-from a (suc c) = ap (λ ys. 0 ∷ ys) (zeros-from (a + 1) c)

-- what the flow that is cut has, and what the others have
pub part-cut : (n cut : ℕ) (distances : List (Option ℕ)) (flow : Flow) → n ≡ cut → length distances ≡ last_of flow + 1 → map missing distances ≡ numbers_at (only cut (λ u. missing (known_at distances u))) n flow
part-cut n cut distances flow e size =
    let same : (n == cut) ≡ true = grind arith in
    map-known missing distances ∙ ap (λ m. map (λ u. missing (known_at distances u)) (range_with_len 0 m)) size
    ∙ sym (ap (λ b. map (λ u. cond b (missing (known_at distances u)) 0) (range_with_len 0 (last_of flow + 1))) same)

pub part-left : (n cut count : ℕ) (new : ℕ → ℕ) (flow : Flow) → n ≢ cut → count ≡ last_of flow + 1 → (let zero_of : ℕ = 0 in replicate count zero_of) ≡ numbers_at (only cut new) n flow
part-left n cut count new flow h size =
    let other : (n == cut) ≡ false = grind arith in
    zeros-from 0 count ∙ ap (λ m. map (λ u. 0) (range_with_len 0 m)) size
    ∙ sym (ap (λ b. map (λ u. cond b (new u) 0) (range_with_len 0 (last_of flow + 1))) other)

flat-append : (at : ℕ → ℕ → ℕ) (n : ℕ) (xs ys : List Flow) → flow_weights at n (xs ++ ys) ≡ flow_weights at n xs ++ flow_weights at (n + length xs) ys
flat-append at n [] ys = ap (λ m. flow_weights at m ys) (let e : n ≡ n + 0 = omega arith in e)
flat-append at n (x ∷ xs) ys =
    let e : n + 1 + length xs ≡ n + suc (length xs) = omega arith in
    ap (λ l. numbers_at at n x ++ l) (flat-append at (n + 1) xs ys ∙ ap (λ m. flow_weights at (n + 1) xs ++ flow_weights at m ys) e) ∙ sym (append_assoc (numbers_at at n x) (flow_weights at (n + 1) xs) (flow_weights at (n + suc (length xs)) ys))

pub length-taken : {X : Type 0} (xs : List X) (k : ℕ) (x : X) → slice_get xs k ≡ Some x → length (take k xs) ≡ k
length-taken [] k x e = absurd (none-some e)
length-taken (y ∷ xs) zero x e = refl
length-taken (y ∷ xs) (suc k) x e = ap suc (length-taken xs k x e)

pub flat-next : (at : ℕ → ℕ → ℕ) (flows : List Flow) (n : ℕ) (flow : Flow) → slice_get flows n ≡ Some flow → flow_weights at 0 (take (n + 1) flows) ≡ flow_weights at 0 (take n flows) ++ numbers_at at n flow
flat-next at flows n flow e =
    ap (flow_weights at 0) (take-next flows n flow e) ∙ flat-append at 0 (take n flows) (flow ∷ [])
    ∙ ap (λ m. flow_weights at 0 (take n flows) ++ flow_weights at m (flow ∷ [])) (let l = length-taken flows n flow e in let e : 0 + length (take n flows) ≡ n = omega arith in e)
    ∙ ap (λ l. flow_weights at 0 (take n flows) ++ l) (append-nil (numbers_at at n flow))

-- other numbers for one flow
abbrev pub with_flow : (ℕ → ℕ → ℕ) → ℕ → (ℕ → ℕ) → ℕ → ℕ → ℕ
with_flow at n new m u = cond (m == n) (new u) (at m u)

pub with-other : (at : ℕ → ℕ → ℕ) (n : ℕ) (new : ℕ → ℕ) (m : ℕ) → m ≢ n → (m == n) ≡ false
with-other at n new m h = grind arith

flat-with : (at : ℕ → ℕ → ℕ) (n : ℕ) (new : ℕ → ℕ) (m : ℕ) (flows : List Flow) → m + length flows ≤ n → flow_weights (with_flow at n new) m flows ≡ flow_weights at m flows
flat-with at n new m [] h = refl
flat-with at n new m (flow ∷ flows) h =
    let other : (m == n) ≡ false = grind arith in
    ap (λ b. map (λ u. cond b (new u) (at m u)) (range_with_len 0 (last_of flow + 1)) ++ flow_weights (with_flow at n new) (m + 1) flows) other
    ∙ ap (λ l. numbers_at at m flow ++ l) (flat-with at n new (m + 1) flows (omega arith))

pub flat-more : (at : ℕ → ℕ → ℕ) (flows : List Flow) (n : ℕ) (flow : Flow) (new : ℕ → ℕ) → slice_get flows n ≡ Some flow →
    flow_weights (with_flow at n new) 0 (take (n + 1) flows) ≡ flow_weights at 0 (take n flows) ++ map new (range_with_len 0 (last_of flow + 1))
flat-more at flows n flow new e =
    let same : (n == n) ≡ true = grind arith in
    flat-next (with_flow at n new) flows n flow e
    ∙ ap (λ l. l ++ numbers_at (with_flow at n new) n flow) (flat-with at n new 0 (take n flows) (let l = length-taken flows n flow e in omega arith))
    ∙ ap (λ b. flow_weights at 0 (take n flows) ++ map (λ u. cond b (new u) (at n u)) (range_with_len 0 (last_of flow + 1))) same

pub small-with : (at : ℕ → ℕ → ℕ) (n : ℕ) (new : ℕ → ℕ) → AreSmallNumbers at → new 0 ≡ 0 → ((u : ℕ) → new u ≤ 2 ^ 60) → AreSmallNumbers (with_flow at n new)
small-with at n new small start low = record { start = λ m. by m (m == n); low = λ m u. below m u (m == n) }
  where
    by : (m : ℕ) (b : Bool) → cond b (new 0) (at m 0) ≡ 0
    by m true = start
    by m false = small.start m

    below : (m u : ℕ) (b : Bool) → cond b (new u) (at m u) ≤ 2 ^ 60
    below m u true = low u
    below m u false = small.low m u

-- Lists with something for each flow.

pub each-more : {X : Type 0} (Q : ℕ → Flow → X → Type 0) (n : ℕ) (flows : List Flow) (xs : List X) (flow : Flow) (x : X) → EachFlowHas Q n flows xs → Q (n + length flows) flow x → EachFlowHas Q n (flows ++ flow ∷ []) (xs ++ x ∷ [])
each-more Q n [] [] flow x each q = (subst (λ m. Q m flow x) (let e : n + 0 ≡ n = omega arith in e) q, tt)
each-more Q n [] (y ∷ xs) flow x each q = absurd each
each-more Q n (f ∷ flows) [] flow x each q = absurd each
each-more Q n (f ∷ flows) (y ∷ xs) flow x each q = (each.0, each-more Q (n + 1) flows xs flow x each.1 (subst (λ m. Q m flow x) (let e : n + suc (length flows) ≡ n + 1 + length flows = omega arith in e) q))

pub each-so : {X : Type 0} (Q R : ℕ → Flow → X → Type 0) (bound n : ℕ) (flows : List Flow) (xs : List X) → ((m : ℕ) (flow : Flow) (x : X) → m < bound → Q m flow x → R m flow x) → n + length flows ≤ bound → EachFlowHas Q n flows xs → EachFlowHas R n flows xs
each-so Q R bound n [] [] so h each = tt
each-so Q R bound n [] (x ∷ xs) so h each = absurd each
each-so Q R bound n (flow ∷ flows) [] so h each = absurd each
each-so Q R bound n (flow ∷ flows) (x ∷ xs) so h each = (so n flow x (omega arith) each.0, each-so Q R bound (n + 1) flows xs so (omega arith) each.1)

-- All numbers of flows are small, and there are as many whatever they are.

numbers-small : (at : ℕ → ℕ → ℕ) (n a c : ℕ) → AreSmallNumbers at → AllByRecursion (λ m. m ≤ 2 ^ 60) (map (λ u. at n u) (range_with_len a c))
numbers-small at n a zero small = tt
numbers-small at n a (suc c) small = (small.low n a, numbers-small at n (a + 1) c small)

pub all-small : (at : ℕ → ℕ → ℕ) (n : ℕ) (flows : List Flow) → AreSmallNumbers at → AllByRecursion (λ m. m ≤ 2 ^ 60) (flow_weights at n flows)
all-small at n [] small = tt
all-small at n (flow ∷ flows) small = all_both (λ m. m ≤ 2 ^ 60) (numbers_at at n flow) (flow_weights at (n + 1) flows) (numbers-small at n 0 (last_of flow + 1) small) (all-small at (n + 1) flows small)

zeros-both : (a b : ℕ) → (let zero_of : ℕ = 0 in replicate (a + b) zero_of) ≡ (let zero_of : ℕ = 0 in replicate a zero_of ++ replicate b zero_of)
zeros-both zero b = ap (λ c. let zero_of : ℕ = 0 in replicate c zero_of) (let e : zero + b ≡ b = omega arith in e)
zeros-both (suc a) b = ap (λ c. let zero_of : ℕ = 0 in replicate c zero_of) (let e : suc a + b ≡ suc (a + b) = omega arith in e) ∙ ap (λ ys. 0 ∷ ys) (zeros-both a b)

pub zeros-flat : (at : ℕ → ℕ → ℕ) (n : ℕ) (flows : List Flow) → (let zero_of : ℕ = 0 in replicate (length (flow_weights at n flows)) zero_of) ≡ flow_weights (λ n u. 0) n flows
zeros-flat at n [] = refl
zeros-flat at n (flow ∷ flows) =
    let l = length-append (numbers_at at n flow) (flow_weights at (n + 1) flows) in
    let m = length-map-range_with_len (λ u. at n u) 0 (last_of flow + 1) in
    let e : length (numbers_at at n flow ++ flow_weights at (n + 1) flows) ≡ last_of flow + 1 + length (flow_weights at (n + 1) flows) = omega arith in
    ap (λ c. let zero_of : ℕ = 0 in replicate c zero_of) e ∙ zeros-both (last_of flow + 1) (length (flow_weights at (n + 1) flows))
    ∙ ap (λ l. l ++ (let zero_of : ℕ = 0 in replicate (length (flow_weights at (n + 1) flows)) zero_of)) (zeros-from 0 (last_of flow + 1))
    ∙ ap (λ l. map (λ u. 0) (range_with_len 0 (last_of flow + 1)) ++ l) (zeros-flat at (n + 1) flows)

-- as many zeros as there are numbers
pub zeros-put : (numbers empty zeros : List ℕ) (at : ℕ → ℕ → ℕ) (flows : List Flow) → numbers ≡ flow_weights at 0 flows → empty ≡ [] → zeros ≡ empty ++ (let zero_of : ℕ = 0 in replicate (length numbers) zero_of) → zeros ≡ flow_weights (λ n u. 0) 0 flows
zeros-put numbers empty zeros at flows flat none put =
    put ∙ ap (λ l. l ++ (let zero_of : ℕ = 0 in replicate (length numbers) zero_of)) none ∙ ap (λ l. let zero_of : ℕ = 0 in replicate (length l) zero_of) flat ∙ zeros-flat at 0 flows
