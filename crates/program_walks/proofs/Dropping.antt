-- Loops that go from the end of a list to its front.
use Rattle.std.proofs.Common.{◌≡◌, ℕ, zero, suc, ◌+◌, ◌-◌, ◌*◌, ◌^◌, ◌≤◌, ◌<◌, cond, List, [], ◌∷◌, length, drop, get_or, sum_by, refl, sym, ◌∙◌, ap, ap₂, arith}
use Rattle.std.proofs.lemmas.List.Sums.{sum_by-cons}
use Rattle.merlin_model.specs.declared.policy.Symbol.{Symbol}
use Rattle.merlin_model.specs.Words.{crosses, crossings}
use Rattle.cutoff_program.specs.declared.flow.Flow.{Flow}
use Rattle.cutoff_program.proofs.Ways.{crossings-cons}
use Rattle.program_walks.specs.Loads.{load_by}
use Rattle.program_walks.proofs.Turning.{defaults}

pub drop-one : {X : Type 0} (xs : List X) (i j : ℕ) (d : X) → i < length xs → j ≡ i + 1 → drop i xs ≡ get_or xs i d ∷ drop j xs
drop-one [] i j d h e = absurd (omega arith)
drop-one (x ∷ xs) zero j d h e = ap (λ k. x ∷ drop k (x ∷ xs)) (sym e)
drop-one (x ∷ xs) (suc i) j d h e = drop-one xs i (i + 1) d (omega arith) refl ∙ ap (λ k. get_or xs i d ∷ drop k (x ∷ xs)) (let s : suc (i + 1) ≡ j = omega (arith, e) in s)

pub drop-all : {X : Type 0} (xs : List X) (i : ℕ) → length xs ≤ i → drop i xs ≡ []
drop-all [] zero h = refl
drop-all [] (suc i) h = refl
drop-all (x ∷ xs) zero h = absurd (omega arith)
drop-all (x ∷ xs) (suc i) h = drop-all xs i (omega arith)

-- A step more at the front of a walk.

pub crossings-one : (w : List Symbol) (u v place : ℕ) (d : Symbol) → place < length w → 0 < place → crossings (drop (place - 1) w) u v ≡ cond (crosses u v (get_or w (place - 1) d, get_or w place d)) 1 0 + crossings (drop place w) u v
crossings-one w u v place d h p =
    let first = drop-one w (place - 1) place d (omega arith) (omega arith) in
    let second = drop-one w place (place + 1) d h refl in
    ap (λ xs. crossings xs u v) (first ∙ ap (λ ys. get_or w (place - 1) d ∷ ys) second)
    ∙ crossings-cons (get_or w (place - 1) d) (get_or w place d) (drop (place + 1) w) u v
    ∙ ap (λ ys. cond (crosses u v (get_or w (place - 1) d, get_or w place d)) 1 0 + crossings ys u v) (sym second)

-- A list is no longer than what is left of it and what came before.

pub sum-drop : {X : Type 0} (f : X → ℕ) (xs : List X) (i : ℕ) → sum_by f (drop i xs) ≤ sum_by f xs
sum-drop f [] zero = omega arith
sum-drop f [] (suc i) = omega arith
sum-drop f (x ∷ xs) zero = omega arith
sum-drop f (x ∷ xs) (suc i) = let h = sum-drop f xs i in let s = sum_by-cons f x xs in omega (arith, h, s)

pub load-drop : (flows : List Flow) (walks : List (List Symbol)) (u v i : ℕ) → load_by (drop i flows) (drop i walks) u v ≤ load_by flows walks u v
load-drop [] walks u v zero = omega arith
load-drop [] walks u v (suc i) = omega arith
load-drop (f ∷ flows) [] u v zero = omega arith
load-drop (f ∷ flows) [] u v (suc i) = none (drop i flows)
  where
    none : (fs : List Flow) → load_by fs [] u v ≤ 0
    none [] = omega arith
    none (g ∷ fs) = omega arith
load-drop (f ∷ flows) (w ∷ walks) u v zero = omega arith
load-drop (f ∷ flows) (w ∷ walks) u v (suc i) = let h = load-drop flows walks u v i in let t = more (f.rate * crossings w u v) (load_by flows walks u v) in omega (arith, h, t)
  where
    more : (a b : ℕ) → b ≤ a + b
    more a b = omega arith

-- the last symbol of a walk goes nowhere
pub crossings-last : (w : List Symbol) (u v : ℕ) → crossings (drop (length w - 1) w) u v ≡ 0
crossings-last [] u v = refl
crossings-last (x ∷ []) u v = refl
crossings-last (x ∷ y ∷ w) u v = ap (λ k. crossings (drop k (x ∷ y ∷ w)) u v) (let s : length (x ∷ y ∷ w) - 1 ≡ suc (length (y ∷ w) - 1) = omega arith in s) ∙ crossings-last (y ∷ w) u v

abbrev pub no_flow : Flow
no_flow = record { rate = 0; vertices = 0; edges = [] }

pub load-step : (flows : List Flow) (walks : List (List Symbol)) (u v number now : ℕ) (f : Flow) (w : List Symbol) → 0 < number → number ≤ length walks → length walks ≡ length flows → now ≡ load_by (drop number flows) (drop number walks) u v → f ≡ get_or flows (number - 1) no_flow → w ≡ get_or walks (number - 1) [] →
    now + f.rate * crossings w u v ≤ load_by flows walks u v
load-step flows walks u v number now f w p h size is ef ew =
    let a = drop-one flows (number - 1) number no_flow (omega (arith, p, h, size)) (omega (arith, p)) in
    let b = drop-one walks (number - 1) number [] (omega (arith, p, h)) (omega (arith, p)) in
    let m = load-drop flows walks u v (number - 1) in
    let e = ap₂ (λ fs ws. load_by fs ws u v) a b in
    let t = ap₂ (λ x y. x.rate * crossings y u v) ef ew in
    more _ _ _ _ _ m e t is
  where
    more : (whole part term mine now : ℕ) {rest : ℕ} → part ≤ whole → part ≡ term + rest → mine ≡ term → now ≡ rest → now + mine ≤ whole
    more whole part term mine now h e t i = omega arith

pub sum-step : {X : Type 0} (f : X → ℕ) (xs : List X) (place now : ℕ) (x d : X) → 0 < place → place ≤ length xs → now ≡ sum_by f (drop place xs) → x ≡ get_or xs (place - 1) d → now + f x ≤ sum_by f xs
sum-step f xs place now x d p h is ex =
    let a = drop-one xs (place - 1) place d (omega (arith, p, h)) (omega (arith, p)) in
    let m = sum-drop f xs (place - 1) in
    let e = ap (sum_by f) a ∙ sum_by-cons f (get_or xs (place - 1) d) (drop place xs) in
    let t = ap f ex in
    more _ _ _ _ _ m e t is
  where
    more : (whole part term mine now : ℕ) {rest : ℕ} → part ≤ whole → part ≡ term + rest → mine ≡ term → now ≡ rest → now + mine ≤ whole
    more whole part term mine now h e t i = omega arith

-- The same where what stands past the end of a list is anything.
pub load-fits : (flows listed : List Flow) (walks : List (List Symbol)) (walk w : List Symbol) (u v number now count : ℕ) (f : Flow) → 0 < number → number ≤ length walks → length walks ≡ length flows → now ≡ load_by (drop number flows) (drop number walks) u v →
    listed ≡ flows → w ≡ get_or walks (number - 1) w → walk ≡ w → count ≡ crossings walk u v → load_by flows walks u v ≤ 2 ^ 45 → now + (get_or listed (number - 1) f).rate * count ≤ 2 ^ 45
load-fits flows listed walks walk w u v number now count f p h size is same ew here crossed small =
    let a : get_or listed (number - 1) f ≡ get_or flows (number - 1) no_flow = ap (λ fs. get_or fs (number - 1) f) same ∙ defaults flows (number - 1) f no_flow (omega (arith, p, h, size)) in
    let b : walk ≡ get_or walks (number - 1) [] = here ∙ ew ∙ defaults walks (number - 1) w [] (omega (arith, p, h)) in
    let s = load-step flows walks u v number now (get_or listed (number - 1) f) walk p h size is a b in
    let t = ap (λ n. (get_or listed (number - 1) f).rate * n) crossed in
    omega (arith, s, t, small)

pub cost-fits : {X : Type 0} (f : X → ℕ) (xs listed : List X) (place now : ℕ) (x d : X) (load weight : ℕ) → 0 < place → place ≤ length xs → now ≡ sum_by f (drop place xs) → listed ≡ xs → x ≡ get_or listed (place - 1) d → f x ≡ load * weight → sum_by f xs ≤ 2 ^ 45 → now + load * weight ≤ 2 ^ 45
cost-fits f xs listed place now x d load weight p h is same ex fx small =
    let s = sum-step f xs place now x d p h is (ex ∙ ap (λ l. get_or l (place - 1) d) same) in
    omega (arith, s, fx, small)
