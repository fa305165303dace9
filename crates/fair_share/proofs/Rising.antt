-- Shares that rise.
use Rattle.std.proofs.Common.{◌≡◌, ℕ, zero, suc, ◌+◌, ◌≤◌, ◌<◌, Bool, true, false, cond, List, [], ◌∷◌, length, map, filter, sum, Some, unwrap_or, slice_get, get_or, set, refl, sym, ap, ap₂, subst, arith}
use Rattle.std.specs.List.{All, AllZip, zip}
use Rattle.std.proofs.lemmas.List.Sums.{sum_by-cons}
use Rattle.std.proofs.lemmas.Option.{slice_get_within}
use Rattle.fair_share.specs.declared.cap.Cap.{Cap}
use Rattle.fair_share.specs.declared.cap.Tenant.{Tenant}
use Rattle.fair_share.specs.Shares.{given_to, Demands, is_beneath, shares_beneath, IsFeasible, IsBoundBy}
use Rattle.fair_share.specs.Filling.{AreUsed, HaveRoomAbove}
use Rattle.fair_share.proofs.Levels.{as_many}

Some-same : {X : Type 0} {a b : X} → Some a ≡ Some b → a ≡ b
Some-same {X} {a} {b} e = ap (λ o. unwrap_or o a) e

pub sum-step : (U : Tenant → Bool) (t : Tenant) (ts : List Tenant) (x : ℕ) (xs : List ℕ) → sum (given_to U (t ∷ ts) (x ∷ xs)) ≡ cond (U t) x 0 + sum (given_to U ts xs)
sum-step U t ts x xs = by (U t)
  where
    by : (b : Bool) → sum (map (λ p. p.1) (cond b ((t, x) ∷ filter (λ p. U p.0) (zip ts xs)) (filter (λ p. U p.0) (zip ts xs)))) ≡ cond b x 0 + sum (given_to U ts xs)
    by true = sum_by-cons (λ n. n) x (given_to U ts xs)
    by false = omega arith

as-rising : (xs ys : List ℕ) → length ys ≡ length xs → ((i : ℕ) → i < length xs → get_or xs i 0 ≤ get_or ys i 0) → AllZip (λ x y. x ≤ y) xs ys
as-rising [] [] e h = tt
as-rising [] (y ∷ ys) e h = let no : ⊥ = omega arith in absurd no
as-rising (x ∷ xs) [] e h = let no : ⊥ = omega arith in absurd no
as-rising (x ∷ xs) (y ∷ ys) e h = (h 0 (omega arith), as-rising xs ys (omega arith) (λ i l. h (suc i) (omega arith)))

sum-rises : (U : Tenant → Bool) (ts : List Tenant) (xs ys : List ℕ) → AllZip (λ x y. x ≤ y) xs ys → sum (given_to U ts xs) ≤ sum (given_to U ts ys)
sum-rises U [] xs ys h = omega arith
sum-rises U (t ∷ ts) [] [] h = omega arith
sum-rises U (t ∷ ts) [] (y ∷ ys) h = absurd h
sum-rises U (t ∷ ts) (x ∷ xs) [] h = absurd h
sum-rises U (t ∷ ts) (x ∷ xs) (y ∷ ys) h =
    let a = sum-step U t ts x xs in
    let b = sum-step U t ts y ys in
    let c = sum-rises U ts xs ys h.1 in
    by (U t) a b c h.0
  where
    by : (b : Bool) → sum (given_to U (t ∷ ts) (x ∷ xs)) ≡ cond b x 0 + sum (given_to U ts xs) → sum (given_to U (t ∷ ts) (y ∷ ys)) ≡ cond b y 0 + sum (given_to U ts ys) →
        sum (given_to U ts xs) ≤ sum (given_to U ts ys) → x ≤ y → sum (given_to U (t ∷ ts) (x ∷ xs)) ≤ sum (given_to U (t ∷ ts) (y ∷ ys))
    by true a b c d = omega arith
    by false a b c d = omega arith

-- where the sum doesn't rise, nothing does
same-beneath : (U : Tenant → Bool) (ts : List Tenant) (xs ys : List ℕ) → AllZip (λ x y. x ≤ y) xs ys → sum (given_to U ts ys) ≤ sum (given_to U ts xs) → given_to U ts xs ≡ given_to U ts ys
same-beneath U [] xs ys h le = refl
same-beneath U (t ∷ ts) [] [] h le = refl
same-beneath U (t ∷ ts) [] (y ∷ ys) h le = absurd h
same-beneath U (t ∷ ts) (x ∷ xs) [] h le = absurd h
same-beneath U (t ∷ ts) (x ∷ xs) (y ∷ ys) h le = by (U t) (sum-step U t ts x xs) (sum-step U t ts y ys) (sum-rises U ts xs ys h.1) h.0 (same-beneath U ts xs ys h.1)
  where
    by : (b : Bool) → sum (given_to U (t ∷ ts) (x ∷ xs)) ≡ cond b x 0 + sum (given_to U ts xs) → sum (given_to U (t ∷ ts) (y ∷ ys)) ≡ cond b y 0 + sum (given_to U ts ys) →
        sum (given_to U ts xs) ≤ sum (given_to U ts ys) → x ≤ y → (sum (given_to U ts ys) ≤ sum (given_to U ts xs) → given_to U ts xs ≡ given_to U ts ys) →
        map (λ p. p.1) (cond b ((t, x) ∷ filter (λ p. U p.0) (zip ts xs)) (filter (λ p. U p.0) (zip ts xs))) ≡ map (λ p. p.1) (cond b ((t, y) ∷ filter (λ p. U p.0) (zip ts ys)) (filter (λ p. U p.0) (zip ts ys)))
    by true a b c d ih = let e : x ≡ y = omega arith in ap₂ (λ z zs. z ∷ zs) e (ih (omega arith))
    by false a b c d ih = ih (omega arith)

pub keeps-bound : (d : Demands) (shares higher : List ℕ) (tenant : Tenant) (share c : ℕ) → IsFeasible d higher → length shares ≡ length d.tenants → length higher ≡ length shares →
    ((i : ℕ) → i < length shares → get_or shares i 0 ≤ get_or higher i 0) → IsBoundBy d shares tenant share c → IsBoundBy d higher tenant share c
keeps-bound d shares higher tenant share c feasible l m rise b =
    let r = as-rising shares higher m rise in
    let within = feasible.caps c b.cap b.stands in
    let full = b.full in
    let up = sum-rises (is_beneath d c) d.tenants shares higher r in
    let same : shares_beneath d c shares ≡ shares_beneath d c higher = same-beneath (is_beneath d c) d.tenants shares higher r (omega arith) in
    record { cap = b.cap; stands = b.stands; beneath = b.beneath; full = subst (λ xs. sum xs ≡ b.cap.rate) same b.full; even = subst (All (λ other. other ≤ share + 1)) same b.even }

-- what one share adds to what is given beneath a cap
pub set-adds : (U : Tenant → Bool) (ts : List Tenant) (xs : List ℕ) (i more : ℕ) (tenant : Tenant) → length xs ≡ length ts → slice_get ts i ≡ Some tenant →
    sum (given_to U ts (set xs i (get_or xs i 0 + more))) ≡ sum (given_to U ts xs) + cond (U tenant) more 0
set-adds U [] xs i more tenant l e = let no : ⊥ = cc in absurd no
set-adds U (t ∷ ts) [] i more tenant l e = let no : ⊥ = omega arith in absurd no
set-adds U (t ∷ ts) (x ∷ xs) zero more tenant l e =
    let same : t ≡ tenant = Some-same e in
    subst (λ u. sum (given_to U (t ∷ ts) ((x + more) ∷ xs)) ≡ sum (given_to U (t ∷ ts) (x ∷ xs)) + cond (U u) more 0) same
    (let a = sum-step U t ts (x + more) xs in let b = sum-step U t ts x xs in by (U t) a b)
  where
    by : (b : Bool) → sum (given_to U (t ∷ ts) ((x + more) ∷ xs)) ≡ cond b (x + more) 0 + sum (given_to U ts xs) → sum (given_to U (t ∷ ts) (x ∷ xs)) ≡ cond b x 0 + sum (given_to U ts xs) →
        sum (given_to U (t ∷ ts) ((x + more) ∷ xs)) ≡ sum (given_to U (t ∷ ts) (x ∷ xs)) + cond b more 0
    by true a b = omega arith
    by false a b = omega arith
set-adds U (t ∷ ts) (x ∷ xs) (suc i) more tenant l e =
    let a = sum-step U t ts x (set xs i (get_or xs i 0 + more)) in
    let b = sum-step U t ts x xs in
    let c = set-adds U ts xs i more tenant (omega arith) e in
    omega arith

set-demands : (ts : List Tenant) (xs : List ℕ) (i y : ℕ) (tenant : Tenant) → AllZip (λ t x. x ≤ t.demand) ts xs → slice_get ts i ≡ Some tenant → y ≤ tenant.demand → AllZip (λ t x. x ≤ t.demand) ts (set xs i y)
set-demands [] xs i y tenant h e le = let no : ⊥ = cc in absurd no
set-demands (t ∷ ts) [] i y tenant h e le = absurd h
set-demands (t ∷ ts) (x ∷ xs) zero y tenant h e le = (subst (λ u. y ≤ u.demand) (sym (Some-same e)) le, h.1)
set-demands (t ∷ ts) (x ∷ xs) (suc i) y tenant h e le = (h.0, set-demands ts xs i y tenant h.1 e le)

pub one-more : (d : Demands) (shares used : List ℕ) (i : ℕ) (tenant : Tenant) → IsFeasible d shares → AreUsed d shares used → slice_get d.tenants i ≡ Some tenant →
    get_or shares i 0 < tenant.demand → HaveRoomAbove d.caps tenant.under used 1 → IsFeasible d (set shares i (get_or shares i 0 + 1))
one-more d shares used i tenant feasible are e lt room = record {
  demands = set-demands d.tenants shares i (get_or shares i 0 + 1) tenant feasible.demands e (omega arith);
  caps = λ c cap s. by c cap s (is_beneath d c tenant) refl (set-adds (is_beneath d c) d.tenants shares i 1 tenant (sym (as_many (λ (t : Tenant) x. x ≤ t.demand) d.tenants shares feasible.demands)) e);
}
  where
    by : (c : ℕ) (cap : Cap) → slice_get d.caps c ≡ Some cap → (b : Bool) → is_beneath d c tenant ≡ b →
        sum (given_to (is_beneath d c) d.tenants (set shares i (get_or shares i 0 + 1))) ≡ sum (given_to (is_beneath d c) d.tenants shares) + cond (is_beneath d c tenant) 1 0 →
        sum (given_to (is_beneath d c) d.tenants (set shares i (get_or shares i 0 + 1))) ≤ cap.rate
    by c cap s true f a =
        let r = room c cap s f in
        let u = are.each c (slice_get_within d.caps c cap s) in
        let g : cond {A = ℕ} (is_beneath d c tenant) 1 0 ≡ 1 = ap (λ (b : Bool). cond {A = ℕ} b 1 0) f in
        omega arith
    by c cap s false f a =
        let k = feasible.caps c cap s in
        let g : cond {A = ℕ} (is_beneath d c tenant) 1 0 ≡ 0 = ap (λ (b : Bool). cond {A = ℕ} b 1 0) f in
        omega arith
