-- What is given beneath each cap, from what is given directly under each: caps hand their sums up, the last cap first.
use Rattle.std.proofs.Common.{◌≡◌, ℕ, zero, suc, ◌+◌, ◌*◌, ◌≤◌, ◌<◌, ◌⊎◌, inl, inr, ◌==◌, ◌≢◌, ◌||◌, Bool, true, false, cond, List, [], ◌∷◌, length, sum, take, replicate, Option, None, Some, MatchOption, slice_get, get_or, set, ltb, refl, sym, ◌∙◌, ap, subst, arith}
use Rattle.std.specs.Option.{option_map_or}
use Rattle.std.proofs.lemmas.Bool.{cases_eq, eqb-true, eq-eqb, ne_eqb, lt-ltb, le-ltb, cases_lt}
use Rattle.std.proofs.lemmas.Option.{slice_get_within}
use Rattle.std.proofs.lemmas.List.Sums.{sum_by-cons}
use Rattle.std.proofs.Math.Seq.{take-length}
use Rattle.std.proofs.lemmas.List.{length-set, get_or-set_same, get_or-set_other}
use Rattle.std.specs.Bool.{⊤}
use Rattle.fair_share.specs.declared.cap.Cap.{Cap}
use Rattle.fair_share.specs.declared.cap.Tenant.{Tenant}
use Rattle.fair_share.specs.Shares.{IsForest, cap_above, is_on_way, given_to}
use Rattle.fair_share.specs.Filling.{demands, is_under, AreDirect, AreUsed}
use Rattle.fair_share.proofs.Nesting.{met-bound}
use Rattle.fair_share.proofs.Rising.{sum-step}
use Rattle.fair_share.proofs.Filling.{zero-at}

-- sums over tests

sum-same : (U V : Tenant → Bool) (ts : List Tenant) (xs : List ℕ) → ((t : Tenant) → U t ≡ V t) → sum (given_to U ts xs) ≡ sum (given_to V ts xs)
sum-same U V [] xs h = refl
sum-same U V (t ∷ ts) [] h = refl
sum-same U V (t ∷ ts) (x ∷ xs) h =
    let a = sum-step U t ts x xs in
    let b = sum-step V t ts x xs in
    let c = sum-same U V ts xs h in
    let d : cond {A = ℕ} (U t) x 0 ≡ cond (V t) x 0 = ap (λ (u : Bool). cond {A = ℕ} u x 0) (h t) in
    omega arith

-- no tenant has both, so what has either is the sum of both
sum-either : (U V W : Tenant → Bool) (ts : List Tenant) (xs : List ℕ) → ((t : Tenant) → (n : ℕ) → cond (W t) n 0 ≡ cond (U t) n 0 + cond (V t) n 0) →
    sum (given_to W ts xs) ≡ sum (given_to U ts xs) + sum (given_to V ts xs)
sum-either U V W [] xs h = refl
sum-either U V W (t ∷ ts) [] h = refl
sum-either U V W (t ∷ ts) (x ∷ xs) h =
    let a = sum-step U t ts x xs in
    let b = sum-step V t ts x xs in
    let c = sum-step W t ts x xs in
    let d = sum-either U V W ts xs h in
    let e = h t x in
    omega arith

sum-cons : (x : ℕ) (xs : List ℕ) → sum (x ∷ xs) ≡ x + sum xs
sum-cons x xs = sum_by-cons (λ n. n) x xs

pub sum-within : (U : Tenant → Bool) (ts : List Tenant) (xs : List ℕ) → sum (given_to U ts xs) ≤ sum xs
sum-within U [] [] = omega arith
sum-within U [] (x ∷ xs) = omega arith
sum-within U (t ∷ ts) [] = omega arith
sum-within U (t ∷ ts) (x ∷ xs) = by (U t) (sum-step U t ts x xs) (sum-within U ts xs) (sum-cons x xs)
  where
    by : (b : Bool) → sum (given_to U (t ∷ ts) (x ∷ xs)) ≡ cond b x 0 + sum (given_to U ts xs) → sum (given_to U ts xs) ≤ sum xs → sum (x ∷ xs) ≡ x + sum xs → sum (given_to U (t ∷ ts) (x ∷ xs)) ≤ sum (x ∷ xs)
    by true a b c = omega arith
    by false a b c = omega arith

-- one tenant more

sum-take : (xs : List ℕ) (n : ℕ) → n < length xs → sum (take (suc n) xs) ≡ sum (take n xs) + get_or xs n 0
sum-take [] n l = let no : ⊥ = omega arith in absurd no
sum-take (x ∷ xs) zero l = let a = sum-cons x [] in omega arith
sum-take (x ∷ xs) (suc n) l =
    let a : sum (x ∷ take (suc n) xs) ≡ x + sum (take (suc n) xs) = sum-cons x (take (suc n) xs) in
    let b : sum (x ∷ take n xs) ≡ x + sum (take n xs) = sum-cons x (take n xs) in
    let c = sum-take xs n (omega arith) in
    omega arith

given-take : (U : Tenant → Bool) (ts : List Tenant) (xs : List ℕ) (n : ℕ) (t : Tenant) → length xs ≡ length ts → n < length ts → t ≡ get_or ts n t →
    sum (given_to U (take (suc n) ts) (take (suc n) xs)) ≡ sum (given_to U (take n ts) (take n xs)) + cond (U t) (get_or xs n 0) 0
given-take U [] xs n t l b e = let no : ⊥ = omega arith in absurd no
given-take U (u ∷ ts) [] n t l b e = let no : ⊥ = omega arith in absurd no
given-take U (u ∷ ts) (x ∷ xs) zero t l b e =
    let a = sum-step U u [] x [] in
    let d : cond {A = ℕ} (U t) x 0 ≡ cond (U u) x 0 = ap (λ v. cond {A = ℕ} (U v) x 0) e in
    omega arith
given-take U (u ∷ ts) (x ∷ xs) (suc n) t l b e =
    let a : sum (given_to U (u ∷ take (suc n) ts) (x ∷ take (suc n) xs)) ≡ cond (U u) x 0 + sum (given_to U (take (suc n) ts) (take (suc n) xs)) = sum-step U u (take (suc n) ts) x (take (suc n) xs) in
    let c : sum (given_to U (u ∷ take n ts) (x ∷ take n xs)) ≡ cond (U u) x 0 + sum (given_to U (take n ts) (take n xs)) = sum-step U u (take n ts) x (take n xs) in
    let d = given-take U ts xs n t (omega arith) (omega arith) e in
    omega arith

-- what is given directly so far, and that each tenant's share is within b
abbrev pub AreDirectSoFar : List Cap → List Tenant → List ℕ → ℕ → List ℕ → ℕ → Type 0
AreDirectSoFar caps ts xs n sums b = AreDirect caps (take n ts) (take n xs) sums × (sum (take n xs) ≤ n * b)

-- each sum has room for one share more
pub direct-room : (caps : List Cap) (ts : List Tenant) (xs sums : List ℕ) (n share : ℕ) → AreDirectSoFar caps ts xs n sums 18446744073709551615 → n ≤ 18446744073709551615 → share ≤ 18446744073709551615 →
    (c : ℕ) → c < length sums → get_or sums c 0 + share < 340282366920938463463374607431768211456
direct-room caps ts xs sums n share h l m c k =
    let a = h.0.each c (let z = h.0.as_many in omega arith) in
    let b = sum-within (is_under c) (take n ts) (take n xs) in
    let d = h.1 in
    omega arith

pub direct-step : (caps : List Cap) (ts : List Tenant) (xs sums sums' : List ℕ) (n b : ℕ) (t : Tenant) → AreDirectSoFar caps ts xs n sums b → length xs ≡ length ts → n < length ts → t ≡ get_or ts n t → get_or xs n 0 ≤ b →
    length sums' ≡ length sums → ((c : ℕ) → c < length sums → get_or sums' c 0 ≡ get_or sums c 0 + cond (option_map_or (λ k. k == c) t.under false) (get_or xs n 0) 0) → AreDirectSoFar caps ts xs (n + 1) sums' b
direct-step caps ts xs sums sums' n b t h l lt e small size more = subst (λ m. AreDirectSoFar caps ts xs m sums' b) (let one : suc n ≡ n + 1 = omega arith in one) (
  record {
    as_many = size ∙ h.0.as_many;
    each = λ c k. let a = more c (let z = h.0.as_many in omega arith) in let d = h.0.each c k in let g = given-take (is_under c) ts xs n t l lt e in omega arith;
  },
  (let s = sum-take xs n (omega arith) in let d = h.1 in let p : suc n * b ≡ n * b + b = omega arith in omega arith),
)

pub direct-none : (caps : List Cap) (ts : List Tenant) (xs sums : List ℕ) (b : ℕ) → sums ≡ replicate (length caps) zero → length sums ≡ length caps → AreDirectSoFar caps ts xs 0 sums b
direct-none caps ts xs sums b e l = (record { as_many = l; each = λ c k. ap (λ u. get_or u c 0) e ∙ zero-at (length caps) c }, omega arith)

pub direct-all : (caps : List Cap) (ts : List Tenant) (xs sums : List ℕ) (n b : ℕ) → AreDirectSoFar caps ts xs n sums b → n ≡ length ts → length xs ≡ length ts → AreDirect caps ts xs sums × (sum xs ≤ n * b)
direct-all caps ts xs sums n b h e l = (
  subst (λ us. AreDirect caps us xs sums) (ap (λ m. take m ts) e ∙ take-length ts) (subst (λ ys. AreDirect caps (take n ts) ys sums) (ap (λ m. take m xs) (e ∙ sym l) ∙ take-length xs) h.0),
  subst (λ ys. sum ys ≤ n * b) (ap (λ m. take m xs) (e ∙ sym l) ∙ take-length xs) h.1,
)

-- the first cap before place k on the way up, in at most n caps
abbrev first_before : List Cap → ℕ → ℕ → Option ℕ → Option ℕ
first_before caps zero k at = None
first_before caps (suc n) k None = None
first_before caps (suc n) k (Some p) = cond (ltb p k) (Some p) (first_before caps n k (cap_above caps p))

abbrev is_at : Option ℕ → ℕ → Bool
is_at at c = option_map_or (λ k. k == c) at false

-- where cap k hands its sum up: what has come to it goes on to the cap that it is under
abbrev hand : List Cap → ℕ → Option ℕ → Option ℕ
hand caps k None = None
hand caps k (Some j) = cond (j == k) (cap_above caps k) (Some j)

-- whether a tenant's share has come to cap c, where the caps from place k on have handed theirs up
abbrev has_come : List Cap → ℕ → ℕ → Tenant → Bool
has_come caps k c tenant = is_at (first_before caps (length caps) (cond (ltb c k) k (suc c)) tenant.under) c

-- the sums are what has come
pub record HasCome (caps : List Cap) (tenants : List Tenant) (shares sums : List ℕ) (k : ℕ) : Type 0 where
  pub as_many : length sums ≡ length caps
  pub each : (c : ℕ) → c < length caps → get_or sums c 0 ≡ sum (given_to (has_come caps k c) tenants shares)

at_or_past : (p k : ℕ) → k ≤ p → (p ≡ k) ⊎ (k < p)
at_or_past p k l = by (cases_lt k p)
  where
    by : (k < p) ⊎ (p ≤ k) → (p ≡ k) ⊎ (k < p)
    by (inl m) = inr m
    by (inr m) = inl (omega arith)

module _ (caps : List Cap) (forest : IsForest caps) where
  none-above : (p : ℕ) → length caps ≤ p → cap_above caps p ≡ None
  none-above p l = by (slice_get caps p) refl
    where
      by : (o : Option Cap) → slice_get caps p ≡ o → option_map_or (λ cap. cap.under) o None ≡ None
      by None e = refl
      by (Some cap) e = let lt = slice_get_within caps p cap e in absurd (omega arith)

  lower-above : (p u : ℕ) → cap_above caps p ≡ Some u → u < p
  lower-above p u e = by (slice_get caps p) refl e
    where
      by : (o : Option Cap) → slice_get caps p ≡ o → option_map_or (λ cap. cap.under) o None ≡ Some u → u < p
      by None f g = let no : ⊥ = cc in absurd no
      by (Some cap) f g = forest p u cap f g

  none-first : (n k : ℕ) → first_before caps n k None ≡ None
  none-first zero k = refl
  none-first (suc n) k = refl

  first-here : (n k p : ℕ) → p < k → first_before caps (suc n) k (Some p) ≡ Some p
  first-here n k p l = ap (λ b. cond b (Some p) (first_before caps n k (cap_above caps p))) (lt-ltb p k l)

  first-on : (n k p : ℕ) → k ≤ p → first_before caps (suc n) k (Some p) ≡ first_before caps n k (cap_above caps p)
  first-on n k p l = ap (λ b. cond b (Some p) (first_before caps n k (cap_above caps p))) (le-ltb p k l)

  abbrev Within : ℕ → Option ℕ → Type 0
  Within n at = MatchOption at ⊤ (λ p. p < n)

  -- one cap hands its sum up
  hands : (n k : ℕ) (at : Option ℕ) → Within n at → first_before caps n k at ≡ hand caps k (first_before caps n (suc k) at)
  hands zero k at w = refl
  hands (suc n) k None w = refl
  hands (suc n) k (Some p) w = by (hands n k (cap_above caps p)) (cases_lt p k)
    where
      above-within : Within n (cap_above caps p)
      above-within = by-above (cap_above caps p) refl
        where
          by-above : (o : Option ℕ) → cap_above caps p ≡ o → Within n o
          by-above None e = tt
          by-above (Some u) e = let l = lower-above p u e in omega arith

      here : p ≡ k → first_before caps n k (cap_above caps p) ≡ cap_above caps k
      here same = by-above (cap_above caps p) refl above-within
        where
          by-above : (o : Option ℕ) → cap_above caps p ≡ o → Within n o → first_before caps n k o ≡ cap_above caps k
          by-above None e v = none-first n k ∙ sym e ∙ ap (cap_above caps) same
          by-above (Some u) e v = at_u n v ∙ sym e ∙ ap (cap_above caps) same
            where
              at_u : (m : ℕ) → u < m → first_before caps m k (Some u) ≡ Some u
              at_u zero l = let no : ⊥ = omega arith in absurd no
              at_u (suc m) l = first-here m k u (let b = lower-above p u e in omega arith)

      by : (Within n (cap_above caps p) → first_before caps n k (cap_above caps p) ≡ hand caps k (first_before caps n (suc k) (cap_above caps p))) → (p < k) ⊎ (k ≤ p) →
          first_before caps (suc n) k (Some p) ≡ hand caps k (first_before caps (suc n) (suc k) (Some p))
      by rest (inl l) = first-here n k p l ∙ sym (ap (hand caps k) (first-here n (suc k) p (omega arith)) ∙ ap (λ b. cond b (cap_above caps k) (Some p)) (ne_eqb p k (λ e. let no : ⊥ = omega arith in no)))
      by rest (inr g) = on (at_or_past p k g)
        where
          on : (p ≡ k) ⊎ (k < p) → first_before caps (suc n) k (Some p) ≡ hand caps k (first_before caps (suc n) (suc k) (Some p))
          on (inl e) = first-on n k p g ∙ here e ∙ sym (ap (hand caps k) (first-here n (suc k) p (omega arith)) ∙ ap (λ b. cond b (cap_above caps k) (Some p)) (eq-eqb p k e))
          on (inr l) = first-on n k p g ∙ rest above-within ∙ sym (ap (hand caps k) (first-on n (suc k) p (omega arith)))

  far-none : (n k p : ℕ) → k ≤ p → length caps ≤ p → first_before caps n k (Some p) ≡ None
  far-none zero k p l m = refl
  far-none (suc n) k p l m = first-on n k p l ∙ ap (first_before caps n k) (none-above p m) ∙ none-first n k

  hands-any : (k : ℕ) (at : Option ℕ) → k < length caps → first_before caps (length caps) k at ≡ hand caps k (first_before caps (length caps) (suc k) at)
  hands-any k None l = none-first (length caps) k ∙ sym (ap (hand caps k) (none-first (length caps) (suc k)))
  hands-any k (Some p) l = by (cases_lt p (length caps))
    where
      by : (p < length caps) ⊎ (length caps ≤ p) → first_before caps (length caps) k (Some p) ≡ hand caps k (first_before caps (length caps) (suc k) (Some p))
      by (inl m) = hands (length caps) k (Some p) m
      by (inr m) = far-none (length caps) k p (omega arith) m ∙ sym (ap (hand caps k) (far-none (length caps) (suc k) p (omega arith) m))

  -- at first each tenant's share has come to the cap that it is under
  first-all : (n k : ℕ) (at : Option ℕ) (c : ℕ) → 0 < n → length caps ≤ k → c < k → is_at (first_before caps n k at) c ≡ is_at at c
  first-all zero k at c pos l b = let no : ⊥ = omega arith in absurd no
  first-all (suc n) k None c pos l b = refl
  first-all (suc n) k (Some p) c pos l b = by (cases_lt p k)
    where
      by : (p < k) ⊎ (k ≤ p) → is_at (first_before caps (suc n) k (Some p)) c ≡ (p == c)
      by (inl m) = ap (λ o. is_at o c) (first-here n k p m)
      by (inr m) = ap (λ o. is_at o c) (first-on n k p m ∙ ap (first_before caps n k) (none-above p (omega arith)) ∙ none-first n k) ∙ sym (ne_eqb p c (λ e. let no : ⊥ = omega arith in no))

  -- and at last to each cap that it is beneath
  first-last : (n : ℕ) (at : Option ℕ) (c : ℕ) → is_at (first_before caps n (suc c) at) c ≡ is_on_way caps n at c
  first-last zero at c = refl
  first-last (suc n) None c = refl
  first-last (suc n) (Some p) c = by (first-last n (cap_above caps p) c) (cases_lt p c)
    where
      unmet : p < c → is_on_way caps n (cap_above caps p) c ≡ false
      unmet l = at (is_on_way caps n (cap_above caps p) c) refl
        where
          at : (b : Bool) → is_on_way caps n (cap_above caps p) c ≡ b → b ≡ false
          at false e = refl
          at true e = absurd (above (cap_above caps p) refl e)
            where
              above : (o : Option ℕ) → cap_above caps p ≡ o → is_on_way caps n o c ≡ true → ⊥
              above o e m = met-under o e (met-bound caps forest n o c m)
                where
                  met-under : (o : Option ℕ) → cap_above caps p ≡ o → MatchOption o ⊥ (λ k. c ≤ k) → ⊥
                  met-under None e h = h
                  met-under (Some u) e h = let b = lower-above p u e in omega arith

      by : is_at (first_before caps n (suc c) (cap_above caps p)) c ≡ is_on_way caps n (cap_above caps p) c → (p < c) ⊎ (c ≤ p) →
          is_at (first_before caps (suc n) (suc c) (Some p)) c ≡ ((p == c) || is_on_way caps n (cap_above caps p) c)
      by rest (inl l) = ap (λ o. is_at o c) (first-here n (suc c) p (omega arith)) ∙ sym (ap (λ b. (p == c) || b) (unmet l) ∙ or-false (p == c))
        where
          or-false : (b : Bool) → (b || false) ≡ b
          or-false true = refl
          or-false false = refl
      by rest (inr g) = on (at_or_past p c g)
        where
          on : (p ≡ c) ⊎ (c < p) → is_at (first_before caps (suc n) (suc c) (Some p)) c ≡ ((p == c) || is_on_way caps n (cap_above caps p) c)
          on (inl e) = ap (λ o. is_at o c) (first-here n (suc c) p (omega arith)) ∙ (eq-eqb p c e ∙ sym (ap (λ b. b || is_on_way caps n (cap_above caps p) c) (eq-eqb p c e)))
          on (inr l) = ap (λ o. is_at o c) (first-on n (suc c) p (omega arith)) ∙ rest
              ∙ sym (ap (λ b. b || is_on_way caps n (cap_above caps p) c) (ne_eqb p c (λ e. let no : ⊥ = omega arith in no)))

  come-first : (c : ℕ) (tenant : Tenant) → c < length caps → is_under c tenant ≡ has_come caps (length caps) c tenant
  come-first c tenant l = sym (ap (λ j. is_at (first_before caps (length caps) j tenant.under) c) (ap (λ b. cond b (length caps) (suc c)) (lt-ltb c (length caps) l))
      ∙ first-all (length caps) (length caps) tenant.under c (omega arith) (omega arith) l)

  pub comes : (tenants : List Tenant) (shares sums : List ℕ) → AreDirect caps tenants shares sums → HasCome caps tenants shares sums (length caps)
  comes tenants shares sums direct = record { as_many = direct.as_many; each = λ c l. direct.each c l ∙ sum-same (is_under c) (has_come caps (length caps) c) tenants shares (λ t. come-first c t l) }

  pub come-last : (tenants : List Tenant) (shares sums : List ℕ) → HasCome caps tenants shares sums 0 → AreUsed (demands caps tenants) shares sums
  come-last tenants shares sums h = record { as_many = h.as_many; each = λ c l. h.each c l ∙ sum-same (has_come caps 0 c) (λ t. is_on_way caps (length caps) t.under c) tenants shares (λ t. ap (λ j. is_at (first_before caps (length caps) j t.under) c) (ap (λ b. cond b 0 (suc c)) (le-ltb c 0 (omega arith))) ∙ first-last (length caps) t.under c) }

  -- past the cap that hands its sum up nothing is new
  past-same : (k c : ℕ) (tenant : Tenant) → k ≤ c → has_come caps (suc k) c tenant ≡ has_come caps k c tenant
  past-same k c tenant l = ap (λ j. is_at (first_before caps (length caps) j tenant.under) c) (by (at_or_past c k l))
    where
      by : (c ≡ k) ⊎ (k < c) → cond (ltb c (suc k)) (suc k) (suc c) ≡ cond (ltb c k) k (suc c)
      by (inl e) = ap (λ b. cond b (suc k) (suc c)) (lt-ltb c (suc k) (omega arith)) ∙ ap suc (sym e) ∙ sym (ap (λ b. cond b k (suc c)) (le-ltb c k (omega arith)))
      by (inr m) = ap (λ b. cond b (suc k) (suc c)) (le-ltb c (suc k) (omega arith)) ∙ sym (ap (λ b. cond b k (suc c)) (le-ltb c k (omega arith)))

  before-is : (j c : ℕ) (tenant : Tenant) → c < j → has_come caps j c tenant ≡ is_at (first_before caps (length caps) j tenant.under) c
  before-is j c tenant l = ap (λ i. is_at (first_before caps (length caps) i tenant.under) c) (ap (λ b. cond b j (suc c)) (lt-ltb c j l))

  -- before it, what it hands on comes to the cap that it is under
  handed-none : (k c : ℕ) (o : Option ℕ) → cap_above caps k ≡ None → c < k → is_at (hand caps k o) c ≡ is_at o c
  handed-none k c None e l = refl
  handed-none k c (Some j) e l = by (j == k) refl
    where
      by : (b : Bool) → (j == k) ≡ b → is_at (cond b (cap_above caps k) (Some j)) c ≡ (j == c)
      by true f = ap (λ o. is_at o c) e ∙ sym (ne_eqb j c (λ g. let h = eqb-true j k f in let no : ⊥ = omega arith in no))
      by false f = refl

  handed-other : (k u c : ℕ) (o : Option ℕ) → cap_above caps k ≡ Some u → c < k → c ≢ u → is_at (hand caps k o) c ≡ is_at o c
  handed-other k u c None e l d = refl
  handed-other k u c (Some j) e l d = by (j == k) refl
    where
      by : (b : Bool) → (j == k) ≡ b → is_at (cond b (cap_above caps k) (Some j)) c ≡ (j == c)
      by true f = ap (λ o. is_at o c) e ∙ ne_eqb u c (λ g. d (sym g)) ∙ sym (ne_eqb j c (λ g. let h = eqb-true j k f in let no : ⊥ = omega arith in no))
      by false f = refl

  handed-on : (k u : ℕ) (o : Option ℕ) (n : ℕ) → cap_above caps k ≡ Some u → u < k → cond (is_at (hand caps k o) u) n 0 ≡ cond (is_at o u) n 0 + cond (is_at o k) n 0
  handed-on k u None n e l = refl
  handed-on k u (Some j) n e l = by (j == k) refl
    where
      by : (b : Bool) → (j == k) ≡ b → cond (is_at (cond b (cap_above caps k) (Some j)) u) n 0 ≡ cond (j == u) n 0 + cond b n 0
      by true f =
          let at : is_at (cap_above caps k) u ≡ true = ap (λ o. is_at o u) e ∙ eq-eqb u u refl in
          let off : (j == u) ≡ false = ne_eqb j u (λ g. let h = eqb-true j k f in let no : ⊥ = omega arith in no) in
          let a : cond {A = ℕ} (is_at (cap_above caps k) u) n 0 ≡ n = ap (λ (b : Bool). cond {A = ℕ} b n 0) at in
          let b : cond {A = ℕ} (j == u) n 0 ≡ 0 = ap (λ (b : Bool). cond {A = ℕ} b n 0) off in
          omega arith
      by false f = omega arith

  -- one cap more has handed its sum up: it is under no cap
  pub come-none : (tenants : List Tenant) (shares sums : List ℕ) (k : ℕ) → k < length caps → cap_above caps k ≡ None → HasCome caps tenants shares sums (suc k) → HasCome caps tenants shares sums k
  come-none tenants shares sums k l e h = record { as_many = h.as_many; each = λ c b. h.each c b ∙ sum-same (has_come caps (suc k) c) (has_come caps k c) tenants shares (λ t. by c t (cases_lt c k)) }
    where
      by : (c : ℕ) (t : Tenant) → (c < k) ⊎ (k ≤ c) → has_come caps (suc k) c t ≡ has_come caps k c t
      by c t (inr m) = past-same k c t m
      by c t (inl m) = before-is (suc k) c t (omega arith)
          ∙ sym (before-is k c t m ∙ ap (λ o. is_at o c) (hands-any k t.under l) ∙ handed-none k c (first_before caps (length caps) (suc k) t.under) e m)

  -- it is under cap u, whose sum has grown by its own
  pub come-some : (tenants : List Tenant) (shares sums : List ℕ) (k u : ℕ) → k < length caps → cap_above caps k ≡ Some u → HasCome caps tenants shares sums (suc k) →
      HasCome caps tenants shares (set sums u (get_or sums u 0 + get_or sums k 0)) k
  come-some tenants shares sums k u l e h = record { as_many = length-set sums u (get_or sums u 0 + get_or sums k 0) ∙ h.as_many; each = λ c b. at c b (cases_lt c k) }
    where
      below : u < k
      below = lower-above k u e

      grown : List ℕ
      grown = set sums u (get_or sums u 0 + get_or sums k 0)

      other : (c : ℕ) → c < length caps → c ≢ u → ((t : Tenant) → has_come caps (suc k) c t ≡ has_come caps k c t) → get_or grown c 0 ≡ sum (given_to (has_come caps k c) tenants shares)
      other c b d same = get_or-set_other sums u c (get_or sums u 0 + get_or sums k 0) 0 d ∙ h.each c b ∙ sum-same (has_come caps (suc k) c) (has_come caps k c) tenants shares same

      at : (c : ℕ) → c < length caps → (c < k) ⊎ (k ≤ c) → get_or grown c 0 ≡ sum (given_to (has_come caps k c) tenants shares)
      at c b (inr m) = other c b (λ g. let d = below in let no : ⊥ = omega arith in no) (λ t. past-same k c t m)
      at c b (inl m) = on (cases_eq c u)
        where
          on : (c ≡ u) ⊎ (c ≢ u) → get_or grown c 0 ≡ sum (given_to (has_come caps k c) tenants shares)
          on (inr d) = other c b d (λ t. before-is (suc k) c t (omega arith)
              ∙ sym (before-is k c t m ∙ ap (λ o. is_at o c) (hands-any k t.under l) ∙ handed-other k u c (first_before caps (length caps) (suc k) t.under) e m d))
          on (inl same) = subst (λ c. get_or grown c 0 ≡ sum (given_to (has_come caps k c) tenants shares)) (sym same) here
            where
              here : get_or grown u 0 ≡ sum (given_to (has_come caps k u) tenants shares)
              here =
                  let wide : u < length sums = (let a = h.as_many in omega arith) in
                  let a = get_or-set_same sums u (get_or sums u 0 + get_or sums k 0) 0 wide in
                  let b = h.each u (omega arith) in
                  let d = h.each k l in
                  let s = sum-either (has_come caps (suc k) u) (has_come caps (suc k) k) (has_come caps k u) tenants shares both in
                  omega arith
                where
                  both : (t : Tenant) (n : ℕ) → cond (has_come caps k u t) n 0 ≡ cond (has_come caps (suc k) u t) n 0 + cond (has_come caps (suc k) k t) n 0
                  both t n =
                      let o = first_before caps (length caps) (suc k) t.under in
                      let a : cond {A = ℕ} (has_come caps k u t) n 0 ≡ cond (is_at (hand caps k o) u) n 0 =
                      ap (λ (b : Bool). cond {A = ℕ} b n 0) (before-is k u t below ∙ ap (λ o. is_at o u) (hands-any k t.under l)) in
                      let b : cond {A = ℕ} (has_come caps (suc k) u t) n 0 ≡ cond (is_at o u) n 0 = ap (λ (b : Bool). cond {A = ℕ} b n 0) (before-is (suc k) u t (omega arith)) in
                      let d : cond {A = ℕ} (has_come caps (suc k) k t) n 0 ≡ cond (is_at o k) n 0 = ap (λ (b : Bool). cond {A = ℕ} b n 0) (before-is (suc k) k t (omega arith)) in
                      let s = handed-on k u o n e below in
                      omega arith

  -- what comes to the cap above is no more than all that is given
  pub come-small : (tenants : List Tenant) (shares sums : List ℕ) (k u : ℕ) → k < length caps → cap_above caps k ≡ Some u → HasCome caps tenants shares sums (suc k) → get_or sums u 0 + get_or sums k 0 ≤ sum shares
  come-small tenants shares sums k u l e h =
      let next = come-some tenants shares sums k u l e h in
      let below = lower-above k u e in
      let wide : u < length sums = (let a = h.as_many in omega arith) in
      let a = get_or-set_same sums u (get_or sums u 0 + get_or sums k 0) 0 wide in
      let b = next.each u (omega arith) in
      let d = sum-within (has_come caps k u) tenants shares in
      omega arith

  pub above-of : (k u : ℕ) (cap : Cap) → slice_get caps k ≡ Some cap → cap.under ≡ Some u → cap_above caps k ≡ Some u
  above-of k u cap e f = ap (λ o. option_map_or (λ cap. cap.under) o None) e ∙ f

  pub above-none : (k : ℕ) (cap : Cap) → slice_get caps k ≡ Some cap → cap.under ≡ None → cap_above caps k ≡ None
  above-none k cap e f = ap (λ o. option_map_or (λ cap. cap.under) o None) e ∙ f
