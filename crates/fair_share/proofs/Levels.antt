-- Below each level a division with right lines has at least as much as any feasible one.
use Rattle.std.proofs.Common.{◌≡◌, ℕ, suc, ◌+◌, ◌≤◌, ◌<◌, ◌⊎◌, inl, inr, min, nat_le, ◌==◌, ◌&&◌, Bool, true, false, cond, List, [], ◌∷◌, length, map, filter, sum, sum_by, Option, None, Some, MatchOption, slice_get, refl, sym, ap, subst, arith}
use Rattle.std.specs.Bool.{⊤}
use Rattle.std.specs.List.{AllByRecursion, AllZip, zip, list_all}
use Rattle.std.proofs.lemmas.Option.{slice_get_within}
use Rattle.std.proofs.lemmas.List.Sums.{sum_by-cons, list_all-from_AllPass}
use Rattle.std.proofs.lemmas.List.Elements.{All-weaker}
use Rattle.std.proofs.lemmas.Bool.{and_parts, and_from, leb-true, le-leb, eqb-true, eq-eqb, cases_lt}
use Rattle.fair_share.specs.declared.cap.Cap.{Cap}
use Rattle.fair_share.specs.declared.cap.Tenant.{Tenant}
use Rattle.fair_share.specs.declared.share.Share.{Share}
use Rattle.fair_share.specs.Shares.{Demands, AreNested, is_beneath, shares_beneath, IsFeasible, IsBoundBy, IsRight, AreRight, share_rates, IsBestDivision}
use Rattle.fair_share.proofs.Covering.{part, part-le, covered-sum}
use Rattle.fair_share.proofs.Nesting.{caps-nest}
use Rattle.fair_share.proofs.Ordered.{levels-greatest}

-- a tenant, its line, and what another division gives it
abbrev Row : Type 0
Row = Tenant × Share × ℕ

abbrev rows : List Tenant → List Share → List ℕ → List Row
rows (t ∷ ts) (s ∷ ss) (o ∷ os) = (t, s, o) ∷ rows ts ss os
rows ts ss os = []

kept : (b : Bool) (p : Tenant × ℕ) (ps : List (Tenant × ℕ)) (n : ℕ) → sum (map (λ q. q.1) ps) ≡ n → sum (map (λ q. q.1) (cond b (p ∷ ps) ps)) ≡ cond b p.1 0 + n
kept true p ps n e = let first = sum_by-cons (λ x. x) p.1 (map (λ q. q.1) ps) in omega arith
kept false p ps n e = omega arith

share-part : (U : Tenant → Bool) (ts : List Tenant) (ss : List Share) (os : List ℕ) → AllZip (λ t s. ⊤) ts ss → AllZip (λ t o. ⊤) ts os →
    sum (map (λ p. p.1) (filter (λ p. U p.0) (zip ts (share_rates ss)))) ≡ part (λ r. U r.0) (λ r. r.1.rate) (rows ts ss os)
share-part U [] [] [] a b = refl
share-part U [] [] (o ∷ os) a b = absurd b
share-part U [] (s ∷ ss) os a b = absurd a
share-part U (t ∷ ts) [] os a b = absurd a
share-part U (t ∷ ts) (s ∷ ss) [] a b = absurd b
share-part U (t ∷ ts) (s ∷ ss) (o ∷ os) a b = kept (U t) (t, s.rate) (filter (λ p. U p.0) (zip ts (share_rates ss))) (part (λ r. U r.0) (λ r. r.1.rate) (rows ts ss os)) (share-part U ts ss os a.1 b.1)

other-part : (U : Tenant → Bool) (ts : List Tenant) (ss : List Share) (os : List ℕ) → AllZip (λ t s. ⊤) ts ss → AllZip (λ t o. ⊤) ts os →
    sum (map (λ p. p.1) (filter (λ p. U p.0) (zip ts os))) ≡ part (λ r. U r.0) (λ r. r.2) (rows ts ss os)
other-part U [] [] [] a b = refl
other-part U [] [] (o ∷ os) a b = absurd b
other-part U [] (s ∷ ss) os a b = absurd a
other-part U (t ∷ ts) [] os a b = absurd a
other-part U (t ∷ ts) (s ∷ ss) [] a b = absurd b
other-part U (t ∷ ts) (s ∷ ss) (o ∷ os) a b = kept (U t) (t, o) (filter (λ p. U p.0) (zip ts os)) (part (λ r. U r.0) (λ r. r.2) (rows ts ss os)) (other-part U ts ss os a.1 b.1)

share-level : (n : ℕ) (ts : List Tenant) (ss : List Share) (os : List ℕ) → AllZip (λ t s. ⊤) ts ss → AllZip (λ t o. ⊤) ts os → sum_by (min n) (share_rates ss) ≡ sum_by (λ r. min n r.1.rate) (rows ts ss os)
share-level n [] [] [] a b = refl
share-level n [] [] (o ∷ os) a b = absurd b
share-level n [] (s ∷ ss) os a b = absurd a
share-level n (t ∷ ts) [] os a b = absurd a
share-level n (t ∷ ts) (s ∷ ss) [] a b = absurd b
share-level n (t ∷ ts) (s ∷ ss) (o ∷ os) a b =
    let x = sum_by-cons (min n) s.rate (share_rates ss) in
    let y = sum_by-cons (λ (r : Row). min n r.1.rate) (t, s, o) (rows ts ss os) in
    let ih = share-level n ts ss os a.1 b.1 in
    omega arith

other-level : (n : ℕ) (ts : List Tenant) (ss : List Share) (os : List ℕ) → AllZip (λ t s. ⊤) ts ss → AllZip (λ t o. ⊤) ts os → sum_by (min n) os ≡ sum_by (λ r. min n r.2) (rows ts ss os)
other-level n [] [] [] a b = refl
other-level n [] [] (o ∷ os) a b = absurd b
other-level n [] (s ∷ ss) os a b = absurd a
other-level n (t ∷ ts) [] os a b = absurd a
other-level n (t ∷ ts) (s ∷ ss) [] a b = absurd b
other-level n (t ∷ ts) (s ∷ ss) (o ∷ os) a b =
    let x = sum_by-cons (min n) o os in
    let y = sum_by-cons (λ (r : Row). min n r.2) (t, s, o) (rows ts ss os) in
    let ih = other-level n ts ss os a.1 b.1 in
    omega arith

-- where no share beneath a cap is above the level
below-level : (U : Tenant → Bool) (n : ℕ) (ts : List Tenant) (ss : List Share) (os : List ℕ) → AllZip (λ t s. ⊤) ts ss → AllZip (λ t o. ⊤) ts os →
    list_all (λ x. nat_le x n) (map (λ p. p.1) (filter (λ p. U p.0) (zip ts (share_rates ss)))) ≡ true → part (λ r. U r.0) (λ r. min n r.1.rate) (rows ts ss os) ≡ part (λ r. U r.0) (λ r. r.1.rate) (rows ts ss os)
below-level U n [] [] [] a b h = refl
below-level U n [] [] (o ∷ os) a b h = absurd b
below-level U n [] (s ∷ ss) os a b h = absurd a
below-level U n (t ∷ ts) [] os a b h = absurd a
below-level U n (t ∷ ts) (s ∷ ss) [] a b h = absurd b
below-level U n (t ∷ ts) (s ∷ ss) (o ∷ os) a b h = by (U t) h (below-level U n ts ss os a.1 b.1)
  where
    left : List (Tenant × ℕ)
    left = filter (λ p. U p.0) (zip ts (share_rates ss))

    by : (u : Bool) → list_all (λ x. nat_le x n) (map (λ p. p.1) (cond u ((t, s.rate) ∷ filter (λ p. U p.0) (zip ts (share_rates ss))) (filter (λ p. U p.0) (zip ts (share_rates ss))))) ≡ true →
        (list_all (λ x. nat_le x n) (map (λ p. p.1) (filter (λ p. U p.0) (zip ts (share_rates ss)))) ≡ true → part (λ r. U r.0) (λ r. min n r.1.rate) (rows ts ss os) ≡ part (λ r. U r.0) (λ r. r.1.rate) (rows ts ss os)) →
        cond u (min n s.rate) 0 + part (λ r. U r.0) (λ r. min n r.1.rate) (rows ts ss os) ≡ cond u s.rate 0 + part (λ r. U r.0) (λ r. r.1.rate) (rows ts ss os)
    by true k ih =
        let parts = and_parts (nat_le s.rate n) (list_all (λ x. nat_le x n) (map (λ p. p.1) (filter (λ p. U p.0) (zip ts (share_rates ss))))) k in
        let here = leb-true s.rate n parts.0 in
        let e : min n s.rate ≡ s.rate = omega arith in
        let rest = ih parts.1 in
        omega arith
    by false k ih = let rest = ih k in omega arith

every : {A B : Type 0} (R : A → B → Type 0) (xs : List A) (ys : List B) → AllZip R xs ys → AllZip (λ x y. ⊤) xs ys
every R [] [] h = tt
every R [] (y ∷ ys) h = h
every R (x ∷ xs) [] h = h
every R (x ∷ xs) (y ∷ ys) h = (tt, every R xs ys h.1)

pub as_many : {A B : Type 0} (R : A → B → Type 0) (xs : List A) (ys : List B) → AllZip R xs ys → length xs ≡ length ys
as_many R [] [] h = refl
as_many R [] (y ∷ ys) h = absurd h
as_many R (x ∷ xs) [] h = absurd h
as_many R (x ∷ xs) (y ∷ ys) h = ap suc (as_many R xs ys h.1)

module _ (d : Demands) (shares : List Share) (ok : AreNested d) (feasible : IsFeasible d (share_rates shares)) (right : AreRight d shares) (n : ℕ) (other : List ℕ) (can : IsFeasible d other) where
  -- whether a cap is full and holds no share above the level
  is_full : Option Cap → List ℕ → Bool
  is_full None given = false
  is_full (Some cap) given = (sum given == cap.rate) && list_all (λ x. nat_le x n) given

  tight : ℕ → Bool
  tight c = is_full (slice_get d.caps c) (shares_beneath d c (share_rates shares))

  lines : AllZip (λ t s. ⊤) d.tenants shares
  lines = every (IsRight d (share_rates shares)) d.tenants shares right

  others : AllZip (λ t o. ⊤) d.tenants other
  others = every (λ tenant share. share ≤ tenant.demand) d.tenants other can.demands

  all : List Row
  all = rows d.tenants shares other

  tight-sum : (c : ℕ) → c < length d.caps → tight c ≡ true → part (λ r. is_beneath d c r.0) (λ r. min n r.2) (rows d.tenants shares other) ≤ part (λ r. is_beneath d c r.0) (λ r. min n r.1.rate) (rows d.tenants shares other)
  unfolding tight is_full
  tight-sum c l e = by (slice_get d.caps c) refl e
    where
      capped : (rs : List Row) → AllByRecursion (λ r. is_beneath d c r.0 ≡ true → min n r.2 ≤ r.2) rs
      capped [] = tt
      capped (r ∷ rs) = (λ _. omega arith, capped rs)

      by : (o : Option Cap) → slice_get d.caps c ≡ o → is_full o (shares_beneath d c (share_rates shares)) ≡ true → part (λ r. is_beneath d c r.0) (λ r. min n r.2) (rows d.tenants shares other) ≤ part (λ r. is_beneath d c r.0) (λ r. min n r.1.rate) (rows d.tenants shares other)
      by None f g = let no : ⊥ = cc in absurd no
      by (Some cap) f g =
          let parts = and_parts (sum (shares_beneath d c (share_rates shares)) == cap.rate) (list_all (λ x. nat_le x n) (shares_beneath d c (share_rates shares))) g in
          let full = eqb-true (sum (shares_beneath d c (share_rates shares))) cap.rate parts.0 in
          let level = below-level (is_beneath d c) n d.tenants shares other lines others parts.1 in
          let given = share-part (is_beneath d c) d.tenants shares other lines others in
          let taken = other-part (is_beneath d c) d.tenants shares other lines others in
          let within = can.caps c cap f in
          let less = part-le (λ (r : Row). min n r.2) (λ r. r.2) (λ r. is_beneath d c r.0) (rows d.tenants shares other) (capped (rows d.tenants shares other)) in
          omega arith

  row : (t : Tenant) (s : Share) (o : ℕ) → IsRight d (share_rates shares) t s → o ≤ t.demand → ((c : ℕ) → c < length d.caps → tight c ≡ true → is_beneath d c t ≡ true → ⊥) → min n o ≤ min n s.rate
  unfolding tight is_full
  row t s o h k none = by (cases_lt s.rate n)
    where
      named : (c : Option ℕ) → MatchOption c (s.rate ≡ t.demand) (IsBoundBy d (share_rates shares) t s.rate) → s.rate < n → min n o ≤ min n s.rate
      named None e lt = omega arith
      named (Some c) b lt = absurd (none c (slice_get_within d.caps c b.cap b.stands) full b.beneath)
        where
          full : is_full (slice_get d.caps c) (shares_beneath d c (share_rates shares)) ≡ true
          full = subst (λ o. is_full o (shares_beneath d c (share_rates shares)) ≡ true) (sym b.stands)
              (and_from (sum (shares_beneath d c (share_rates shares)) == b.cap.rate) (list_all (λ x. nat_le x n) (shares_beneath d c (share_rates shares)))
              (eq-eqb (sum (shares_beneath d c (share_rates shares))) b.cap.rate b.full)
              (list_all-from_AllPass (λ x. nat_le x n) (shares_beneath d c (share_rates shares))
              (All-weaker (λ other. other ≤ s.rate + 1) (λ x. nat_le x n ≡ true) (λ x l. le-leb x n (omega arith)) (shares_beneath d c (share_rates shares)) b.even)))

      by : (s.rate < n) ⊎ (n ≤ s.rate) → min n o ≤ min n s.rate
      by (inl lt) = named s.cap h lt
      by (inr ge) = omega arith

  each : (ts : List Tenant) (ss : List Share) (os : List ℕ) → AllZip (IsRight d (share_rates shares)) ts ss → AllZip (λ tenant share. share ≤ tenant.demand) ts os →
      AllByRecursion (λ r. ((c : ℕ) → c < length d.caps → tight c ≡ true → is_beneath d c r.0 ≡ true → ⊥) → min n r.2 ≤ min n r.1.rate) (rows ts ss os)
  each [] [] [] a b = tt
  each [] [] (o ∷ os) a b = absurd b
  each [] (s ∷ ss) os a b = absurd a
  each (t ∷ ts) [] os a b = absurd a
  each (t ∷ ts) (s ∷ ss) [] a b = absurd b
  each (t ∷ ts) (s ∷ ss) (o ∷ os) a b = (row t s o a.0 b.0, each ts ss os a.1 b.1)

  pub level : sum_by (min n) other ≤ sum_by (min n) (share_rates shares)
  level =
      let a = share-level n d.tenants shares other lines others in
      let b = other-level n d.tenants shares other lines others in
      let c = covered-sum (λ c (r : Row). is_beneath d c r.0) (length d.caps) (λ (r : Row). min n r.2) (λ r. min n r.1.rate) (rows d.tenants shares other) tight nested tight-sum (each d.tenants shares other right can.demands) in
      omega arith
    where
      nested : (j k : ℕ) → j < k → k < length d.caps → ((r : Row) → is_beneath d k r.0 ≡ true → is_beneath d j r.0 ≡ true) ⊎ ((r : Row) → is_beneath d k r.0 ≡ true → is_beneath d j r.0 ≡ true → ⊥)
      nested j k lt l = by (caps-nest d ok j k lt l)
        where
          by : ((tenant : Tenant) → is_beneath d k tenant ≡ true → is_beneath d j tenant ≡ true) ⊎ ((tenant : Tenant) → is_beneath d k tenant ≡ true → is_beneath d j tenant ≡ true → ⊥) →
              ((r : Row) → is_beneath d k r.0 ≡ true → is_beneath d j r.0 ≡ true) ⊎ ((r : Row) → is_beneath d k r.0 ≡ true → is_beneath d j r.0 ≡ true → ⊥)
          by (inl h) = inl (λ r. h r.0)
          by (inr h) = inr (λ r. h r.0)

pub best : (d : Demands) (shares : List Share) → AreNested d → IsFeasible d (share_rates shares) → AreRight d shares → IsBestDivision d (share_rates shares)
best d shares ok feasible right = record {
  feasible = feasible;
  greatest = λ other ordered other_ordered can o oo. levels-greatest (share_rates shares) other ordered other_ordered (as_long other can) (λ n. level d shares ok feasible right n other can) o oo;
}
  where
    as_long : (other : List ℕ) → IsFeasible d other → length other ≡ length (share_rates shares)
    as_long other can =
        let a = as_many (λ (tenant : Tenant) share. share ≤ tenant.demand) d.tenants other can.demands in
        let b = as_many (λ (tenant : Tenant) share. share ≤ tenant.demand) d.tenants (share_rates shares) feasible.demands in
        omega arith
