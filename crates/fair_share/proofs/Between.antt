-- From a level to the next.
use Rattle.std.proofs.Common.{◌≡◌, ℕ, suc, ◌+◌, ◌≤◌, ◌<◌, ◌⊎◌, inl, inr, min, Bool, true, false, cond, List, [], ◌∷◌, length, map, filter, Option, Some, unwrap_or, slice_get, get_or, set, refl, sym, ◌∙◌, ap, subst, arith}
use Rattle.std.specs.List.{All, AllByRecursion, zip}
use Rattle.std.proofs.lemmas.List.{length-set, get_or-set_same, get_or-set_other}
use Rattle.std.proofs.lemmas.List.Elements.{All-from_recursion}
use Rattle.std.proofs.lemmas.Option.{slice_get_within}
use Rattle.std.proofs.lemmas.Bool.{cases_eq}
use Rattle.fair_share.specs.declared.cap.Tenant.{Tenant}
use Rattle.fair_share.specs.Shares.{given_to, Demands, is_on_way, is_beneath, shares_beneath, IsFeasible, IsBoundBy}
use Rattle.fair_share.specs.Filling.{HaveRoomAbove, IsBlocked, IsFinalShare, IsFilled, IsEither, IsRaised, IsBetweenLevels, share_at}
use Rattle.fair_share.proofs.Rising.{set-adds, one-more}
use Rattle.fair_share.proofs.Filling.{index-settled, shares-long, some-at}

same-tenant : {a b : Tenant} {o : Option Tenant} → o ≡ Some a → o ≡ Some b → a ≡ b
same-tenant {a} e f = ap (λ o. unwrap_or o a) (sym e ∙ f)

true-false : true ≡ false → ⊥
true-false e = cc

pub between-starts : (d : Demands) (xs : List ℕ) (rising : List Bool) (used : List ℕ) (level : ℕ) → IsFilled d xs rising used level → IsBetweenLevels d xs rising used level 0
between-starts d xs rising used level f = record {
  feasible = f.feasible;
  taken = f.taken;
  as_many = f.as_many;
  settled = f.settled;
  most = λ i l. let m = f.most i l in omega arith;
  gone = λ i t l e r. let no : ⊥ = omega arith in absurd no;
  left = λ i t l e r. inl (f.risen i t e r);
}

-- some of those that rise are taken on by 1
pub between-raised : (d : Demands) (xs ys : List ℕ) (rising easy : List Bool) (used used' : List ℕ) (level : ℕ) → IsFilled d xs rising used level → IsRaised d xs easy (level + 1) ys used' →
    ((i : ℕ) → get_or easy i false ≡ true → get_or rising i false ≡ true) → IsBetweenLevels d ys rising used' level 0
between-raised d xs ys rising easy used used' level f r only = record {
  feasible = r.feasible;
  taken = r.taken;
  as_many = f.as_many;
  settled = λ i t e still. by_settled i t e still (get_or easy i false) refl;
  most = λ i l. let s = some-at d.tenants i l in by_most i s.0 s.1 l (get_or easy i false) refl;
  gone = λ i t l e r. let no : ⊥ = omega arith in absurd no;
  left = λ i t l e rises. by_left i t e rises (get_or easy i false) refl;
}
  where
    long : length xs ≡ length d.tenants
    long = shares-long d xs f.feasible

    size : length ys ≡ length xs
    size = shares-long d ys r.feasible ∙ sym long

    kept : (i : ℕ) (t : Tenant) → slice_get d.tenants i ≡ Some t → get_or easy i false ≡ false → get_or ys i 0 ≡ get_or xs i 0
    kept i t e g = r.each i t e ∙ ap (λ b. share_at b (get_or xs i 0) t.demand (level + 1)) g

    taken : (i : ℕ) (t : Tenant) → slice_get d.tenants i ≡ Some t → get_or easy i false ≡ true → get_or ys i 0 ≡ min (level + 1) t.demand
    taken i t e g = r.each i t e ∙ ap (λ b. share_at b (get_or xs i 0) t.demand (level + 1)) g

    rise : (k : ℕ) → k < length xs → get_or xs k 0 ≤ get_or ys k 0
    rise k l = let s = some-at d.tenants k (let m = long in omega arith) in by s.0 s.1 (get_or easy k false) refl
      where
        by : (t : Tenant) → slice_get d.tenants k ≡ Some t → (b : Bool) → get_or easy k false ≡ b → get_or xs k 0 ≤ get_or ys k 0
        by t e true g = let a = taken k t e g in let m = f.risen k t e (only k g) in omega arith
        by t e false g = let a = kept k t e g in omega arith

    by_settled : (i : ℕ) (t : Tenant) → slice_get d.tenants i ≡ Some t → get_or rising i false ≡ false → (b : Bool) → get_or easy i false ≡ b → IsFinalShare d ys t (get_or ys i 0)
    by_settled i t e still true g = absurd (true-false (sym (only i g) ∙ still))
    by_settled i t e still false g = subst (IsFinalShare d ys t) (sym (kept i t e g)) (index-settled d xs ys t (get_or xs i 0) r.feasible long size rise (f.settled i t e still))

    by_most : (i : ℕ) (t : Tenant) → slice_get d.tenants i ≡ Some t → i < length d.tenants → (b : Bool) → get_or easy i false ≡ b → get_or ys i 0 ≤ level + 1
    by_most i t e l true g = let a = taken i t e g in omega arith
    by_most i t e l false g = let a = kept i t e g in let m = f.most i l in omega arith

    by_left : (i : ℕ) (t : Tenant) → slice_get d.tenants i ≡ Some t → get_or rising i false ≡ true → (b : Bool) → get_or easy i false ≡ b → IsEither (get_or ys i 0) (min level t.demand) (min (level + 1) t.demand)
    by_left i t e rises true g = inr (taken i t e g)
    by_left i t e rises false g = inl (kept i t e g ∙ f.risen i t e rises)

pub between-ends : (d : Demands) (xs : List ℕ) (rising : List Bool) (used : List ℕ) (level n : ℕ) → length d.tenants ≤ n → IsBetweenLevels d xs rising used level n → IsFilled d xs rising used (level + 1)
between-ends d xs rising used level n h b = record {
  feasible = b.feasible;
  taken = b.taken;
  as_many = b.as_many;
  settled = b.settled;
  most = b.most;
  risen = λ i t e r. b.gone i t (let l = slice_get_within d.tenants i t e in omega arith) e r;
}

module _ (d : Demands) (xs : List ℕ) (rising : List Bool) (used : List ℕ) (level n : ℕ) (t : Tenant) (stands : slice_get d.tenants n ≡ Some t) (b : IsBetweenLevels d xs rising used level n) where
  before : (i : ℕ) → i < n + 1 → (i ≡ n) ⊎ (i < n)
  before i l = by (cases_eq i n)
    where
      by : (i ≡ n) ⊎ (i ≡ n → ⊥) → (i ≡ n) ⊎ (i < n)
      by (inl e) = inl e
      by (inr ne) = inr (grind arith)

  -- it doesn't rise, or has gone on, or has all that it asks for
  pub between-keeps : (get_or rising n false ≡ false) ⊎ ((level < get_or xs n 0) ⊎ (t.demand ≤ get_or xs n 0)) → IsBetweenLevels d xs rising used level (n + 1)
  between-keeps why = record {
    feasible = b.feasible;
    taken = b.taken;
    as_many = b.as_many;
    settled = b.settled;
    most = b.most;
    gone = λ i u l e r. by i u e r (before i l);
    left = λ i u l e r. b.left i u (omega arith) e r;
  }
    where
      by : (i : ℕ) (u : Tenant) → slice_get d.tenants i ≡ Some u → get_or rising i false ≡ true → (i ≡ n) ⊎ (i < n) → get_or xs i 0 ≡ min (level + 1) u.demand
      by i u e r (inr l) = b.gone i u l e r
      by i u e r (inl same) = at why
        where
          at : (get_or rising n false ≡ false) ⊎ ((level < get_or xs n 0) ⊎ (t.demand ≤ get_or xs n 0)) → get_or xs i 0 ≡ min (level + 1) u.demand
          at (inl f) = absurd (true-false (sym r ∙ ap (λ k. get_or rising k false) same ∙ f))
          at (inr high) = of high (b.left i u (omega arith) e r)
            where
              which : t ≡ u
              which = same-tenant stands (ap (slice_get d.tenants) (sym same) ∙ e)

              here : get_or xs i 0 ≡ get_or xs n 0
              here = ap (λ k. get_or xs k 0) same

              of : (level < get_or xs n 0) ⊎ (t.demand ≤ get_or xs n 0) → IsEither (get_or xs i 0) (min level u.demand) (min (level + 1) u.demand) → get_or xs i 0 ≡ min (level + 1) u.demand
              of h (inr own) = own
              of (inl lt) (inl own) = let h = here in let no : ⊥ = omega arith in absurd no
              of (inr le) (inl own) = let most : u.demand ≤ get_or xs n 0 = subst (λ v. v.demand ≤ get_or xs n 0) which le in let h = here in omega arith

  long : length xs ≡ length d.tenants
  long = shares-long d xs b.feasible

  -- it has the level
  at-level : get_or rising n false ≡ true → get_or xs n 0 ≤ level → get_or xs n 0 < t.demand → get_or xs n 0 ≡ level
  at-level rises low lt = by (b.left n t (omega arith) stands rises)
    where
      by : IsEither (get_or xs n 0) (min level t.demand) (min (level + 1) t.demand) → get_or xs n 0 ≡ level
      by (inl e) = omega arith
      by (inr e) = omega arith

  -- one more
  pub between-raises : (used' : List ℕ) → get_or rising n false ≡ true → get_or xs n 0 ≤ level → get_or xs n 0 < t.demand → HaveRoomAbove d.caps t.under used 1 → length used' ≡ length d.caps →
      ((c : ℕ) → c < length d.caps → get_or used' c 0 ≡ get_or used c 0 + cond (is_on_way d.caps (length d.caps) t.under c) 1 0) → IsBetweenLevels d (set xs n (get_or xs n 0 + 1)) rising used' level (n + 1)
  between-raises used' rises low lt room as_many more = record {
    feasible = feasible;
    taken = record { as_many = as_many; each = λ c l. let a = more c l in let u = b.taken.each c l in let s = set-adds (is_beneath d c) d.tenants xs n 1 t long stands in omega arith };
    as_many = b.as_many;
    settled = λ i u e f. by_settled i u e f (cases_eq i n);
    most = λ i l. by_most i l (cases_eq i n);
    gone = λ i u l e r. by_gone i u e r (before i l);
    left = λ i u l e r. subst (λ x. IsEither x (min level u.demand) (min (level + 1) u.demand)) (sym (other i (λ s. let no : ⊥ = omega arith in no))) (b.left i u (omega arith) e r);
  }
    where
      inside : n < length xs
      inside = let l = slice_get_within d.tenants n t stands in let m = long in omega arith

      own : get_or xs n 0 ≡ level
      own = at-level rises low lt

      feasible : IsFeasible d (set xs n (get_or xs n 0 + 1))
      feasible = one-more d xs used n t b.feasible b.taken stands lt room

      here : get_or (set xs n (get_or xs n 0 + 1)) n 0 ≡ get_or xs n 0 + 1
      here = get_or-set_same xs n (get_or xs n 0 + 1) 0 inside

      other : (i : ℕ) → (i ≡ n → ⊥) → get_or (set xs n (get_or xs n 0 + 1)) i 0 ≡ get_or xs i 0
      other i ne = get_or-set_other xs n i (get_or xs n 0 + 1) 0 ne

      size : length (set xs n (get_or xs n 0 + 1)) ≡ length xs
      size = length-set xs n (get_or xs n 0 + 1)

      rise : (i : ℕ) → i < length xs → get_or xs i 0 ≤ get_or (set xs n (get_or xs n 0 + 1)) i 0
      rise i l = by (cases_eq i n)
        where
          by : (i ≡ n) ⊎ (i ≡ n → ⊥) → get_or xs i 0 ≤ get_or (set xs n (get_or xs n 0 + 1)) i 0
          by (inl e) = subst (λ k. get_or xs k 0 ≤ get_or (set xs n (get_or xs n 0 + 1)) k 0) (sym e) (let h = here in omega arith)
          by (inr ne) = let o = other i ne in omega arith

      by_settled : (i : ℕ) (u : Tenant) → slice_get d.tenants i ≡ Some u → get_or rising i false ≡ false → (i ≡ n) ⊎ (i ≡ n → ⊥) → IsFinalShare d (set xs n (get_or xs n 0 + 1)) u (get_or (set xs n (get_or xs n 0 + 1)) i 0)
      by_settled i u e f (inl same) = absurd (true-false (sym rises ∙ ap (λ k. get_or rising k false) (sym same) ∙ f))
      by_settled i u e f (inr ne) = subst (IsFinalShare d (set xs n (get_or xs n 0 + 1)) u) (sym (other i ne)) (index-settled d xs (set xs n (get_or xs n 0 + 1)) u (get_or xs i 0) feasible long size rise (b.settled i u e f))

      by_most : (i : ℕ) → i < length d.tenants → (i ≡ n) ⊎ (i ≡ n → ⊥) → get_or (set xs n (get_or xs n 0 + 1)) i 0 ≤ level + 1
      by_most i l (inl e) = subst (λ k. get_or (set xs n (get_or xs n 0 + 1)) k 0 ≤ level + 1) (sym e) (let h = here in let o = own in omega arith)
      by_most i l (inr ne) = let o = other i ne in let m = b.most i l in omega arith

      by_gone : (i : ℕ) (u : Tenant) → slice_get d.tenants i ≡ Some u → get_or rising i false ≡ true → (i ≡ n) ⊎ (i < n) → get_or (set xs n (get_or xs n 0 + 1)) i 0 ≡ min (level + 1) u.demand
      by_gone i u e r (inr l) = other i (λ s. let no : ⊥ = omega arith in no) ∙ b.gone i u l e r
      by_gone i u e r (inl same) =
          let which : t ≡ u = same-tenant stands (ap (slice_get d.tenants) (sym same) ∙ e) in
          let below : get_or xs n 0 < u.demand = subst (λ v. get_or xs n 0 < v.demand) which lt in
          let h = here in
          let o = own in
          let at : get_or (set xs n (get_or xs n 0 + 1)) i 0 ≡ get_or (set xs n (get_or xs n 0 + 1)) n 0 = ap (λ k. get_or (set xs n (get_or xs n 0 + 1)) k 0) same in
          omega arith

  -- settled by a cap that is full
  pub between-settles : get_or rising n false ≡ true → get_or xs n 0 ≤ level → get_or xs n 0 < t.demand → IsBlocked d.caps t.under used 1 → IsBetweenLevels d xs (set rising n false) used level (n + 1)
  between-settles rises low lt blocked = record {
    feasible = b.feasible;
    taken = b.taken;
    as_many = length-set rising n false ∙ b.as_many;
    settled = λ i u e f. by_settled i u e f (cases_eq i n);
    most = b.most;
    gone = λ i u l e r. by_gone i u e r (before i l);
    left = λ i u l e r. b.left i u (omega arith) e (sym (other i (λ s. let no : ⊥ = omega arith in no)) ∙ r);
  }
    where
      here : get_or (set rising n false) n false ≡ false
      here = get_or-set_same rising n false false (let l = slice_get_within d.tenants n t stands in let m = b.as_many in omega arith)

      other : (i : ℕ) → (i ≡ n → ⊥) → get_or (set rising n false) i false ≡ get_or rising i false
      other i ne = get_or-set_other rising n i false false ne

      own : get_or xs n 0 ≡ level
      own = at-level rises low lt

      even : (U : Tenant → Bool) (ts : List Tenant) (ys : List ℕ) → ((i : ℕ) → i < length ys → get_or ys i 0 ≤ level + 1) → AllByRecursion (λ y. y ≤ level + 1) (given_to U ts ys)
      even U [] ys h = tt
      even U (u ∷ ts) [] h = tt
      even U (u ∷ ts) (y ∷ ys) h = by (U u) (even U ts ys (λ i l. h (suc i) (omega arith)))
        where
          by : (c : Bool) → AllByRecursion (λ y. y ≤ level + 1) (given_to U ts ys) → AllByRecursion (λ y. y ≤ level + 1) (map (λ p. p.1) (cond c ((u, y) ∷ filter (λ p. U p.0) (zip ts ys)) (filter (λ p. U p.0) (zip ts ys))))
          by true r = (h 0 (omega arith), r)
          by false r = r

      bound : IsBoundBy d xs t (get_or xs n 0) blocked.place
      bound = record {
        cap = blocked.cap;
        stands = blocked.stands;
        beneath = blocked.met;
        full = (let u = b.taken.each blocked.place (slice_get_within d.caps blocked.place blocked.cap blocked.stands) in let f = b.feasible.caps blocked.place blocked.cap blocked.stands in let s = blocked.short in omega arith);
        even = subst (λ m. All (λ y. y ≤ m + 1) (shares_beneath d blocked.place xs)) (sym own) (All-from_recursion (λ y. y ≤ level + 1) (shares_beneath d blocked.place xs) (even (is_beneath d blocked.place) d.tenants xs (λ i l. b.most i (let m = long in omega arith))));
      }

      by_settled : (i : ℕ) (u : Tenant) → slice_get d.tenants i ≡ Some u → get_or (set rising n false) i false ≡ false → (i ≡ n) ⊎ (i ≡ n → ⊥) → IsFinalShare d xs u (get_or xs i 0)
      by_settled i u e f (inl same) =
          let which : t ≡ u = same-tenant stands (ap (slice_get d.tenants) (sym same) ∙ e) in
          subst (λ k. IsFinalShare d xs u (get_or xs k 0)) (sym same) (subst (λ v. IsFinalShare d xs v (get_or xs n 0)) which (inr (blocked.place, bound)))
      by_settled i u e f (inr ne) = b.settled i u e (sym (other i ne) ∙ f)

      by_gone : (i : ℕ) (u : Tenant) → slice_get d.tenants i ≡ Some u → get_or (set rising n false) i false ≡ true → (i ≡ n) ⊎ (i < n) → get_or xs i 0 ≡ min (level + 1) u.demand
      by_gone i u e r (inl same) = absurd (true-false (sym r ∙ ap (λ k. get_or (set rising n false) k false) same ∙ here))
      by_gone i u e r (inr l) = b.gone i u l e (sym (other i (λ s. let no : ⊥ = omega arith in no)) ∙ r)
