-- The steps of filling.
use Rattle.std.proofs.Common.{◌≡◌, ℕ, zero, suc, ◌+◌, ◌≤◌, ◌<◌, ◌⊎◌, inl, inr, min, Bool, true, false, cond, List, [], ◌∷◌, ◌++◌, length, sum, replicate, Option, None, Some, unwrap_or, slice_get, get_or, take, drop, IfSome, refl, sym, ◌∙◌, ap, subst, arith}
use Rattle.std.proofs.Math.Seq.{take-append_seam}
use Rattle.std.specs.List.{AllZip}
use Rattle.std.proofs.lemmas.Option.{slice_get_within, slice_get_read}
use Rattle.std.proofs.lemmas.List.{length-append}
use Rattle.std.proofs.lemmas.Bool.{cases_eq}
use Rattle.fair_share.specs.declared.cap.Cap.{Cap}
use Rattle.fair_share.specs.declared.cap.Tenant.{Tenant}
use Rattle.fair_share.specs.Shares.{given_to, HavePlaces, Demands, is_beneath, shares_beneath, IsFeasible}
use Rattle.fair_share.specs.Filling.{demands, AreUsed, IsFinalShare, IsFilled, share_at, IsCapPlace}
use Rattle.fair_share.proofs.Rising.{sum-step, keeps-bound}
use Rattle.fair_share.proofs.Levels.{as_many}

pub zero-at : (n c : ℕ) → get_or (replicate n zero) c zero ≡ zero
zero-at zero c = refl
zero-at (suc n) zero = refl
zero-at (suc n) (suc c) = zero-at n c

pub slice_get-at : (ts : List Tenant) (i : ℕ) (t : Tenant) → i < length ts → t ≡ get_or ts i t → slice_get ts i ≡ Some t
slice_get-at ts i t l e = slice_get_read ts (length ts) i t refl l e

get-last : (xs : List ℕ) (x : ℕ) → get_or (xs ++ x ∷ []) (length xs) 0 ≡ x
get-last [] x = refl
get-last (y ∷ xs) x = get-last xs x

get-before : (xs : List ℕ) (x i : ℕ) → i < length xs → get_or (xs ++ x ∷ []) i 0 ≡ get_or xs i 0
get-before [] x i l = let no : ⊥ = omega arith in absurd no
get-before (y ∷ xs) x zero l = refl
get-before (y ∷ xs) x (suc i) l = get-before xs x i (omega arith)

demand-at : (ts : List Tenant) (xs : List ℕ) (i : ℕ) (t : Tenant) → AllZip (λ t x. x ≤ t.demand) ts xs → slice_get ts i ≡ Some t → get_or xs i 0 ≤ t.demand
demand-at [] xs i t h e = let no : ⊥ = cc in absurd no
demand-at (u ∷ ts) [] i t h e = absurd h
demand-at (u ∷ ts) (x ∷ xs) zero t h e = subst (λ v. x ≤ v.demand) (ap (λ o. unwrap_or o u) e) h.0
demand-at (u ∷ ts) (x ∷ xs) (suc i) t h e = demand-at ts xs i t h.1 e

-- the shares at a level, as far as they are made
abbrev pub AreAtLevel : List Tenant → List ℕ → List Bool → ℕ → ℕ → List ℕ → Type 0
AreAtLevel tenants shares rising level n next = (length next ≡ n)
    × ((i : ℕ) (tenant : Tenant) → i < n → slice_get tenants i ≡ Some tenant → get_or next i 0 ≡ share_at (get_or rising i false) (get_or shares i 0) tenant.demand level)

pub level-step : (tenants : List Tenant) (shares : List ℕ) (rising : List Bool) (level n : ℕ) (next next' : List ℕ) (t : Tenant) (share : ℕ) →
    AreAtLevel tenants shares rising level n next → n < length tenants → t ≡ get_or tenants n t → share ≡ share_at (get_or rising n false) (get_or shares n 0) t.demand level → next' ≡ next ++ share ∷ [] →
    AreAtLevel tenants shares rising level (n + 1) next'
level-step tenants shares rising level n next next' t share h l e s pushed = (size, each)
  where
    at : slice_get tenants n ≡ Some t
    at = slice_get-at tenants n t l e

    size : length next' ≡ n + 1
    size = let a = h.0 in let b = ap (λ xs. length xs) pushed in let c = length-append next (share ∷ []) in omega arith

    each : (i : ℕ) (tenant : Tenant) → i < n + 1 → slice_get tenants i ≡ Some tenant → get_or next' i 0 ≡ share_at (get_or rising i false) (get_or shares i 0) tenant.demand level
    each i tenant k f = by (cases_eq i n)
      where
        by : (i ≡ n) ⊎ (i ≡ n → ⊥) → get_or next' i 0 ≡ share_at (get_or rising i false) (get_or shares i 0) tenant.demand level
        by (inl same) =
            let which : t ≡ tenant = ap (λ o. unwrap_or o t) (sym at ∙ ap (slice_get tenants) (sym same) ∙ f) in
            ap (λ xs. get_or xs i 0) pushed ∙ ap (λ j. get_or (next ++ share ∷ []) j 0) (same ∙ sym h.0) ∙ get-last next share ∙ s
            ∙ ap (λ u. share_at (get_or rising n false) (get_or shares n 0) u.demand level) which ∙ ap (λ j. share_at (get_or rising j false) (get_or shares j 0) tenant.demand level) (sym same)
        by (inr ne) = let lt : i < n = grind arith in ap (λ xs. get_or xs i 0) pushed ∙ get-before next share i (let a = h.0 in omega arith) ∙ h.1 i tenant lt f

-- shares at a level are within demands
pub level-demands : (d : Demands) (xs ys : List ℕ) (rising : List Bool) (level : ℕ) → IsFeasible d xs → length ys ≡ length d.tenants →
    ((i : ℕ) (tenant : Tenant) → slice_get d.tenants i ≡ Some tenant → get_or ys i 0 ≡ share_at (get_or rising i false) (get_or xs i 0) tenant.demand level) → AllZip (λ t x. x ≤ t.demand) d.tenants ys
level-demands d xs ys rising level f long each = all-within d.tenants ys long (λ i t e. by i t e (get_or rising i false) refl)
  where
    by : (i : ℕ) (t : Tenant) → slice_get d.tenants i ≡ Some t → (b : Bool) → get_or rising i false ≡ b → get_or ys i 0 ≤ t.demand
    by i t e true g = let a : get_or ys i 0 ≡ min level t.demand = each i t e ∙ ap (λ b. share_at b (get_or xs i 0) t.demand level) g in omega arith
    by i t e false g = let a : get_or ys i 0 ≡ get_or xs i 0 = each i t e ∙ ap (λ b. share_at b (get_or xs i 0) t.demand level) g in let m = demand-at d.tenants xs i t f.demands e in omega arith

    all-within : (ts : List Tenant) (zs : List ℕ) → length zs ≡ length ts → ((i : ℕ) (t : Tenant) → slice_get ts i ≡ Some t → get_or zs i 0 ≤ t.demand) → AllZip (λ t x. x ≤ t.demand) ts zs
    all-within [] [] l h = tt
    all-within [] (z ∷ zs) l h = let no : ⊥ = omega arith in absurd no
    all-within (t ∷ ts) [] l h = let no : ⊥ = omega arith in absurd no
    all-within (t ∷ ts) (z ∷ zs) l h = (h 0 t refl, all-within ts zs (omega arith) (λ i u e. h (suc i) u e))

pub place-of : (caps : List Cap) (tenants : List Tenant) (i : ℕ) (t : Tenant) → HavePlaces caps tenants → i < length tenants → t ≡ get_or tenants i t → IsCapPlace caps t.under
place-of caps tenants i t places l e = by t.under refl
  where
    by : (o : Option ℕ) → t.under ≡ o → IsCapPlace caps o
    by None f = tt
    by (Some u) f = places i u t (slice_get-at tenants i t l e) f

-- What a filled division keeps.

pub index-settled : (d : Demands) (xs ys : List ℕ) (t : Tenant) (x : ℕ) → IsFeasible d ys → length xs ≡ length d.tenants → length ys ≡ length xs → ((i : ℕ) → i < length xs → get_or xs i 0 ≤ get_or ys i 0) → IsFinalShare d xs t x → IsFinalShare d ys t x
index-settled d xs ys t x feasible l m rise (inl e) = inl e
index-settled d xs ys t x feasible l m rise (inr b) = inr (b.0, keeps-bound d xs ys t x b.0 feasible l m rise b.1)

pub shares-long : (d : Demands) (xs : List ℕ) → IsFeasible d xs → length xs ≡ length d.tenants
shares-long d xs f = sym (as_many (λ (t : Tenant) x. x ≤ t.demand) d.tenants xs f.demands)

pub some-at : (ts : List Tenant) (i : ℕ) → i < length ts → (t : Tenant) × (slice_get ts i ≡ Some t)
some-at [] i l = let no : ⊥ = omega arith in absurd no
some-at (t ∷ ts) zero l = (t, refl)
some-at (t ∷ ts) (suc i) l = some-at ts i (omega arith)

-- all that rise have a higher level
pub raised : (d : Demands) (xs ys : List ℕ) (rising : List Bool) (used used' : List ℕ) (level level' : ℕ) → IsFilled d xs rising used level → level ≤ level' → IsFeasible d ys → AreUsed d ys used' →
    ((i : ℕ) (t : Tenant) → slice_get d.tenants i ≡ Some t → get_or ys i 0 ≡ share_at (get_or rising i false) (get_or xs i 0) t.demand level') → IsFilled d ys rising used' level'
raised d xs ys rising used used' level level' filled le feasible taken each = record {
  feasible = feasible;
  taken = taken;
  as_many = filled.as_many;
  settled = λ i t e f. let same : get_or ys i 0 ≡ get_or xs i 0 = each i t e ∙ ap (λ b. share_at b (get_or xs i 0) t.demand level') f in
      subst (IsFinalShare d ys t) (sym same) (index-settled d xs ys t (get_or xs i 0) feasible (shares-long d xs filled.feasible) long (λ k l. rise k (omega (arith, shares-long d xs filled.feasible))) (filled.settled i t e f));
  most = λ i l. let s = some-at d.tenants i l in by_most i s.0 s.1 l (get_or rising i false) refl;
  risen = λ i t e f. each i t e ∙ ap (λ b. share_at b (get_or xs i 0) t.demand level') f;
}
  where
    long : length ys ≡ length xs
    long = shares-long d ys feasible ∙ sym (shares-long d xs filled.feasible)

    by_most : (i : ℕ) (t : Tenant) → slice_get d.tenants i ≡ Some t → i < length d.tenants → (b : Bool) → get_or rising i false ≡ b → get_or ys i 0 ≤ level'
    by_most i t e l true f = let a : get_or ys i 0 ≡ min level' t.demand = each i t e ∙ ap (λ b. share_at b (get_or xs i 0) t.demand level') f in omega arith
    by_most i t e l false f = let a : get_or ys i 0 ≡ get_or xs i 0 = each i t e ∙ ap (λ b. share_at b (get_or xs i 0) t.demand level') f in let m = filled.most i l in omega arith

    rise : (k : ℕ) → k < length d.tenants → get_or xs k 0 ≤ get_or ys k 0
    rise k l = let s = some-at d.tenants k l in by s.0 s.1 (get_or rising k false) refl
      where
        by : (t : Tenant) → slice_get d.tenants k ≡ Some t → (b : Bool) → get_or rising k false ≡ b → get_or xs k 0 ≤ get_or ys k 0
        by t e true f = let a : get_or ys k 0 ≡ min level' t.demand = each k t e ∙ ap (λ b. share_at b (get_or xs k 0) t.demand level') f in let r = filled.risen k t e f in omega arith
        by t e false f = let a : get_or ys k 0 ≡ get_or xs k 0 = each k t e ∙ ap (λ b. share_at b (get_or xs k 0) t.demand level') f in omega arith

-- The start and the end.

sum-zeros : (U : Tenant → Bool) (ts : List Tenant) (n : ℕ) → sum (given_to U ts (replicate n zero)) ≡ 0
sum-zeros U [] n = refl
sum-zeros U (t ∷ ts) zero = refl
sum-zeros U (t ∷ ts) (suc n) = let a = sum-step U t ts zero (replicate n zero) in let b = sum-zeros U ts n in by (U t) a b
  where
    by : (c : Bool) → sum (given_to U (t ∷ ts) (zero ∷ replicate n zero)) ≡ cond c zero zero + sum (given_to U ts (replicate n zero)) → sum (given_to U ts (replicate n zero)) ≡ 0 → sum (given_to U (t ∷ ts) (zero ∷ replicate n zero)) ≡ 0
    by true a b = omega arith
    by false a b = omega arith

zero-demands : (ts : List Tenant) → AllZip (λ t x. x ≤ t.demand) ts (replicate (length ts) zero)
zero-demands [] = tt
zero-demands (t ∷ ts) = (omega arith, zero-demands ts)

all-true : (n i : ℕ) → i < n → get_or (replicate n true) i false ≡ true
all-true zero i l = let no : ⊥ = omega arith in absurd no
all-true (suc n) zero l = refl
all-true (suc n) (suc i) l = all-true n i (omega arith)

pub filled-none : (caps : List Cap) (ts : List Tenant) (xs used : List ℕ) (rising : List Bool) → xs ≡ replicate (length ts) zero → used ≡ replicate (length caps) zero → rising ≡ replicate (length ts) true →
    length used ≡ length caps → length rising ≡ length ts → IsFilled (demands caps ts) xs rising used 0
filled-none caps ts xs used rising ex eu er lu lr = record {
  feasible = record {
    demands = subst (λ x. AllZip (λ t x. x ≤ t.demand) ts x) (sym ex) (zero-demands ts);
    caps = λ c cap s. let z = none c in omega arith;
  };
  taken = record { as_many = lu; each = λ c l. ap (λ u. get_or u c 0) eu ∙ zero-at (length caps) c ∙ sym (none c) };
  as_many = lr;
  settled = λ i t e f. absurd (true-false (sym (ap (λ r. get_or r i false) er ∙ all-true (length ts) i (slice_get_within ts i t e)) ∙ f));
  most = λ i l. let z : get_or xs i 0 ≡ 0 = ap (λ x. get_or x i 0) ex ∙ zero-at (length ts) i in omega arith;
  risen = λ i t e f. let z : get_or xs i 0 ≡ 0 = ap (λ x. get_or x i 0) ex ∙ zero-at (length ts) i in omega arith;
}
  where
    none : (c : ℕ) → sum (shares_beneath (demands caps ts) c xs) ≡ 0
    none c = ap (λ x. sum (given_to (is_beneath (demands caps ts) c) ts x)) ex ∙ sum-zeros (is_beneath (demands caps ts) c) ts (length ts)

    true-false : true ≡ false → ⊥
    true-false e = cc

pub filled-all : (d : Demands) (xs used : List ℕ) (rising : List Bool) (level : ℕ) → IsFilled d xs rising used level → ((i : ℕ) (t : Tenant) → slice_get d.tenants i ≡ Some t → t.demand ≤ level) →
    (i : ℕ) (t : Tenant) → slice_get d.tenants i ≡ Some t → IsFinalShare d xs t (get_or xs i 0)
filled-all d xs used rising level f most i t e = by (get_or rising i false) refl
  where
    by : (b : Bool) → get_or rising i false ≡ b → IsFinalShare d xs t (get_or xs i 0)
    by true r = inl (let a = f.risen i t e r in let m = most i t e in omega arith)
    by false r = f.settled i t e r

pub at-some : {X : Type 0} (o : Option X) (x : X) (P : X → Type 0) → o ≡ Some x → IfSome o P → P x
at-some o x P e h = subst (λ o. IfSome o P) e h

-- what a borrowed vector is written back to
pub seam : {X : Type 0} (n : ℕ) (new old : List X) → n ≡ length new → take n (new ++ drop (length new) old) ≡ new
seam n new old e = ap (λ m. take m (new ++ drop (length new) old)) e ∙ take-append_seam new (drop (length new) old)
