-- NamedRates as demands: names that differ, and the caps that they name.
use Rattle.std.proofs.Common.{◌≡◌, ℕ, zero, suc, ◌+◌, ◌≤◌, ◌<◌, ◌⊎◌, inl, inr, List, [], ◌∷◌, ◌++◌, length, map, take, slice_get, get_or, Option, None, Some, unwrap_or, refl, sym, ◌∙◌, ap, ap₂, subst, arith}
use Rattle.std.specs.List.{AllByRecursion}
use Rattle.std.proofs.lemmas.Option.{slice_get_read, slice_get_within}
use Rattle.merlin_base.specs.Lexemes.{IsName}
use Rattle.merlin_model.specs.Networks.{AreDifferent}
use Rattle.fair_share.specs.declared.cap.Cap.{Cap}
use Rattle.fair_share.specs.declared.cap.Tenant.{Tenant}
use Rattle.fair_share.specs.declared.entry.NamedRate.{NamedRate}
use Rattle.fair_share.specs.declared.entry.NamedRates.{NamedRates}
use Rattle.fair_share.specs.Shares.{Demands, IsForest, HavePlaces, IsDemands, demand_names}
use Rattle.fair_share.specs.declared.fault.DemandFault.{DemandFault}
use Rattle.fair_share.specs.declared.fault.DemandFault.TheVariants.{Json, Shape, TooLarge, DuplicateName, UnknownCap, OutOfMemory}
use Rattle.fair_share.specs.Reading.{AreRefused, names_written, all_names, AreFew, IsPlaceOfCap, IsCapOf, IsTenantOf, AreCapsOf, AreTenantsOf, AreDemandsOf, IsFirstUnknown, AreKnown, names_before}
use Rattle.fair_share.specs.Failing.{IsLawfulRate, AreLawful, FailsAsUnknown}

-- Lists that grow at their end.

pub get-pushed : {X : Type 0} (xs : List X) (x y : X) (i : ℕ) → slice_get (xs ++ x ∷ []) i ≡ Some y → (slice_get xs i ≡ Some y) ⊎ ((i ≡ length xs) × (x ≡ y))
get-pushed [] x y zero e = inr (refl, ap (λ o. unwrap_or o x) e)
get-pushed [] x y (suc i) e = let no : ⊥ = cc in absurd no
get-pushed (z ∷ xs) x y zero e = inl e
get-pushed (z ∷ xs) x y (suc i) e = by (get-pushed xs x y i e)
  where
    by : (slice_get xs i ≡ Some y) ⊎ ((i ≡ length xs) × (x ≡ y)) → (slice_get xs i ≡ Some y) ⊎ ((suc i ≡ suc (length xs)) × (x ≡ y))
    by (inl h) = inl h
    by (inr h) = inr (ap suc h.0, h.1)

pub long-pushed : {X : Type 0} (xs : List X) (x : X) → length (xs ++ x ∷ []) ≡ length xs + 1
long-pushed [] x = refl
long-pushed (y ∷ xs) x = let h = long-pushed xs x in omega arith

names-more : (es : List NamedRate) (n : ℕ) (e : NamedRate) → slice_get es n ≡ Some e → take (n + 1) (names_written es) ≡ take n (names_written es) ++ e.name ∷ []
names-more [] n e s = let no : ⊥ = cc in absurd no
names-more (x ∷ es) zero e s = ap (λ y. y.name ∷ []) (ap (λ o. unwrap_or o x) s)
names-more (x ∷ es) (suc n) e s = let one : suc n + 1 ≡ suc (n + 1) = omega arith in ap (λ k. take k (x.name ∷ names_written es)) one ∙ ap (λ z. x.name ∷ z) (names-more es n e s)

take-past : {X : Type 0} (xs : List X) (n : ℕ) → length xs ≤ n → take n xs ≡ xs
take-past [] zero l = refl
take-past [] (suc n) l = refl
take-past (x ∷ xs) zero l = let no : ⊥ = omega arith in absurd no
take-past (x ∷ xs) (suc n) l = ap (λ z. x ∷ z) (take-past xs n (omega arith))

pub names-long : (es : List NamedRate) → length (names_written es) ≡ length es
names-long [] = refl
names-long (e ∷ es) = ap suc (names-long es)

pub get-take : {X : Type 0} (xs : List X) (n k : ℕ) (x : X) → slice_get (take n xs) k ≡ Some x → (k < n) × (slice_get xs k ≡ Some x)
get-take [] zero k x e = let no : ⊥ = cc in absurd no
get-take [] (suc n) k x e = let no : ⊥ = cc in absurd no
get-take (y ∷ xs) zero k x e = let no : ⊥ = cc in absurd no
get-take (y ∷ xs) (suc n) zero x e = (omega arith, e)
get-take (y ∷ xs) (suc n) (suc k) x e = let h = get-take xs n k x e in ((let l = h.0 in omega arith), h.1)

-- something stands at each place
pub there : {X : Type 0} (xs : List X) (i : ℕ) → i < length xs → (x : X) × (slice_get xs i ≡ Some x)
there [] i l = let no : ⊥ = omega arith in absurd no
there (x ∷ xs) zero l = (x, refl)
there (x ∷ xs) (suc i) l = there xs i (omega arith)

-- The first caps of entries.
pub record AreCapsSoFar (es : List NamedRate) (n : ℕ) (caps : List Cap) : Type 0 where
  pub as_many : length caps ≡ n
  pub names : map (λ cap. cap.name) caps ≡ take n (names_written es)
  pub each : (c : ℕ) (e : NamedRate) (cap : Cap) → slice_get es c ≡ Some e → slice_get caps c ≡ Some cap → IsCapOf (take c (names_written es)) e cap

map-pushed : (caps : List Cap) (cap : Cap) → map (λ (c : Cap). c.name) (caps ++ cap ∷ []) ≡ map (λ c. c.name) caps ++ cap.name ∷ []
map-pushed [] cap = refl
map-pushed (c ∷ caps) cap = ap (λ z. c.name ∷ z) (map-pushed caps cap)

pub caps-none : (es : List NamedRate) (caps : List Cap) → caps ≡ [] → AreCapsSoFar es 0 caps
caps-none es caps e = subst (AreCapsSoFar es 0) (sym e) (record { as_many = refl; names = refl; each = λ c x cap s t. let no : ⊥ = cc in absurd no })

pub caps-push : (es : List NamedRate) (n : ℕ) (caps after : List Cap) (e : NamedRate) (cap : Cap) → AreCapsSoFar es n caps → n < length es → e ≡ get_or es n e → cap.name ≡ e.name → cap.rate ≡ e.rate → IsPlaceOfCap (map (λ c. c.name) caps) e.under cap.under →
    after ≡ caps ++ cap ∷ [] → AreCapsSoFar es (n + 1) after
caps-push es n caps after e cap so l is name rate under pushed = subst (AreCapsSoFar es (n + 1)) (sym pushed) (record {
  as_many = (let a = so.as_many in let b = long-pushed caps cap in omega arith);
  names = map-pushed caps cap ∙ ap₂ (λ xs x. xs ++ x ∷ []) so.names name ∙ sym (names-more es n e at);
  each = λ c x y s t. by c x y s (get-pushed caps cap y c t);
})
  where
    at : slice_get es n ≡ Some e
    at = slice_get_read es (length es) n e refl l is

    by : (c : ℕ) (x : NamedRate) (y : Cap) → slice_get es c ≡ Some x → (slice_get caps c ≡ Some y) ⊎ ((c ≡ length caps) × (cap ≡ y)) → IsCapOf (take c (names_written es)) x y
    by c x y s (inl t) = so.each c x y s t
    by c x y s (inr h) =
        let here : c ≡ n = h.0 ∙ so.as_many in
        let which : e ≡ x = ap (λ o. unwrap_or o e) (sym at ∙ ap (slice_get es) (sym here) ∙ s) in
        subst (λ k. IsCapOf (take k (names_written es)) x y) (sym here) (subst (λ z. IsCapOf (take n (names_written es)) z y) which (subst (IsCapOf (take n (names_written es)) e) h.1
        (record { name = name; rate = rate; under = subst (λ ns. IsPlaceOfCap ns e.under cap.under) so.names under })))

pub caps-all : (es : List NamedRate) (n : ℕ) (caps : List Cap) → AreCapsSoFar es n caps → n ≡ length es → AreCapsOf es caps
caps-all es n caps so e = record { as_many = so.as_many ∙ e; each = so.each }

pub caps-names : (es : List NamedRate) (caps : List Cap) → AreCapsOf es caps → map (λ (c : Cap). c.name) caps ≡ names_written es
caps-names es caps are = by es caps are.as_many (λ c e cap s t. (are.each c e cap s t).name)
  where
    by : (xs : List NamedRate) (ys : List Cap) → length ys ≡ length xs → ((c : ℕ) (e : NamedRate) (cap : Cap) → slice_get xs c ≡ Some e → slice_get ys c ≡ Some cap → cap.name ≡ e.name) → map (λ (c : Cap). c.name) ys ≡ names_written xs
    by [] [] l h = refl
    by [] (y ∷ ys) l h = let no : ⊥ = omega arith in absurd no
    by (x ∷ xs) [] l h = let no : ⊥ = omega arith in absurd no
    by (x ∷ xs) (y ∷ ys) l h = ap₂ (λ z zs. z ∷ zs) (h 0 x y refl refl) (by xs ys (omega arith) (λ c e cap s t. h (suc c) e cap s t))

pub first-unknown-cap : (es : List NamedRate) (n : ℕ) (caps : List Cap) (e : NamedRate) (name : List ℕ) → AreCapsSoFar es n caps → n < length es → e ≡ get_or es n e → e.under ≡ Some name →
    ((place : Option ℕ) → IsPlaceOfCap (map (λ c. c.name) caps) e.under place → ⊥) → IsFirstUnknown (names_before es) es name
first-unknown-cap es n caps e name so l is under none = record {
  place = n;
  entry = e;
  stands = slice_get_read es (length es) n e refl l is;
  under = under;
  unknown = λ k. none k.0 (subst (λ ns. IsPlaceOfCap ns e.under k.0) (sym so.names) k.1);
  before = λ i x lt s. let cap = there caps i (let a = so.as_many in omega arith) in (cap.0.under, (so.each i x cap.0 s cap.1).under);
}

-- The first tenants of entries.
pub record AreTenantsSoFar (names : List (List ℕ)) (es : List NamedRate) (n : ℕ) (ts : List Tenant) : Type 0 where
  pub as_many : length ts ≡ n
  pub each : (i : ℕ) (e : NamedRate) (t : Tenant) → slice_get es i ≡ Some e → slice_get ts i ≡ Some t → IsTenantOf names e t

pub tenants-none : (names : List (List ℕ)) (es : List NamedRate) (ts : List Tenant) → ts ≡ [] → AreTenantsSoFar names es 0 ts
tenants-none names es ts e = subst (AreTenantsSoFar names es 0) (sym e) (record { as_many = refl; each = λ i x t s u. let no : ⊥ = cc in absurd no })

pub tenants-push : (names : List (List ℕ)) (es : List NamedRate) (n : ℕ) (ts after : List Tenant) (e : NamedRate) (t : Tenant) → AreTenantsSoFar names es n ts → n < length es → e ≡ get_or es n e → IsTenantOf names e t → after ≡ ts ++ t ∷ [] →
    AreTenantsSoFar names es (n + 1) after
tenants-push names es n ts after e t so l is one pushed = subst (AreTenantsSoFar names es (n + 1)) (sym pushed) (record {
  as_many = (let a = so.as_many in let b = long-pushed ts t in omega arith);
  each = λ i x y s u. by i x y s (get-pushed ts t y i u);
})
  where
    at : slice_get es n ≡ Some e
    at = slice_get_read es (length es) n e refl l is

    by : (i : ℕ) (x : NamedRate) (y : Tenant) → slice_get es i ≡ Some x → (slice_get ts i ≡ Some y) ⊎ ((i ≡ length ts) × (t ≡ y)) → IsTenantOf names x y
    by i x y s (inl u) = so.each i x y s u
    by i x y s (inr h) =
        let which : e ≡ x = ap (λ o. unwrap_or o e) (sym at ∙ ap (slice_get es) (sym (h.0 ∙ so.as_many)) ∙ s) in
        subst (λ z. IsTenantOf names z y) which (subst (IsTenantOf names e) h.1 one)

pub tenants-all : (names : List (List ℕ)) (es : List NamedRate) (n : ℕ) (ts : List Tenant) → AreTenantsSoFar names es n ts → n ≡ length es → AreTenantsOf names es ts
tenants-all names es n ts so e = record { as_many = so.as_many ∙ e; each = so.each }

pub first-unknown-tenant : (names : List (List ℕ)) (es : List NamedRate) (n : ℕ) (ts : List Tenant) (e : NamedRate) (name : List ℕ) → AreTenantsSoFar names es n ts → n < length es → e ≡ get_or es n e → e.under ≡ Some name →
    ((place : Option ℕ) → IsPlaceOfCap names e.under place → ⊥) → IsFirstUnknown (λ _. names) es name
first-unknown-tenant names es n ts e name so l is under none = record {
  place = n;
  entry = e;
  stands = slice_get_read es (length es) n e refl l is;
  under = under;
  unknown = λ k. none k.0 k.1;
  before = λ i x lt s. let t = there ts i (let a = so.as_many in omega arith) in (t.0.under, (so.each i x t.0 s t.1).under);
}

pub all-known : (es : List NamedRate) (caps : List Cap) → AreCapsOf es caps → AreKnown (names_before es) es
all-known es caps are i e s = let cap = there caps i (let a = are.as_many in let l = slice_get_within es i e s in omega arith) in (cap.0.under, (are.each i e cap.0 s cap.1).under)

-- What demands keep.

place-under : (names : List (List ℕ)) (name : Option (List ℕ)) (under : Option ℕ) (u : ℕ) → IsPlaceOfCap names name under → under ≡ Some u → u < length names
place-under names None under u e f = let no : ⊥ = cc in absurd no
place-under names (Some name) under u h f =
    let same : h.0 ≡ u = ap (λ o. unwrap_or o u) (sym h.1 ∙ f) in
    let l = slice_get_within names h.0 name h.2 in omega arith

take-long : {X : Type 0} (xs : List X) (n : ℕ) → length (take n xs) ≤ n
take-long [] zero = omega arith
take-long [] (suc n) = omega arith
take-long (x ∷ xs) zero = omega arith
take-long (x ∷ xs) (suc n) = let h = take-long xs n in omega arith

pub forest : (es : List NamedRate) (caps : List Cap) → AreCapsOf es caps → IsForest caps
forest es caps are c u cap s e =
    let x = there es c (let a = are.as_many in let l = slice_get_within caps c cap s in omega arith) in
    let below = place-under (take c (names_written es)) x.0.under cap.under u (are.each c x.0 cap x.1 s).under e in
    let few = take-long (names_written es) c in omega arith

pub places : (caps : List Cap) (es : List NamedRate) (ts : List Tenant) (names : List (List ℕ)) → length names ≡ length caps → AreTenantsOf names es ts → HavePlaces caps ts
places caps es ts names long are i u t s e =
    let x = there es i (let a = are.as_many in let l = slice_get_within ts i t s in omega arith) in
    let below = place-under names x.0.under t.under u (are.each i x.0 t x.1 s).under e in omega arith

caps-rates : (es : List NamedRate) (caps : List Cap) → AreCapsOf es caps → AllByRecursion IsLawfulRate es → AllByRecursion (λ (c : Cap). c.rate ≤ 1000000000) caps
caps-rates es caps are all = by es caps are.as_many (λ c e cap s t. (are.each c e cap s t).rate) all
  where
    by : (xs : List NamedRate) (ys : List Cap) → length ys ≡ length xs → ((c : ℕ) (e : NamedRate) (cap : Cap) → slice_get xs c ≡ Some e → slice_get ys c ≡ Some cap → cap.rate ≡ e.rate) → AllByRecursion IsLawfulRate xs → AllByRecursion (λ (c : Cap). c.rate ≤ 1000000000) ys
    by xs [] l h all = tt
    by [] (y ∷ ys) l h all = let no : ⊥ = omega arith in absurd no
    by (x ∷ xs) (y ∷ ys) l h all = ((let e = h 0 x y refl refl in let f = all.0.1 in omega arith), by xs ys (omega arith) (λ c e cap s t. h (suc c) e cap s t) all.1)

tenants-rates : (names : List (List ℕ)) (es : List NamedRate) (ts : List Tenant) → AreTenantsOf names es ts → AllByRecursion IsLawfulRate es → AllByRecursion (λ (t : Tenant). t.demand ≤ 1000000000) ts
tenants-rates names es ts are all = by es ts are.as_many (λ i e t s u. (are.each i e t s u).demand) all
  where
    by : (xs : List NamedRate) (ys : List Tenant) → length ys ≡ length xs → ((i : ℕ) (e : NamedRate) (t : Tenant) → slice_get xs i ≡ Some e → slice_get ys i ≡ Some t → t.demand ≡ e.rate) → AllByRecursion IsLawfulRate xs → AllByRecursion (λ (t : Tenant). t.demand ≤ 1000000000) ys
    by xs [] l h all = tt
    by [] (y ∷ ys) l h all = let no : ⊥ = omega arith in absurd no
    by (x ∷ xs) (y ∷ ys) l h all = ((let e = h 0 x y refl refl in let f = all.0.1 in omega arith), by xs ys (omega arith) (λ i e t s u. h (suc i) e t s u) all.1)

tenants-names : (names : List (List ℕ)) (es : List NamedRate) (ts : List Tenant) → AreTenantsOf names es ts → map (λ (t : Tenant). t.name) ts ≡ names_written es
tenants-names names es ts are = by es ts are.as_many (λ i e t s u. (are.each i e t s u).name)
  where
    by : (xs : List NamedRate) (ys : List Tenant) → length ys ≡ length xs → ((i : ℕ) (e : NamedRate) (t : Tenant) → slice_get xs i ≡ Some e → slice_get ys i ≡ Some t → t.name ≡ e.name) → map (λ (t : Tenant). t.name) ys ≡ names_written xs
    by [] [] l h = refl
    by [] (y ∷ ys) l h = let no : ⊥ = omega arith in absurd no
    by (x ∷ xs) [] l h = let no : ⊥ = omega arith in absurd no
    by (x ∷ xs) (y ∷ ys) l h = ap₂ (λ z zs. z ∷ zs) (h 0 x y refl refl) (by xs ys (omega arith) (λ i e t s u. h (suc i) e t s u))

lawful-names : (es : List NamedRate) → AllByRecursion IsLawfulRate es → AllByRecursion IsName (names_written es)
lawful-names [] all = tt
lawful-names (e ∷ es) all = (all.0.0, lawful-names es all.1)

all-append : {X : Type 0} (P : X → Type 0) (xs ys : List X) → AllByRecursion P xs → AllByRecursion P ys → AllByRecursion P (xs ++ ys)
all-append P [] ys a b = b
all-append P (x ∷ xs) ys a b = (a.0, all-append P xs ys a.1 b)

pub are-demands : (entries : NamedRates) (d : Demands) → AreLawful entries → AreDemandsOf entries d → IsDemands d
are-demands entries d law are = record {
  nested = record {
    caps = forest entries.caps.items d.caps are.caps;
    tenants = places d.caps entries.tenants.items d.tenants (names_written entries.caps.items) (names-long entries.caps.items ∙ sym are.caps.as_many) are.tenants;
  };
  names = subst (AllByRecursion IsName) (sym names) (all-append IsName (names_written entries.caps.items) (names_written entries.tenants.items) (lawful-names entries.caps.items law.0) (lawful-names entries.tenants.items law.1));
  differ = subst AreDifferent (sym names) are.differ;
  few_caps = let a = are.caps.as_many in let f = are.few.0 in omega arith;
  few_tenants = let a = are.tenants.as_many in let f = are.few.1 in omega arith;
  rates = caps-rates entries.caps.items d.caps are.caps law.0;
  demands = tenants-rates (names_written entries.caps.items) entries.tenants.items d.tenants are.tenants law.1;
}
  where
    names : demand_names d ≡ all_names entries
    names = ap₂ (λ xs ys. xs ++ ys) (caps-names entries.caps.items d.caps are.caps) (tenants-names (names_written entries.caps.items) entries.tenants.items d.tenants are.tenants)

-- a tenant under no cap, where the caps are what the entries say
pub refused-tenants : (entries : NamedRates) (caps : List Cap) (fault : DemandFault) → AreFew entries → AreDifferent (all_names entries) → AreCapsOf entries.caps.items caps →
    FailsAsUnknown (IsFirstUnknown (λ _. map (λ (c : Cap). c.name) caps) entries.tenants.items) fault → AreRefused entries fault
refused-tenants entries caps Json few differ are h = h
refused-tenants entries caps (Shape what) few differ are h = h
refused-tenants entries caps (TooLarge what count) few differ are h = absurd h
refused-tenants entries caps (DuplicateName name) few differ are h = absurd h
refused-tenants entries caps (UnknownCap name) few differ are h =
    (few, differ, inr (all-known entries.caps.items caps are, subst (λ (ns : List (List ℕ)). IsFirstUnknown (λ _. ns) entries.tenants.items name) (caps-names entries.caps.items caps are) h))
refused-tenants entries caps OutOfMemory few differ are h = tt

-- entries as demands
pub as-demands : (entries : NamedRates) (caps : List Cap) (ts : List Tenant) → AreFew entries → AreDifferent (all_names entries) → AreCapsOf entries.caps.items caps → AreTenantsOf (map (λ (c : Cap). c.name) caps) entries.tenants.items ts →
    AreDemandsOf entries (record { caps = caps; tenants = ts })
as-demands entries caps ts few differ are tenants = record {
  few = few;
  differ = differ;
  caps = are;
  tenants = subst (λ (ns : List (List ℕ)). AreTenantsOf ns entries.tenants.items ts) (caps-names entries.caps.items caps are) tenants;
}

pub refused-read : (entries : NamedRates) (caps cs : List Cap) (es : List NamedRate) (fault : DemandFault) → AreFew entries → AreDifferent (all_names entries) → AreCapsOf entries.caps.items caps → cs ≡ caps → es ≡ entries.tenants.items →
    FailsAsUnknown (IsFirstUnknown (λ _. map (λ (c : Cap). c.name) cs) es) fault → AreRefused entries fault
refused-read entries caps cs es fault few differ are e f h = refused-tenants entries caps fault few differ are
    (subst (λ (zs : List Cap). FailsAsUnknown (IsFirstUnknown (λ _. map (λ (c : Cap). c.name) zs) entries.tenants.items) fault) e (subst (λ (xs : List NamedRate). FailsAsUnknown (IsFirstUnknown (λ _. map (λ (c : Cap). c.name) cs) xs) fault) f h))
