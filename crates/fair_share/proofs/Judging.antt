-- Lines that are right, and tenants at fault.
use Rattle.std.proofs.Common.{◌≡◌, ℕ, zero, suc, ◌+◌, ◌≤◌, ◌<◌, ◌⊎◌, inl, inr, Bool, true, false, cond, List, [], ◌∷◌, length, sum, Option, None, Some, MatchOption, unwrap_or, IfNone, slice_get, get_or, refl, sym, ◌∙◌, ap, subst, arith}
use Rattle.std.specs.List.{AllZip}
use Rattle.std.proofs.lemmas.Option.{slice_get_within}
use Rattle.fair_share.specs.declared.cap.Cap.{Cap}
use Rattle.fair_share.specs.declared.cap.Tenant.{Tenant}
use Rattle.fair_share.specs.declared.share.Share.{Share}
use Rattle.fair_share.specs.Shares.{Demands, IsForest, given_to, is_on_way, is_beneath, shares_beneath, IsBoundBy, IsRight, IsDemands, IsBestDivision, IsSound, IsUnsound, IsFirstUnsound, share_rates}
use Rattle.fair_share.specs.Filling.{AreUsed, AreTops, HaveRoomAbove, IsCapPlace, IsBlocked, IsFullAt, IsRightBy, IsFine}
use Rattle.fair_share.proofs.Levels.{best}
use Rattle.fair_share.proofs.Nesting.{met-bound}
use Rattle.fair_share.proofs.Rising.{sum-step}
use Rattle.fair_share.proofs.Naming.{bound-from, bound-to}

-- a cap that is met is one of the caps
pub met-within : (caps : List Cap) → IsForest caps → (at : Option ℕ) → IsCapPlace caps at → (n c : ℕ) → is_on_way caps n at c ≡ true → c < length caps
met-within caps forest at place n c e = by at place (met-bound caps forest n at c e)
  where
    by : (o : Option ℕ) → IsCapPlace caps o → MatchOption o ⊥ (λ k. c ≤ k) → c < length caps
    by None p h = absurd h
    by (Some k) p h = omega arith

module _ (d : Demands) (xs used tops : List ℕ) (are : AreUsed d xs used) (top : AreTops d xs tops) (t : Tenant) (s : Share) where
  pub right-from : IsRightBy d.caps used tops t s → IsRight d xs t s
  right-from h = by s.cap h
    where
      by : (o : Option ℕ) → MatchOption o (s.rate ≡ t.demand) (IsFullAt d.caps t.under used tops s.rate) → MatchOption o (s.rate ≡ t.demand) (IsBoundBy d xs t s.rate)
      by None e = e
      by (Some c) f = bound-from d xs used tops are top t s.rate c f

  pub right-to : IsRight d xs t s → IsRightBy d.caps used tops t s
  right-to h = by s.cap h
    where
      by : (o : Option ℕ) → MatchOption o (s.rate ≡ t.demand) (IsBoundBy d xs t s.rate) → MatchOption o (s.rate ≡ t.demand) (IsFullAt d.caps t.under used tops s.rate)
      by None e = e
      by (Some c) b = bound-to d xs used tops are top t s.rate c b

  pub fine : IsRightBy d.caps used tops t s → s.rate ≤ t.demand → HaveRoomAbove d.caps t.under used 0 → IsFine d xs t s
  fine right within room = record {
    right = right-from right;
    demand = within;
    caps = λ c cap stands met. let u = are.each c (slice_get_within d.caps c cap stands) in let r = room c cap stands met in omega arith;
  }

  pub wrong-line : (IsRightBy d.caps used tops t s → ⊥) → IsUnsound d xs t s
  wrong-line wrong = inl (λ right. wrong (right-to right))

  pub passed-cap : IsBlocked d.caps t.under used 0 → IsUnsound d xs t s
  passed-cap b = inr (inr (record {
    place = b.place;
    cap = b.cap;
    stands = b.stands;
    beneath = b.met;
    excess = let u = are.each b.place (slice_get_within d.caps b.place b.cap b.stands) in let s = b.short in omega arith;
  }))

pub fine-sound : (d : Demands) (xs : List ℕ) (t : Tenant) (s : Share) → IsFine d xs t s → IsUnsound d xs t s → ⊥
fine-sound d xs t s f (inl wrong) = wrong f.right
fine-sound d xs t s f (inr (inl more)) = let le = f.demand in omega arith
fine-sound d xs t s f (inr (inr e)) = let le = f.caps e.place e.cap e.stands e.beneath in let more = e.excess in omega arith

-- nothing is given to nobody
nobody : (U : Tenant → Bool) (ts : List Tenant) (xs : List ℕ) → length xs ≡ length ts → ((i : ℕ) × (t : Tenant) × (slice_get ts i ≡ Some t) × (U t ≡ true)) ⊎ (sum (given_to U ts xs) ≡ 0)
nobody U [] xs l = inr refl
nobody U (t ∷ ts) [] l = let no : ⊥ = omega arith in absurd no
nobody U (t ∷ ts) (x ∷ xs) l = by (U t) refl (sum-step U t ts x xs) (nobody U ts xs (omega arith))
  where
    by : (b : Bool) → U t ≡ b → sum (given_to U (t ∷ ts) (x ∷ xs)) ≡ cond (U t) x 0 + sum (given_to U ts xs) →
        ((i : ℕ) × (u : Tenant) × (slice_get ts i ≡ Some u) × (U u ≡ true)) ⊎ (sum (given_to U ts xs) ≡ 0) →
        ((i : ℕ) × (u : Tenant) × (slice_get (t ∷ ts) i ≡ Some u) × (U u ≡ true)) ⊎ (sum (given_to U (t ∷ ts) (x ∷ xs)) ≡ 0)
    by true e s h = inl (zero, t, refl, e)
    by false e s (inl h) = inl (suc h.0, h.1, h.2, h.3)
    by false e s (inr z) = let off : cond {A = ℕ} (U t) x 0 ≡ 0 = ap (λ (b : Bool). cond {A = ℕ} b x 0) e in inr (let n : sum (given_to U (t ∷ ts) (x ∷ xs)) ≡ 0 = omega arith in n)

-- every line is fine
abbrev pub AreFine : Demands → List Share → ℕ → Type 0
AreFine d shares n = (i : ℕ) (t : Tenant) (s : Share) → i < n → slice_get d.tenants i ≡ Some t → slice_get shares i ≡ Some s → IsFine d (share_rates shares) t s

zip-from : {A B : Type 0} (R : A → B → Type 0) (xs : List A) (ys : List B) → length ys ≡ length xs → ((i : ℕ) (a : A) (b : B) → slice_get xs i ≡ Some a → slice_get ys i ≡ Some b → R a b) → AllZip R xs ys
zip-from R [] [] l h = tt
zip-from R [] (y ∷ ys) l h = let no : ⊥ = omega arith in absurd no
zip-from R (x ∷ xs) [] l h = let no : ⊥ = omega arith in absurd no
zip-from R (x ∷ xs) (y ∷ ys) l h = (h 0 x y refl refl, zip-from R xs ys (omega arith) (λ i a b p q. h (suc i) a b p q))

rates-within : (ts : List Tenant) (ss : List Share) → AllZip (λ t s. s.rate ≤ t.demand) ts ss → AllZip (λ t x. x ≤ t.demand) ts (share_rates ss)
rates-within [] [] h = tt
rates-within [] (s ∷ ss) h = h
rates-within (t ∷ ts) [] h = h
rates-within (t ∷ ts) (s ∷ ss) h = (h.0, rates-within ts ss h.1)

share-there : (ss : List Share) (i : ℕ) → i < length ss → (s : Share) × (slice_get ss i ≡ Some s)
share-there [] i l = let no : ⊥ = omega arith in absurd no
share-there (s ∷ ss) zero l = (s, refl)
share-there (s ∷ ss) (suc i) l = share-there ss i (omega arith)

rates-count : (ss : List Share) → length (share_rates ss) ≡ length ss
rates-count [] = refl
rates-count (s ∷ ss) = ap suc (rates-count ss)

pub all-fine : (d : Demands) (shares : List Share) (n : ℕ) → length shares ≡ length d.tenants → length d.tenants ≤ n → AreFine d shares n → IsSound d shares
all-fine d shares n long all are = record {
  feasible = record {
    demands = rates-within d.tenants shares (zip-from (λ t s. s.rate ≤ t.demand) d.tenants shares long (λ i t s p q. (fine-at i t s p q).demand));
    caps = λ c cap stands. by c cap stands (nobody (is_beneath d c) d.tenants (share_rates shares) (rates-count shares ∙ long));
  };
  right = zip-from (IsRight d (share_rates shares)) d.tenants shares long (λ i t s p q. (fine-at i t s p q).right);
}
  where
    fine-at : (i : ℕ) (t : Tenant) (s : Share) → slice_get d.tenants i ≡ Some t → slice_get shares i ≡ Some s → IsFine d (share_rates shares) t s
    fine-at i t s p q = are i t s (let l = slice_get_within d.tenants i t p in omega arith) p q

    by : (c : ℕ) (cap : Cap) → slice_get d.caps c ≡ Some cap → ((i : ℕ) × (t : Tenant) × (slice_get d.tenants i ≡ Some t) × (is_beneath d c t ≡ true)) ⊎ (sum (shares_beneath d c (share_rates shares)) ≡ 0) → sum (shares_beneath d c (share_rates shares)) ≤ cap.rate
    by c cap stands (inr z) = omega arith
    by c cap stands (inl h) =
        let s = share-there shares h.0 (let l = slice_get_within d.tenants h.0 h.1 h.2 in omega arith) in
        (fine-at h.0 h.1 s.0 h.2 s.1).caps c cap stands h.3

pub fine-more : (d : Demands) (shares : List Share) (n : ℕ) (t : Tenant) (s : Share) → AreFine d shares n → slice_get d.tenants n ≡ Some t → slice_get shares n ≡ Some s → IsFine d (share_rates shares) t s → AreFine d shares (n + 1)
fine-more d shares n t s are p q f i u r l e g = by (last l)
  where
    last : i < n + 1 → (i ≡ n) ⊎ (i < n)
    last l = grind arith

    by : (i ≡ n) ⊎ (i < n) → IsFine d (share_rates shares) u r
    by (inr lt) = are i u r lt e g
    by (inl same) =
        let which : t ≡ u = ap (λ o. unwrap_or o t) (sym p ∙ ap (slice_get d.tenants) (sym same) ∙ e) in
        let line : s ≡ r = ap (λ o. unwrap_or o s) (sym q ∙ ap (slice_get shares) (sym same) ∙ g) in
        subst (λ v. IsFine d (share_rates shares) v r) which (subst (IsFine d (share_rates shares) t) line f)

pub first-unsound : (d : Demands) (shares : List Share) (n : ℕ) (t : Tenant) (s : Share) → AreFine d shares n → slice_get d.tenants n ≡ Some t → slice_get shares n ≡ Some s → IsUnsound d (share_rates shares) t s → IsFirstUnsound d shares n
first-unsound d shares n t s are p q u = record {
  tenant = t;
  stands = p;
  share = s;
  given = q;
  unsound = u;
  before = λ i v r l e g. fine-sound d (share_rates shares) v r (are i v r l e g);
}

-- the line at a place
pub line-at : (ss : List Share) (i : ℕ) (d : Share) → i < length ss → slice_get ss i ≡ Some (get_or ss i d)
line-at [] i d l = let no : ⊥ = omega arith in absurd no
line-at (s ∷ ss) zero d l = refl
line-at (s ∷ ss) (suc i) d l = line-at ss i d (omega arith)

-- where none is at fault the division is best
pub sound-best : (d : Demands) (shares : List Share) → IsDemands d → IsSound d shares → IsBestDivision d (share_rates shares)
sound-best d shares is sound = best d shares is.nested sound.feasible sound.right

pub fair-best : (d : Demands) (shares : List Share) (found : Option ℕ) → IsDemands d → MatchOption found (IsSound d shares) (IsFirstUnsound d shares) → IfNone found (IsBestDivision d (share_rates shares))
fair-best d shares None is h = sound-best d shares is h
fair-best d shares (Some i) is h = tt
