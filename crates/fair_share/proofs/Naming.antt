-- The lines of a filled division.
use Rattle.std.proofs.Common.{◌≡◌, ◌≢◌, ℕ, zero, suc, ◌+◌, ◌≤◌, ◌<◌, ◌↔◌, inl, inr, Bool, true, false, cond, List, [], ◌∷◌, ◌++◌, length, map, filter, replicate, Option, None, Some, MatchOption, get_or, take, refl, sym, ◌∙◌, ap, ap₂, subst, arith}
use Rattle.std.specs.List.{AllByRecursion, AllZip, zip}
use Rattle.std.proofs.lemmas.List.{take_more, map-append, length-take}
use Rattle.std.proofs.lemmas.List.Elements.{All-from_recursion, recursion_from_All}
use Rattle.std.proofs.lemmas.Option.{slice_get_within}
use Rattle.fair_share.specs.declared.cap.Cap.{Cap}
use Rattle.fair_share.specs.declared.cap.Tenant.{Tenant}
use Rattle.fair_share.specs.declared.share.Share.{Share}
use Rattle.fair_share.specs.Shares.{given_to, Demands, is_on_way, is_beneath, shares_beneath, IsBoundBy, IsRight, share_rates}
use Rattle.fair_share.specs.Filling.{demands, AreUsed, AreTops, IsFinalShare, IsFullAt, IsInnermost, IsNamedBy, IsNamed}
use Rattle.fair_share.proofs.Filling.{zero-at}

-- one share more beneath a cap
all-push : (U : Tenant → Bool) (ts : List Tenant) (xs : List ℕ) (t : Tenant) (x m : ℕ) → length xs ≡ length ts →
    AllByRecursion (λ y. y ≤ m) (given_to U (ts ++ t ∷ []) (xs ++ x ∷ [])) ↔ (AllByRecursion (λ y. y ≤ m) (given_to U ts xs) × (U t ≡ true → x ≤ m))
all-push U [] [] t x m l = by (U t)
  where
    by : (b : Bool) → AllByRecursion (λ y. y ≤ m) (map (λ (p : Tenant × ℕ). p.1) (cond b ((t, x) ∷ []) [])) ↔ (AllByRecursion (λ y. y ≤ m) [] × (b ≡ true → x ≤ m))
    by true = ((λ h. (tt, λ e. h.0)), (λ h. (h.1 refl, tt)))
    by false = ((λ h. (tt, λ e. let no : ⊥ = cc in absurd no)), (λ h. tt))
all-push U [] (y ∷ xs) t x m l = let no : ⊥ = omega arith in absurd no
all-push U (u ∷ ts) [] t x m l = let no : ⊥ = omega arith in absurd no
all-push U (u ∷ ts) (y ∷ xs) t x m l = by (U u) (all-push U ts xs t x m (omega arith))
  where
    by : (b : Bool) → AllByRecursion (λ y. y ≤ m) (given_to U (ts ++ t ∷ []) (xs ++ x ∷ [])) ↔ (AllByRecursion (λ y. y ≤ m) (given_to U ts xs) × (U t ≡ true → x ≤ m)) →
        AllByRecursion (λ y. y ≤ m) (map (λ p. p.1) (cond b ((u, y) ∷ filter (λ p. U p.0) (zip (ts ++ t ∷ []) (xs ++ x ∷ []))) (filter (λ p. U p.0) (zip (ts ++ t ∷ []) (xs ++ x ∷ [])))))
        ↔ (AllByRecursion (λ y. y ≤ m) (map (λ p. p.1) (cond b ((u, y) ∷ filter (λ p. U p.0) (zip ts xs)) (filter (λ p. U p.0) (zip ts xs)))) × (U t ≡ true → x ≤ m))
    by true ih = ((λ h. let r = ih.0 h.1 in ((h.0, r.0), r.1)), (λ h. (h.0.0, ih.1 (h.0.1, h.1))))
    by false ih = ih

pub tops-none : (caps : List Cap) (tops : List ℕ) → tops ≡ replicate (length caps) zero → length tops ≡ length caps → AreTops (demands caps []) [] tops
tops-none caps tops e l = record { as_many = l; each = λ c m b. ((λ h. All-from_recursion (λ y. y ≤ m) [] tt), (λ h. let z : get_or tops c 0 ≡ 0 = ap (λ u. get_or u c 0) e ∙ zero-at (length caps) c in omega arith)) }

pub tops-push : (caps : List Cap) (ts : List Tenant) (xs tops tops' : List ℕ) (t : Tenant) (x : ℕ) → length xs ≡ length ts → AreTops (demands caps ts) xs tops → length tops' ≡ length caps →
    ((c m : ℕ) → c < length caps → (get_or tops' c 0 ≤ m) ↔ ((get_or tops c 0 ≤ m) × (is_on_way caps (length caps) t.under c ≡ true → x ≤ m))) → AreTops (demands caps (ts ++ t ∷ [])) (xs ++ x ∷ []) tops'
tops-push caps ts xs tops tops' t x l was long more = record {
  as_many = long;
  each = λ c m b.
      let p = all-push (is_beneath (demands caps ts) c) ts xs t x m l in (
        (λ le. let q = (more c m b).0 le in All-from_recursion (λ y. y ≤ m) (given_to (is_beneath (demands caps ts) c) (ts ++ t ∷ []) (xs ++ x ∷ [])) (p.1 (recursion_from_All (λ y. y ≤ m) (shares_beneath (demands caps ts) c xs) ((was.each c m b).0 q.0), q.1))),
        (λ h. let q = p.0 (recursion_from_All (λ y. y ≤ m) (given_to (is_beneath (demands caps ts) c) (ts ++ t ∷ []) (xs ++ x ∷ [])) h) in (more c m b).1 ((was.each c m b).1 (All-from_recursion (λ y. y ≤ m) (shares_beneath (demands caps ts) c xs) q.0), q.1)),
      );
}

-- a cap bounds a share exactly where the sums and tops say so
module _ (d : Demands) (xs used tops : List ℕ) (are : AreUsed d xs used) (top : AreTops d xs tops) (t : Tenant) (share : ℕ) where
  pub bound-from : (c : ℕ) → IsFullAt d.caps t.under used tops share c → IsBoundBy d xs t share c
  bound-from c f = record { cap = f.cap; stands = f.stands; beneath = f.met; full = sym (are.each c (slice_get_within d.caps c f.cap f.stands)) ∙ f.full; even = (top.each c (share + 1) (slice_get_within d.caps c f.cap f.stands)).0 f.even }

  pub bound-to : (c : ℕ) → IsBoundBy d xs t share c → IsFullAt d.caps t.under used tops share c
  bound-to c b = record { cap = b.cap; stands = b.stands; met = b.beneath; full = are.each c (slice_get_within d.caps c b.cap b.stands) ∙ b.full; even = (top.each c (share + 1) (slice_get_within d.caps c b.cap b.stands)).1 b.even }

  pub named : (found : Option ℕ) → IsFinalShare d xs t share → share ≢ t.demand → MatchOption found ((c : ℕ) → ¬ IsFullAt d.caps t.under used tops share c) (IsInnermost d.caps t.under used tops share) →
      MatchOption found (share ≡ t.demand) (IsNamedBy d xs t share)
  named None (inl e) ne h = e
  named None (inr b) ne h = absurd (h b.0 (bound-to b.0 b.1))
  named (Some c) s ne h = record { bounds = bound-from c h.bounds; last = λ other b. h.last other (bound-to other b); asks_more = ne }

pub zip-push : {A B : Type 0} (R : A → B → Type 0) (xs : List A) (bs : List B) (a : A) (b : B) → AllZip R xs bs → R a b → AllZip R (xs ++ a ∷ []) (bs ++ b ∷ [])
zip-push R [] [] a b h r = (r, tt)
zip-push R [] (y ∷ bs) a b h r = absurd h
zip-push R (x ∷ xs) [] a b h r = absurd h
zip-push R (x ∷ xs) (y ∷ bs) a b h r = (h.0, zip-push R xs bs a b h.1 r)

pub named-right : (d : Demands) (xs : List ℕ) (ts : List Tenant) (lines : List Share) → AllZip (IsNamed d xs) ts lines → AllZip (IsRight d xs) ts lines
named-right d xs [] [] h = tt
named-right d xs [] (l ∷ lines) h = h
named-right d xs (t ∷ ts) [] h = h
named-right d xs (t ∷ ts) (l ∷ lines) h = (by l.cap h.0, named-right d xs ts lines h.1)
  where
    by : (o : Option ℕ) → MatchOption o (l.rate ≡ t.demand) (IsNamedBy d xs t l.rate) → MatchOption o (l.rate ≡ t.demand) (IsBoundBy d xs t l.rate)
    by None e = e
    by (Some c) n = n.bounds

pub zip-take : {A B : Type 0} (R : A → B → Type 0) (xs : List A) (ys : List B) (n : ℕ) (a : A) (b : B) → AllZip R (take n xs) ys → n < length xs → a ≡ get_or xs n a → R a b → AllZip R (take (n + 1) xs) (ys ++ b ∷ [])
zip-take R xs ys n a b h l e r = subst (λ zs. AllZip R zs (ys ++ b ∷ [])) (sym (take_more xs n a l ∙ ap (λ u. take n xs ++ u ∷ []) (sym e))) (zip-push R (take n xs) ys a b h r)

pub rates-take : (lines : List Share) (xs : List ℕ) (n : ℕ) (line : Share) → share_rates lines ≡ take n xs → n < length xs → line.rate ≡ get_or xs n 0 → share_rates (lines ++ line ∷ []) ≡ take (n + 1) xs
rates-take lines xs n line e l r = map-append (λ s. s.rate) lines (line ∷ []) ∙ ap₂ (λ ys x. ys ++ x ∷ []) e r ∙ sym (take_more xs n 0 l)

pub tops-take : (caps : List Cap) (ts : List Tenant) (xs tops tops' : List ℕ) (n : ℕ) (t : Tenant) → length xs ≡ length ts → n < length ts → t ≡ get_or ts n t → AreTops (demands caps (take n ts)) (take n xs) tops → length tops' ≡ length caps →
    ((c m : ℕ) → c < length caps → (get_or tops' c 0 ≤ m) ↔ ((get_or tops c 0 ≤ m) × (is_on_way caps (length caps) t.under c ≡ true → get_or xs n 0 ≤ m))) → AreTops (demands caps (take (n + 1) ts)) (take (n + 1) xs) tops'
tops-take caps ts xs tops tops' n t l lt e was long more =
    subst (λ us. AreTops (demands caps us) (take (n + 1) xs) tops') (sym (take_more ts n t lt ∙ ap (λ u. take n ts ++ u ∷ []) (sym e)))
    (subst (λ ys. AreTops (demands caps (take n ts ++ t ∷ [])) ys tops') (sym (take_more xs n 0 (omega arith)))
    (tops-push caps (take n ts) (take n xs) tops tops' t (get_or xs n 0) (length-take-both xs ts n (omega arith) (omega arith)) was long more))
  where
    length-take-both : (ys : List ℕ) (bs : List Tenant) (k : ℕ) → k ≤ length ys → k ≤ length bs → length (take k ys) ≡ length (take k bs)
    length-take-both ys bs k p q = let a = length-take k ys in let b = length-take k bs in omega arith

pub none-named : (d : Demands) (xs : List ℕ) (ts : List Tenant) (lines : List Share) → lines ≡ [] → (share_rates lines ≡ take 0 xs) × AllZip (IsNamed d xs) (take 0 ts) lines
none-named d xs ts lines e = (ap share_rates e, subst (AllZip (IsNamed d xs) []) (sym e) tt)

take-whole : {X : Type 0} (xs : List X) (n : ℕ) → length xs ≤ n → take n xs ≡ xs
take-whole [] zero l = refl
take-whole [] (suc n) l = refl
take-whole (x ∷ xs) zero l = let no : ⊥ = omega arith in absurd no
take-whole (x ∷ xs) (suc n) l = ap (λ ys. x ∷ ys) (take-whole xs n (omega arith))

pub all-rates : (lines : List Share) (xs : List ℕ) (n : ℕ) → share_rates lines ≡ take n xs → length xs ≤ n → share_rates lines ≡ xs
all-rates lines xs n e l = e ∙ take-whole xs n l

pub all-named : (d : Demands) (xs : List ℕ) (lines : List Share) (n : ℕ) → share_rates lines ≡ xs → AllZip (IsNamed d xs) (take n d.tenants) lines → length d.tenants ≤ n → AllZip (IsNamed d (share_rates lines)) d.tenants lines
all-named d xs lines n e h l = subst (λ ys. AllZip (IsNamed d ys) d.tenants lines) (sym e) (subst (λ ts. AllZip (IsNamed d xs) ts lines) (take-whole d.tenants n l) h)
