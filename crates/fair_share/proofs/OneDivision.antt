-- A text stands for one division, and a sound division has a text.
use Rattle.std.proofs.Common.{◌≡◌, ◌≢◌, ℕ, zero, suc, ◌≤◌, ◌<◌, ◌^◌, List, [], ◌∷◌, ◌++◌, length, map, Option, None, Some, MatchOption, unwrap_or, slice_get, codes, refl, sym, ◌∙◌, ap, ap₂, append_assoc, arith, lit<}
use Rattle.std.specs.Bool.{⊤}
use Rattle.std.specs.List.{AllByRecursion, AllZip}
use Rattle.std.specs.Fmt.{decimal}
use Rattle.std.proofs.lemmas.List.{append_cancel_left}
use Rattle.std.proofs.lemmas.Option.{slice_get_within}
use Rattle.merlin_base.specs.Lexemes.{IsName}
use Rattle.merlin_base.proofs.Cutting.{AreSame, cut_once}
use Rattle.merlin_base.proofs.Decimals.{decimal_same}
use Rattle.merlin_model.specs.Networks.{AreDifferent}
use Rattle.fair_share.specs.declared.cap.Cap.{Cap}
use Rattle.fair_share.specs.declared.cap.Tenant.{Tenant}
use Rattle.fair_share.specs.declared.share.Share.{Share}
use Rattle.fair_share.specs.Shares.{Demands, IsDemands, IsRight, IsBoundBy, IsSound, share_rates}
use Rattle.fair_share.specs.ShareTexts.{cap_name, cap_bound_text, share_words, share_line, AreNamed, HaveNames, IsShare, AreShares, IsSharesText}
use Rattle.fair_share.proofs.ShareLines.{at-name, cap-name-free, digit-free, words-free, parts-of, behind-cap}
use Rattle.fair_share.proofs.WholeShares.{text_for, AreFor}

-- the names of demands, in two lists
names-parts : (xs ys : List (List ℕ)) → AllByRecursion IsName (xs ++ ys) → AllByRecursion IsName xs × AllByRecursion IsName ys
names-parts [] ys all = (tt, all)
names-parts (x ∷ xs) ys all = let h = names-parts xs ys all.1 in ((all.0, h.0), h.1)

cap-names : (caps : List Cap) → AllByRecursion IsName (map (λ (c : Cap). c.name) caps) → AreNamed caps
cap-names [] all = tt
cap-names (c ∷ caps) all = (all.0, cap-names caps all.1)

tenant-names : (ts : List Tenant) → AllByRecursion IsName (map (λ (t : Tenant). t.name) ts) → HaveNames ts
tenant-names [] all = tt
tenant-names (t ∷ ts) all = (all.0, tenant-names ts all.1)

pub are-named : (d : Demands) → IsDemands d → AreNamed d.caps
are-named d is = cap-names d.caps (names-parts (map (λ c. c.name) d.caps) (map (λ t. t.name) d.tenants) is.names).0

pub have-names : (d : Demands) → IsDemands d → HaveNames d.tenants
have-names d is = tenant-names d.tenants (names-parts (map (λ c. c.name) d.caps) (map (λ t. t.name) d.tenants) is.names).1

-- names that differ stand once
differ-at : (x : List ℕ) (xs : List (List ℕ)) (j : ℕ) → AllByRecursion (λ y. x ≢ y) xs → slice_get xs j ≡ Some x → ⊥
differ-at x [] j all e = cc
differ-at x (y ∷ xs) zero all e = all.0 (sym (ap (λ o. unwrap_or o y) e))
differ-at x (y ∷ xs) (suc j) all e = differ-at x xs j all.1 e

pub place-once : (xs ys : List (List ℕ)) (i j : ℕ) (x : List ℕ) → AreDifferent (xs ++ ys) → slice_get xs i ≡ Some x → slice_get xs j ≡ Some x → i ≡ j
place-once [] ys i j x d e f = let no : ⊥ = cc in absurd no
place-once (z ∷ xs) ys zero zero x d e f = refl
place-once (z ∷ xs) ys zero (suc j) x d e f = absurd (differ-at z xs j (front xs d.0) (f ∙ ap Some (sym (ap (λ o. unwrap_or o z) e))))
  where
    front : (us : List (List ℕ)) → AllByRecursion (λ y. z ≢ y) (us ++ ys) → AllByRecursion (λ y. z ≢ y) us
    front [] all = tt
    front (u ∷ us) all = (all.0, front us all.1)
place-once (z ∷ xs) ys (suc i) zero x d e f = absurd (differ-at z xs i (front xs d.0) (e ∙ ap Some (sym (ap (λ o. unwrap_or o z) f))))
  where
    front : (us : List (List ℕ)) → AllByRecursion (λ y. z ≢ y) (us ++ ys) → AllByRecursion (λ y. z ≢ y) us
    front [] all = tt
    front (u ∷ us) all = (all.0, front us all.1)
place-once (z ∷ xs) ys (suc i) (suc j) x d e f = ap suc (place-once xs ys i j x d.1 e f)

small : {n : ℕ} → n ≤ 1000000000 → n < 10 ^ 19
small {n} h = let t : 1000000000 < 10 ^ 19 = lit< tt in omega arith

module _ (caps : List Cap) (named : AreNamed caps) (others : List (List ℕ)) (differ : AreDifferent (map (λ (c : Cap). c.name) caps ++ others)) where
  bound-once : (a b : Option ℕ) (x y : List ℕ) → MatchOption a ⊤ (λ c. c < length caps) → MatchOption b ⊤ (λ c. c < length caps) → (cap_bound_text caps a ++ 10 ∷ []) ++ x ≡ (cap_bound_text caps b ++ 10 ∷ []) ++ y → a ≡ b
  bound-once None None x y p q e = refl
  bound-once None (Some c) x y p q e = let no : ◌≡◌ {A = ℕ} 100 99 = ap (λ (z : List ℕ). unwrap_or (slice_get z 0) 0) e in let f : ⊥ = omega arith in absurd f
  bound-once (Some c) None x y p q e = let no : ◌≡◌ {A = ℕ} 99 100 = ap (λ (z : List ℕ). unwrap_or (slice_get z 0) 0) e in let f : ⊥ = omega arith in absurd f
  bound-once (Some c) (Some k) x y p q e =
      let tails = append_cancel_left (codes "cap ") (cap_name caps c ++ 10 ∷ x) (cap_name caps k ++ 10 ∷ y) (sym (behind-cap caps _ x c refl) ∙ e ∙ behind-cap caps _ y k refl) in
      let cut : AreSame (cap_name caps c) (cap_name caps k) x y = cut_once 10 (cap_name caps c) (cap_name caps k) x y (cap-name-free caps named c p) (cap-name-free caps named k q) tails in
      ap Some (place-once (map (λ (c : Cap). c.name) caps) others c k (cap_name caps c) differ (at-name caps c p) (at-name caps k q ∙ ap Some (sym cut.front)))

  share-once : (t : Tenant) (u v : Share) (x y : List ℕ) → IsShare caps u → IsShare caps v → share_line caps t u ++ x ≡ share_line caps t v ++ y → u ≡ v
  share-once t u v x y p q e =
      let a = append_cancel_left (codes "share ") _ _ (sym (parts-of caps t u x) ∙ e ∙ parts-of caps t v y) in
      let b = append_cancel_left t.name _ _ a in
      let c = append_cancel_left (codes " ") _ _ b in
      let cut = cut_once 107 (decimal u.rate) (decimal v.rate) (codes "bps " ++ ((cap_bound_text caps u.cap ++ 10 ∷ []) ++ x)) (codes "bps " ++ ((cap_bound_text caps v.cap ++ 10 ∷ []) ++ y)) (digit-free u.rate p.rate) (digit-free v.rate q.rate) c in
      let rate : u.rate ≡ v.rate = decimal_same u.rate v.rate (small p.rate) (small q.rate) cut.front in
      let cap : u.cap ≡ v.cap = bound-once u.cap v.cap x y p.cap q.cap (append_cancel_left (codes "bps ") _ _ cut.rest) in
      λ i. record { rate = rate i; cap = cap i }

  shares-once : (ts : List Tenant) → HaveNames ts → (us vs : List Share) → AreFor caps ts us → AreFor caps ts vs → text_for caps ts us ≡ text_for caps ts vs → us ≡ vs
  shares-once [] names [] [] a b e = refl
  shares-once [] names [] (v ∷ vs) a b e = absurd b
  shares-once [] names (u ∷ us) vs a b e = absurd a
  shares-once (t ∷ ts) names [] vs a b e = absurd a
  shares-once (t ∷ ts) names (u ∷ us) [] a b e = absurd b
  shares-once (t ∷ ts) names (u ∷ us) (v ∷ vs) a b e =
      let one : u ≡ v = share-once t u v (text_for caps ts us) (text_for caps ts vs) a.0 b.0 e in
      let cut = cut_once 10 (share_words caps t u) (share_words caps t v) (text_for caps ts us) (text_for caps ts vs) (words-free caps named t names.0 u a.0) (words-free caps named t names.0 v b.0)
      (sym (append_assoc (share_words caps t u) (10 ∷ []) (text_for caps ts us)) ∙ e ∙ append_assoc (share_words caps t v) (10 ∷ []) (text_for caps ts vs)) in
      ap₂ (λ z zs. z ∷ zs) one (shares-once ts names.1 us vs a.1 b.1 cut.rest)

pub one-division : (d : Demands) (bytes : List ℕ) (us vs : List Share) → IsDemands d → IsSharesText d bytes us → IsSharesText d bytes vs → us ≡ vs
one-division d bytes us vs is p q = shares-once d.caps (are-named d is) (map (λ t. t.name) d.tenants) is.differ d.tenants (have-names d is) us vs p.are_shares q.are_shares (sym p.text ∙ q.text)

-- the lines of a sound division can be written
pub sound-shares : (d : Demands) (ss : List Share) → IsDemands d → IsSound d ss → AreShares d ss
sound-shares d ss is sound = by d.tenants ss sound.right sound.feasible.demands is.demands
  where
    cap-there : (t : Tenant) (s : Share) (o : Option ℕ) → MatchOption o (s.rate ≡ t.demand) (IsBoundBy d (share_rates ss) t s.rate) → MatchOption o ⊤ (λ c. c < length d.caps)
    cap-there t s None h = tt
    cap-there t s (Some c) b = slice_get_within d.caps c b.cap b.stands

    by : (ts : List Tenant) (us : List Share) → AllZip (IsRight d (share_rates ss)) ts us → AllZip (λ t x. x ≤ t.demand) ts (share_rates us) → AllByRecursion (λ (t : Tenant). t.demand ≤ 1000000000) ts → AllZip (λ t s. IsShare d.caps s) ts us
    by [] [] a b c = tt
    by [] (u ∷ us) a b c = absurd a
    by (t ∷ ts) [] a b c = absurd a
    by (t ∷ ts) (u ∷ us) a b c = (record { rate = (let p = b.0 in let q = c.0 in omega arith); cap = cap-there t u u.cap a.0 }, by ts us a.1 b.1 c.1)
