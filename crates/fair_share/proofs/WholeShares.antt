-- The text of a division, from the first line to the last.
use Rattle.std.proofs.Common.{◌≡◌, ℕ, zero, suc, ◌+◌, ◌-◌, ◌≤◌, ◌<◌, inl, inr, List, [], ◌∷◌, ◌++◌, length, map, take, drop, None, get_or, refl, sym, ◌∙◌, ap, subst, append_assoc, append-nil, arith}
use Rattle.std.specs.List.{AllZip, zip}
use Rattle.merlin_base.specs.Texts.{joined}
use Rattle.merlin_base.specs.Lexemes.{IsName}
use Rattle.merlin_base.specs.Faults.{IsWholeLines, IsFirstWrongLine}
use Rattle.merlin_base.proofs.Cutting.{cut_once}
use Rattle.merlin_base.proofs.WrongLines.{line_wrong, whole_lines, lift_wrong, whole_wrong, past_end}
use Rattle.fair_share.specs.declared.cap.Cap.{Cap}
use Rattle.fair_share.specs.declared.cap.Tenant.{Tenant}
use Rattle.fair_share.specs.declared.share.Share.{Share}
use Rattle.fair_share.specs.ShareTexts.{share_words, share_line, AreNamed, HaveNames, IsShare}
use Rattle.fair_share.proofs.ShareLines.{words-free, IsNoShare}

-- the lines of tenants, one after another
abbrev pub text_for : List Cap → List Tenant → List Share → List ℕ
text_for caps ts ss = joined (map (λ p. share_line caps p.0 p.1) (zip ts ss))

abbrev pub AreFor : List Cap → List Tenant → List Share → Type 0
AreFor caps ts ss = AllZip (λ t s. IsShare caps s) ts ss

take-past : {X : Type 0} (xs : List X) (n : ℕ) → length xs ≤ n → take n xs ≡ xs
take-past [] zero l = refl
take-past [] (suc n) l = refl
take-past (x ∷ xs) zero l = let no : ⊥ = omega arith in absurd no
take-past (x ∷ xs) (suc n) l = ap (λ z. x ∷ z) (take-past xs n (omega arith))

module _ (caps : List Cap) (named : AreNamed caps) where
  -- a line and what stands behind it
  pub line-behind : (t : Tenant) (s : Share) (front x : List ℕ) → (share_line caps t s ++ front) ++ x ≡ share_words caps t s ++ 10 ∷ (front ++ x)
  line-behind t s front x = append_assoc (share_line caps t s) front x ∙ append_assoc (share_words caps t s) (10 ∷ []) (front ++ x)

  -- two texts of the same tenants end at the same place
  pub ends-once : (ts : List Tenant) → HaveNames ts → (us vs : List Share) (x y : List ℕ) → AreFor caps ts us → AreFor caps ts vs → text_for caps ts us ++ x ≡ text_for caps ts vs ++ y → x ≡ y
  ends-once [] names [] [] x y a b e = e
  ends-once [] names [] (v ∷ vs) x y a b e = absurd b
  ends-once [] names (u ∷ us) vs x y a b e = absurd a
  ends-once (t ∷ ts) names [] vs x y a b e = absurd a
  ends-once (t ∷ ts) names (u ∷ us) [] x y a b e = absurd b
  ends-once (t ∷ ts) names (u ∷ us) (v ∷ vs) x y a b e =
      let same = cut_once 10 (share_words caps t u) (share_words caps t v) (text_for caps ts us ++ x) (text_for caps ts vs ++ y) (words-free caps named t names.0 u a.0) (words-free caps named t names.0 v b.0)
      (sym (line-behind t u (text_for caps ts us) x) ∙ e ∙ line-behind t v (text_for caps ts vs) y) in
      ends-once ts names.1 us vs x y a.1 b.1 same.rest

  pub text-more : (ts later : List Tenant) (us vs : List Share) → AreFor caps ts us → text_for caps (ts ++ later) (us ++ vs) ≡ text_for caps ts us ++ text_for caps later vs
  text-more [] later [] vs a = refl
  text-more [] later (u ∷ us) vs a = absurd a
  text-more (t ∷ ts) later [] vs a = absurd a
  text-more (t ∷ ts) later (u ∷ us) vs a = ap (λ z. share_line caps t u ++ z) (text-more ts later us vs a.1) ∙ sym (append_assoc (share_line caps t u) (text_for caps ts us) (text_for caps later vs))

  pub for-more : (ts later : List Tenant) (us vs : List Share) → AreFor caps ts us → AreFor caps later vs → AreFor caps (ts ++ later) (us ++ vs)
  for-more [] later [] vs a b = b
  for-more [] later (u ∷ us) vs a b = absurd a
  for-more (t ∷ ts) later [] vs a b = absurd a
  for-more (t ∷ ts) later (u ∷ us) vs a b = (a.0, for-more ts later us vs a.1 b)

  -- the shares of the first tenants, and of the others
  pub record AreCut (ts later : List Tenant) (ss : List Share) : Type 0 where
    pub us : List Share
    pub vs : List Share
    pub whole : ss ≡ us ++ vs
    pub first : AreFor caps ts us
    pub others : AreFor caps later vs

  cut-shares : (ts later : List Tenant) (ss : List Share) → AreFor caps (ts ++ later) ss → AreCut ts later ss
  cut-shares [] later ss a = record { us = []; vs = ss; whole = refl; first = tt; others = a }
  cut-shares (t ∷ ts) later [] a = absurd a
  cut-shares (t ∷ ts) later (s ∷ ss) a =
      let c = cut-shares ts later ss a.1 in
      record { us = s ∷ c.us; vs = c.vs; whole = ap (λ z. s ∷ z) c.whole; first = (a.0, c.first); others = c.others }

  pub whole-for : (ts : List Tenant) (us : List Share) → IsWholeLines (text_for caps ts us)
  whole-for [] us = inl refl
  whole-for (t ∷ ts) [] = inl refl
  whole-for (t ∷ ts) (u ∷ us) = whole_lines (share_line caps t u) (text_for caps ts us) (inr (share_words caps t u, refl)) (whole-for ts us)

  -- nothing for each of the tenants
  nothing : Share
  nothing = record { rate = 0; cap = None }

  nothing-for : List Tenant → List Share
  nothing-for [] = []
  nothing-for (t ∷ ts) = nothing ∷ nothing-for ts

  is-nothing : IsShare caps nothing
  unfolding nothing
  is-nothing = record { rate = omega arith; cap = tt }

  nothing-is : (ts : List Tenant) → AreFor caps ts (nothing-for ts)
  unfolding nothing-for
  nothing-is [] = tt
  nothing-is (t ∷ ts) = (is-nothing, nothing-is ts)

  abbrev IsWrongAt : List Tenant → List ℕ → ℕ → Type 0
  IsWrongAt ts text left = (left ≤ length text) × IsFirstWrongLine (text_for caps ts) (AreFor caps ts) text (length text - left)

  abbrev part-of : Tenant → List Tenant → Share × List Share → List ℕ
  part-of t later w = share_line caps t w.0 ++ text_for caps later w.1

  abbrev IsPartOf : Tenant → List Tenant → Share × List Share → Type 0
  IsPartOf t later w = IsShare caps w.0 × AreFor caps later w.1

  -- where the line of the next tenant can't follow
  pub wrong-line : (ts later : List Tenant) (t : Tenant) (us : List Share) (text rest : List ℕ) → HaveNames (ts ++ t ∷ later) → HaveNames ts → IsName t.name → AreFor caps ts us → text ≡ text_for caps ts us ++ rest → IsNoShare caps t rest →
      IsWrongAt (ts ++ t ∷ later) text (length rest)
  wrong-line ts later t us text rest names before is a e none = whole_wrong (text_for caps (ts ++ t ∷ later)) (AreFor caps (ts ++ t ∷ later)) text (length rest)
      (lift_wrong (text_for caps (ts ++ t ∷ later)) (AreFor caps (ts ++ t ∷ later)) (part-of t later) (IsPartOf t later) (text_for caps ts us) rest text (length rest) (whole-for ts us) e up down
      (line_wrong (part-of t later) (IsPartOf t later) (λ w. share_words caps t w.0) (λ w. text_for caps later w.1) rest (nothing, nothing-for later) (is-nothing, nothing-is later) splits (λ w h. words-free caps named t is w.0 h.0) first))
    where
      splits : (w : Share × List Share) → (share_line caps t w.0 ++ text_for caps later w.1) ≡ share_words caps t w.0 ++ 10 ∷ text_for caps later w.1
      splits w = append_assoc (share_words caps t w.0) (10 ∷ []) (text_for caps later w.1)

      first : (w : Share × List Share) (z : List ℕ) → (IsShare caps w.0 × AreFor caps later w.1) → rest ≡ share_words caps t w.0 ++ 10 ∷ z → ⊥
      first w z h f = none w.0 z h.0 (f ∙ sym (append_assoc (share_words caps t w.0) (10 ∷ []) z))

      up : (w : Share × List Share) → (IsShare caps w.0 × AreFor caps later w.1) → (v : List Share) × AreFor caps (ts ++ t ∷ later) v × (more : List ℕ) × (text_for caps (ts ++ t ∷ later) v ≡ text_for caps ts us ++ ((share_line caps t w.0 ++ text_for caps later w.1) ++ more))
      up w h = (
        us ++ w.0 ∷ w.1,
        for-more ts (t ∷ later) us (w.0 ∷ w.1) a h,
        [],
        text-more ts (t ∷ later) us (w.0 ∷ w.1) a ∙ ap (λ z. text_for caps ts us ++ z) (sym (append-nil ((share_line caps t w.0 ++ text_for caps later w.1)))),
      )

      down : (v : List Share) (x z : List ℕ) → AreFor caps (ts ++ t ∷ later) v → text_for caps (ts ++ t ∷ later) v ++ x ≡ text_for caps ts us ++ z → (w : Share × List Share) × (IsShare caps w.0 × AreFor caps later w.1) × (y : List ℕ) × ((share_line caps t w.0 ++ text_for caps later w.1) ++ y ≡ z)
      down v x z h f = by c.vs c.others whole
        where
          c : AreCut ts (t ∷ later) v
          c = cut-shares ts (t ∷ later) v h

          whole : text_for caps (t ∷ later) c.vs ++ x ≡ z
          whole = ends-once ts before c.us us (text_for caps (t ∷ later) c.vs ++ x) z c.first a
              (sym (append_assoc (text_for caps ts c.us) (text_for caps (t ∷ later) c.vs) x) ∙ ap (λ q. q ++ x) (sym (ap (text_for caps (ts ++ t ∷ later)) c.whole ∙ text-more ts (t ∷ later) c.us c.vs c.first)) ∙ f)

          by : (vs : List Share) → AreFor caps (t ∷ later) vs → text_for caps (t ∷ later) vs ++ x ≡ z → (w : Share × List Share) × (IsShare caps w.0 × AreFor caps later w.1) × (y : List ℕ) × ((share_line caps t w.0 ++ text_for caps later w.1) ++ y ≡ z)
          by [] o g = absurd o
          by (s ∷ ss) o g = ((s, ss), o, x, g)

  -- behind the line of the last tenant anything is wrong
  pub wrong-end : (ts : List Tenant) (us : List Share) (text rest : List ℕ) → HaveNames ts → AreFor caps ts us → text ≡ text_for caps ts us ++ rest → (rest ≡ [] → ⊥) → IsWrongAt ts text (length rest)
  wrong-end ts us text rest names a e some = past_end (text_for caps ts) (AreFor caps ts) text rest us (length rest) a e (whole-for ts us) some refl
      (λ v x h f. sym (ends-once ts names v us [] x h a (append-nil (text_for caps ts v) ∙ f)))

  -- one line more
  pub pushed : (ts : List Tenant) (t : Tenant) (us : List Share) (s : Share) (text rest others : List ℕ) → AreFor caps ts us → IsShare caps s → text ≡ text_for caps ts us ++ rest → rest ≡ share_line caps t s ++ others →
      (text ≡ text_for caps (ts ++ t ∷ []) (us ++ s ∷ []) ++ others) × AreFor caps (ts ++ t ∷ []) (us ++ s ∷ [])
  pushed ts t us s text rest others a is e f = (
    e ∙ ap (λ z. text_for caps ts us ++ z) (f ∙ ap (λ z. z ++ others) (sym (append-nil (share_line caps t s)))) ∙ sym (append_assoc (text_for caps ts us) (share_line caps t s ++ []) others) ∙ ap (λ z. z ++ others) (sym (text-more ts (t ∷ []) us (s ∷ []) a)),
    for-more ts (t ∷ []) us (s ∷ []) a (is, tt),
  )

  -- nothing is read yet
  pub none-read : (ts : List Tenant) (us : List Share) (text : List ℕ) → us ≡ [] → (text ≡ text_for caps (take 0 ts) us ++ text) × AreFor caps (take 0 ts) us
  none-read ts us text e = subst (λ (ss : List Share). (text ≡ text_for caps [] ss ++ text) × AreFor caps [] ss) (sym e) (refl, tt)

  -- all is read
  pub all-read : (ts : List Tenant) (us : List Share) (n : ℕ) (text rest : List ℕ) → length ts ≤ n → rest ≡ [] → text ≡ text_for caps (take n ts) us ++ rest → AreFor caps (take n ts) us → (text ≡ text_for caps ts us) × AreFor caps ts us
  all-read ts us n text rest l e f a = (
    f ∙ ap (λ z. text_for caps (take n ts) us ++ z) e ∙ append-nil (text_for caps (take n ts) us) ∙ ap (λ z. text_for caps z us) (take-past ts n l),
    subst (λ (z : List Tenant). AreFor caps z us) (take-past ts n l) a,
  )

  pub wrong-past : (ts : List Tenant) (n : ℕ) (us : List Share) (text rest : List ℕ) → HaveNames ts → length ts ≤ n → AreFor caps (take n ts) us → text ≡ text_for caps (take n ts) us ++ rest → (rest ≡ [] → ⊥) → IsWrongAt ts text (length rest)
  wrong-past ts n us text rest names l a f some =
      wrong-end ts us text rest names (subst (λ (z : List Tenant). AreFor caps z us) (take-past ts n l) a) (f ∙ ap (λ z. text_for caps z us ++ rest) (take-past ts n l)) some

  -- the tenants, cut at a place
  pub cut-tenants : (ts : List Tenant) (n : ℕ) (t : Tenant) → n < length ts → t ≡ get_or ts n t → take n ts ++ t ∷ drop (suc n) ts ≡ ts
  cut-tenants [] n t l e = let no : ⊥ = omega arith in absurd no
  cut-tenants (u ∷ ts) zero t l e = ap (λ (z : Tenant). z ∷ ts) e
  cut-tenants (u ∷ ts) (suc n) t l e = ap (λ z. u ∷ z) (cut-tenants ts n t (omega arith) e)

  names-at : (ts : List Tenant) (n : ℕ) (t : Tenant) → HaveNames ts → n < length ts → t ≡ get_or ts n t → HaveNames (take n ts) × IsName t.name
  names-at [] n t names l e = let no : ⊥ = omega arith in absurd no
  names-at (u ∷ ts) zero t names l e = (tt, subst (λ (z : Tenant). IsName z.name) (sym e) names.0)
  names-at (u ∷ ts) (suc n) t names l e = let h = names-at ts n t names.1 (omega arith) e in ((names.0, h.0), h.1)

  pub wrong-at : (ts : List Tenant) (n : ℕ) (t : Tenant) (us : List Share) (text rest : List ℕ) → HaveNames ts → n < length ts → t ≡ get_or ts n t → AreFor caps (take n ts) us → text ≡ text_for caps (take n ts) us ++ rest → IsNoShare caps t rest → IsWrongAt ts text (length rest)
  wrong-at ts n t us text rest names l e a f none =
      let h = names-at ts n t names l e in
      let whole = cut-tenants ts n t l e in
      subst (λ (z : List Tenant). IsWrongAt z text (length rest)) whole (wrong-line (take n ts) (drop (suc n) ts) t us text rest (subst HaveNames (sym whole) names) h.0 h.1 a f none)

  pub pushed-at : (ts : List Tenant) (n : ℕ) (t : Tenant) (us after : List Share) (s : Share) (text rest others : List ℕ) → n < length ts → t ≡ get_or ts n t → AreFor caps (take n ts) us → IsShare caps s → text ≡ text_for caps (take n ts) us ++ rest →
      rest ≡ share_line caps t s ++ others → after ≡ us ++ s ∷ [] → (text ≡ text_for caps (take (n + 1) ts) after ++ others) × AreFor caps (take (n + 1) ts) after
  pushed-at ts n t us after s text rest others l e a is f g pushed' =
      subst (λ (zs : List Share). (text ≡ text_for caps (take (n + 1) ts) zs ++ others) × AreFor caps (take (n + 1) ts) zs) (sym pushed')
      (subst (λ (z : List Tenant). (text ≡ text_for caps z (us ++ s ∷ []) ++ others) × AreFor caps z (us ++ s ∷ [])) (sym (take-next ts n t l e)) (pushed (take n ts) t us s text rest others a is f g))
    where
      take-next : (zs : List Tenant) (k : ℕ) (z : Tenant) → k < length zs → z ≡ get_or zs k z → take (k + 1) zs ≡ take k zs ++ z ∷ []
      take-next [] k z l e = let no : ⊥ = omega arith in absurd no
      take-next (u ∷ zs) zero z l e = ap (λ (x : Tenant). x ∷ []) (sym e)
      take-next (u ∷ zs) (suc k) z l e = let one : suc k + 1 ≡ suc (k + 1) = omega arith in ap (λ m. take m (u ∷ zs)) one ∙ ap (λ q. u ∷ q) (take-next zs k z (omega arith) e)
