-- The way up from a place, step by step.
use Rattle.std.proofs.Common.{◌≡◌, ℕ, zero, suc, ◌+◌, ◌≤◌, ◌<◌, ◌⊎◌, ◌↔◌, inl, inr, ◌==◌, ◌||◌, ◌&&◌, not, Bool, true, false, cond, List, [], ◌∷◌, length, Option, None, Some, MatchOption, slice_get, get_or, set, max, refl, sym, ◌∙◌, ap, subst, arith}
use Rattle.std.proofs.lemmas.List.{length-set}
use Rattle.std.specs.Option.{option_map_or}
use Rattle.std.proofs.lemmas.Bool.{or_cases, eqb-true, cases_eq, eq-eqb, ne_eqb}
use Rattle.fair_share.specs.declared.cap.Cap.{Cap}
use Rattle.fair_share.specs.Shares.{IsForest, cap_above, is_on_way}
use Rattle.fair_share.specs.Filling.{IsCapPlace}
use Rattle.fair_share.proofs.Nesting.{met-bound}

-- what is left of the way up from `start` begins at `at`, and has at most `left` caps; of what was met before, P holds
pub record IsClimbing (caps : List Cap) (start at : Option ℕ) (left : ℕ) (P : ℕ → Type 0) : Type 0 where
  pub place : IsCapPlace caps at
  pub part : (c : ℕ) → is_on_way caps left at c ≡ true → is_on_way caps (length caps) start c ≡ true
  pub rest : (c : ℕ) → is_on_way caps (length caps) start c ≡ true → (is_on_way caps left at c ≡ true) ⊎ P c

pub climb-starts : (caps : List Cap) (start : Option ℕ) (P : ℕ → Type 0) → IsCapPlace caps start → IsClimbing caps start start (length caps) P
climb-starts caps start P h = record { place = h; part = λ c e. e; rest = λ c e. inl e }

none-met : (caps : List Cap) (n c : ℕ) → is_on_way caps n None c ≡ true → ⊥
none-met caps zero c e = cc
none-met caps (suc n) c e = cc

nothing-met : (caps : List Cap) (at : Option ℕ) (c : ℕ) → is_on_way caps 0 at c ≡ true → ⊥
nothing-met caps at c e = cc

-- the way is at an end
pub climb-ends : (caps : List Cap) (start at : Option ℕ) (left : ℕ) (P : ℕ → Type 0) → (at ≡ None) ⊎ (left ≡ 0) → IsClimbing caps start at left P → (c : ℕ) → is_on_way caps (length caps) start c ≡ true → P c
climb-ends caps start at left P end climb c e = by end (climb.rest c e)
  where
    by : (at ≡ None) ⊎ (left ≡ 0) → (is_on_way caps left at c ≡ true) ⊎ P c → P c
    by end (inr p) = p
    by (inl f) (inl m) = absurd (none-met caps left c (subst (λ a. is_on_way caps left a c ≡ true) f m))
    by (inr f) (inl m) = absurd (nothing-met caps at c (subst (λ n. is_on_way caps n at c ≡ true) f m))

-- what is added so far: to the caps that were passed
abbrev pub added : List Cap → Option ℕ → Option ℕ → ℕ → ℕ → ℕ → ℕ
added caps start at left amount c = cond (is_on_way caps (length caps) start c && not (is_on_way caps left at c)) amount 0

module _ (caps : List Cap) (forest : IsForest caps) where
  pub above-place : (k : ℕ) (cap : Cap) → slice_get caps k ≡ Some cap → k < length caps → IsCapPlace caps cap.under
  above-place k cap e l = by cap.under refl
    where
      by : (o : Option ℕ) → cap.under ≡ o → IsCapPlace caps o
      by None f = tt
      by (Some u) f = let lt = forest k u cap e f in omega arith

  above-is : (k : ℕ) (cap : Cap) → slice_get caps k ≡ Some cap → cap_above caps k ≡ cap.under
  above-is k cap e = ap (λ o. option_map_or (λ cap. cap.under) o None) e

  -- one cap further up
  pub climb-on : (start at : Option ℕ) (left left' k : ℕ) (cap : Cap) (P : ℕ → Type 0) → IsClimbing caps start at left P → at ≡ Some k → left ≡ suc left' → slice_get caps k ≡ Some cap → k < length caps → P k → IsClimbing caps start cap.under left' P
  climb-on start at left left' k cap P climb e f g l p = record {
    place = above-place k cap g l;
    part = λ c m. climb.part c (subst (λ n. is_on_way caps n at c ≡ true) (sym f) (subst (λ a. is_on_way caps (suc left') a c ≡ true) (sym e) (on c m)));
    rest = λ c m. by c (climb.rest c m);
  }
    where
      on : (c : ℕ) → is_on_way caps left' cap.under c ≡ true → is_on_way caps (suc left') (Some k) c ≡ true
      on c m = right (k == c) (subst (λ a. is_on_way caps left' a c ≡ true) (sym (above-is k cap g)) m)
        where
          right : (b : Bool) → is_on_way caps left' (cap_above caps k) c ≡ true → (b || is_on_way caps left' (cap_above caps k) c) ≡ true
          right true m = refl
          right false m = m

      by : (c : ℕ) → (is_on_way caps left at c ≡ true) ⊎ P c → (is_on_way caps left' cap.under c ≡ true) ⊎ P c
      by c (inr q) = inr q
      by c (inl m) = at_k (or_cases (k == c) (is_on_way caps left' (cap_above caps k) c) (subst (λ a. is_on_way caps (suc left') a c ≡ true) e (subst (λ n. is_on_way caps n at c ≡ true) f m)))
        where
          at_k : ((k == c) ≡ true) ⊎ (is_on_way caps left' (cap_above caps k) c ≡ true) → (is_on_way caps left' cap.under c ≡ true) ⊎ P c
          at_k (inl s) = inr (subst P (eqb-true k c s) p)
          at_k (inr q) = inl (subst (λ a. is_on_way caps left' a c ≡ true) (above-is k cap g) q)

  -- the place itself is met
  pub met-here : (at : Option ℕ) (left left' k : ℕ) → at ≡ Some k → left ≡ suc left' → is_on_way caps left at k ≡ true
  met-here at left left' k e f = subst (λ n. is_on_way caps n at k ≡ true) (sym f) (subst (λ a. is_on_way caps (suc left') a k ≡ true) (sym e) (self k (is_on_way caps left' (cap_above caps k) k)))
    where
      same : (n : ℕ) → (n == n) ≡ true
      same n = grind arith

      self : (k : ℕ) (b : Bool) → ((k == k) || b) ≡ true
      self k b = ap (λ x. x || b) (same k)

  pub added-none : (start : Option ℕ) (amount c : ℕ) → added caps start start (length caps) amount c ≡ 0
  added-none start amount c = by (is_on_way caps (length caps) start c)
    where
      by : (b : Bool) → cond (b && not b) amount 0 ≡ 0
      by true = refl
      by false = refl

  pub added-all : (start at : Option ℕ) (left amount c : ℕ) → (at ≡ None) ⊎ (left ≡ 0) → added caps start at left amount c ≡ cond (is_on_way caps (length caps) start c) amount 0
  added-all start at left amount c end = by (is_on_way caps (length caps) start c) (is_on_way caps left at c) (λ m. none end m)
    where
      none : (at ≡ None) ⊎ (left ≡ 0) → is_on_way caps left at c ≡ true → ⊥
      none (inl f) m = none-met caps left c (subst (λ a. is_on_way caps left a c ≡ true) f m)
      none (inr f) m = nothing-met caps at c (subst (λ n. is_on_way caps n at c ≡ true) f m)

      by : (a b : Bool) → (b ≡ true → ⊥) → cond (a && not b) amount 0 ≡ cond a amount 0
      by true true h = absurd (h refl)
      by true false h = refl
      by false b h = refl

  pub added-on : (start at : Option ℕ) (left left' k : ℕ) (cap : Cap) (amount c : ℕ) → ((c : ℕ) → is_on_way caps left at c ≡ true → is_on_way caps (length caps) start c ≡ true) → at ≡ Some k → left ≡ suc left' → slice_get caps k ≡ Some cap →
      added caps start cap.under left' amount c ≡ added caps start at left amount c + cond (k == c) amount 0
  added-on start at left left' k cap amount c part e f g = by (is_on_way caps (length caps) start c) (k == c) refl (is_on_way caps left' cap.under c) refl (part c) step
    where
      step : is_on_way caps left at c ≡ ((k == c) || is_on_way caps left' cap.under c)
      step = ap (λ n. is_on_way caps n at c) f ∙ ap (λ a. is_on_way caps (suc left') a c) e ∙ ap (λ a. (k == c) || is_on_way caps left' a c) (above-is k cap g)

      -- a cap isn't above itself
      not_above : (k == c) ≡ true → is_on_way caps left' cap.under c ≡ true → ⊥
      not_above s m = at_under cap.under refl (met-bound caps forest left' cap.under c m)
        where
          at_under : (o : Option ℕ) → cap.under ≡ o → MatchOption o ⊥ (λ u. c ≤ u) → ⊥
          at_under None h b = b
          at_under (Some u) h b = let lt = forest k u cap g h in let same = eqb-true k c s in omega arith

      by : (a s : Bool) → (k == c) ≡ s → (r : Bool) → is_on_way caps left' cap.under c ≡ r → (is_on_way caps left at c ≡ true → a ≡ true) → is_on_way caps left at c ≡ ((k == c) || is_on_way caps left' cap.under c) →
          cond (a && not r) amount 0 ≡ cond (a && not (is_on_way caps left at c)) amount 0 + cond s amount 0
      by a true es true er p h = absurd (not_above es er)
      by true true es false er p h = let m : is_on_way caps left at c ≡ true = h ∙ ap (λ b. b || is_on_way caps left' cap.under c) es in now (is_on_way caps left at c) m
        where
          now : (b : Bool) → b ≡ true → amount ≡ cond (not b) amount 0 + amount
          now true m = omega arith
          now false m = let no : ⊥ = cc in absurd no
      by false true es false er p h = let m : is_on_way caps left at c ≡ true = h ∙ ap (λ b. b || is_on_way caps left' cap.under c) es in let no : false ≡ true = p m in let n : ⊥ = cc in absurd n
      by a false es r er p h = let m : is_on_way caps left at c ≡ r = h ∙ ap (λ b. b || is_on_way caps left' cap.under c) es ∙ er in ap (λ b. cond (a && not b) amount 0) (sym m) ∙ plus (cond (a && not (is_on_way caps left at c)) amount 0)
        where
          plus : (n : ℕ) → n ≡ n + 0
          plus n = omega arith

pub place-within : (caps : List Cap) (at : Option ℕ) (k : ℕ) → at ≡ Some k → IsCapPlace caps at → k < length caps
place-within caps at k e h = subst (IsCapPlace caps) e h

-- one entry is raised

set-same : (xs : List ℕ) (k v : ℕ) → k < length xs → get_or (set xs k v) k 0 ≡ v
set-same [] k v l = let no : ⊥ = omega arith in absurd no
set-same (x ∷ xs) zero v l = refl
set-same (x ∷ xs) (suc k) v l = set-same xs k v (omega arith)

set-other : (xs : List ℕ) (k v c : ℕ) → (k ≡ c → ⊥) → get_or (set xs k v) c 0 ≡ get_or xs c 0
set-other [] k v c ne = refl
set-other (x ∷ xs) zero v zero ne = absurd (ne refl)
set-other (x ∷ xs) zero v (suc c) ne = refl
set-other (x ∷ xs) (suc k) v zero ne = refl
set-other (x ∷ xs) (suc k) v (suc c) ne = set-other xs k v c (λ e. ne (ap suc e))

pub set-more : (xs : List ℕ) (k n c : ℕ) → k < length xs → get_or (set xs k (get_or xs k 0 + n)) c 0 ≡ get_or xs c 0 + cond (k == c) n 0
set-more xs k n c l = by (cases_eq k c)
  where
    by : (k ≡ c) ⊎ (k ≡ c → ⊥) → get_or (set xs k (get_or xs k 0 + n)) c 0 ≡ get_or xs c 0 + cond (k == c) n 0
    by (inl e) = subst (λ c. get_or (set xs k (get_or xs k 0 + n)) c 0 ≡ get_or xs c 0 + cond (k == c) n 0) e
        (set-same xs k (get_or xs k 0 + n) l ∙ ap (λ (b : Bool). get_or xs k 0 + cond {A = ℕ} b n 0) (sym (eq-eqb k k refl)))
    by (inr ne) = set-other xs k (get_or xs k 0 + n) c ne ∙ plus (get_or xs c 0) ∙ ap (λ (b : Bool). get_or xs c 0 + cond {A = ℕ} b n 0) (sym (ne_eqb k c ne))
      where
        plus : (m : ℕ) → m ≡ m + 0
        plus m = omega arith

-- what is known of the caps that were passed may be weakened
pub climb-weaker : (caps : List Cap) (start at : Option ℕ) (left : ℕ) (P Q : ℕ → Type 0) → ((c : ℕ) → P c → Q c) → IsClimbing caps start at left P → IsClimbing caps start at left Q
climb-weaker caps start at left P Q f climb = record { place = climb.place; part = climb.part; rest = λ c m. by c (climb.rest c m) }
  where
    by : (c : ℕ) → (is_on_way caps left at c ≡ true) ⊎ P c → (is_on_way caps left at c ≡ true) ⊎ Q c
    by c (inl m) = inl m
    by c (inr p) = inr (f c p)

-- the tops are raised along the way
pub record IsTopping (caps : List Cap) (start at : Option ℕ) (left share : ℕ) (old tops : List ℕ) : Type 0 where
  pub climb : IsClimbing caps start at left (λ c. share ≤ get_or tops c 0)
  pub as_many : length tops ≡ length caps
  pub higher : (c : ℕ) → get_or old c 0 ≤ get_or tops c 0
  pub least : (c m : ℕ) → c < length caps → get_or old c 0 ≤ m → (is_on_way caps (length caps) start c ≡ true → share ≤ m) → get_or tops c 0 ≤ m

pub topping-starts : (caps : List Cap) (start : Option ℕ) (share : ℕ) (tops : List ℕ) → IsCapPlace caps start → length tops ≡ length caps → IsTopping caps start start (length caps) share tops tops
topping-starts caps start share tops h l = record { climb = climb-starts caps start (λ c. share ≤ get_or tops c 0) h; as_many = l; higher = λ c. omega arith; least = λ c m b o f. o }

pub topping-ends : (caps : List Cap) (start at : Option ℕ) (left share : ℕ) (old tops : List ℕ) → (at ≡ None) ⊎ (left ≡ 0) → IsTopping caps start at left share old tops →
    (c m : ℕ) → c < length caps → (get_or tops c 0 ≤ m) ↔ ((get_or old c 0 ≤ m) × (is_on_way caps (length caps) start c ≡ true → share ≤ m))
topping-ends caps start at left share old tops end t c m b =
    ((λ le. ((let h = t.higher c in omega arith), (λ e. let s = climb-ends caps start at left (λ c. share ≤ get_or tops c 0) end t.climb c e in omega arith))), (λ p. t.least c m b p.0 p.1))

pub topping-on : (caps : List Cap) → IsForest caps → (start at : Option ℕ) (left left' share k v : ℕ) (cap : Cap) (old tops : List ℕ) → IsTopping caps start at left share old tops → at ≡ Some k → left ≡ suc left' → slice_get caps k ≡ Some cap → k < length caps →
    v ≡ max (get_or tops k 0) share → IsTopping caps start cap.under left' share old (set tops k v)
topping-on caps forest start at left left' share k v cap old tops t e f g l w = record {
  climb = climb-on caps forest start at left left' k cap (λ c. share ≤ get_or (set tops k v) c 0)
      (climb-weaker caps start at left (λ c. share ≤ get_or tops c 0) (λ c. share ≤ get_or (set tops k v) c 0) (λ c p. let u = up c in omega arith) t.climb) e f g l (let h = here in omega arith);
  as_many = length-set tops k v ∙ t.as_many;
  higher = λ c. let h = t.higher c in let u = up c in omega arith;
  least = least;
}
  where
    here : get_or (set tops k v) k 0 ≡ v
    here = set-same tops k v (let m = t.as_many in omega arith)

    up : (c : ℕ) → get_or tops c 0 ≤ get_or (set tops k v) c 0
    up c = by (cases_eq k c)
      where
        by : (k ≡ c) ⊎ (k ≡ c → ⊥) → get_or tops c 0 ≤ get_or (set tops k v) c 0
        by (inl s) = subst (λ c. get_or tops c 0 ≤ get_or (set tops k v) c 0) s (let h = here in omega arith)
        by (inr ne) = let o = set-other tops k v c ne in omega arith

    least : (c m : ℕ) → c < length caps → get_or old c 0 ≤ m → (is_on_way caps (length caps) start c ≡ true → share ≤ m) → get_or (set tops k v) c 0 ≤ m
    least c m b o p = by (cases_eq k c)
      where
        was : get_or tops c 0 ≤ m
        was = t.least c m b o p

        by : (k ≡ c) ⊎ (k ≡ c → ⊥) → get_or (set tops k v) c 0 ≤ m
        by (inr ne) = let q = set-other tops k v c ne in let r = was in omega arith
        by (inl s) =
            let met : is_on_way caps (length caps) start c ≡ true = subst (λ c. is_on_way caps (length caps) start c ≡ true) s (t.climb.part k (met-here caps forest at left left' k e f)) in
            let low = p met in
            let r = was in
            let at_k : get_or tops k 0 ≡ get_or tops c 0 = ap (λ c. get_or tops c 0) s in
            let now : get_or (set tops k v) c 0 ≡ v = ap (λ c. get_or (set tops k v) c 0) (sym s) ∙ here in
            omega arith
