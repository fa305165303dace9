-- The shares of a term, noted one after another.
use Rattle.std.proofs.Common.{◌≡◌, ◌≢◌, ◌+◌, ◌≤◌, ◌<◌, ℕ, suc, zero, max, min, nat_lt, Bool, true, false, not, cond, List, [], ◌∷◌, ◌++◌, length, Option, None, Some, option_map, refl, sym, ◌∙◌, ap, subst, arith, zero-add}
use Rattle.std.specs.Prelude.{bytes_eq, filter, filter_map, position}
use Rattle.std.specs.List.{AllByRecursion, position_or_len, cons_option}
use Rattle.std.specs.Option.{option_map_or}
use Rattle.std.proofs.lemmas.Slice.Eq.{bytes_eq-Decides}
use Rattle.merlin_model.specs.declared.policy.Bound.{Bound}
use Rattle.merlin_model.specs.declared.policy.Bound.TheVariants.{Max, Min}
use Rattle.merlin_model.specs.declared.policy.Part.{Part}
use Rattle.merlin_model.specs.declared.policy.Term.{Term}
use Rattle.merlin_model.specs.Networks.{AreDifferent}
use Rattle.merlin_model.specs.Rates.{share, share_in, ids_of, amount_of, id_of_part, least_of, greatest_of, max_shares, min_shares, is_max}
use Rattle.localise.specs.declared.limits.Limits.{Limits}
use Rattle.localise.specs.Limits.{unlimited, limits_from, lesser, together, limits_in, limits_of}
use Rattle.localise.specs.Localised.{min_for, max_for}
use Rattle.localise.proofs.Repeated.{bytes_eq-sym}

-- the first place that passes, from the second element on
pub position-cons : {X : Type 0} (p : X → Bool) (x : X) (xs : List X) → position p (x ∷ xs) ≡ cond (p x) (Some 0) (option_map suc (position p xs))
position-cons p x xs = by (p x)
  where
    shifted : (k n : ℕ) → cond (nat_lt (1 + k) (suc n)) (Some (1 + k)) None ≡ option_map suc (cond (nat_lt k n) (Some k) None)
    shifted k n = cases (nat_lt k n) refl
      where
        cases : (b : Bool) → nat_lt k n ≡ b → cond (nat_lt (1 + k) (suc n)) (Some (1 + k)) None ≡ option_map suc (cond b (Some k) None)
        cases true e = let more : nat_lt (1 + k) (suc n) ≡ true = grind arith in let same : 1 + k ≡ suc k = omega arith in (λ i. cond (more i) (Some (same i)) None)
        cases false e = let more : nat_lt (1 + k) (suc n) ≡ false = grind arith in ap (λ b. cond b (Some (1 + k)) None) more

    by : (b : Bool) → cond (nat_lt (cond (not b) (1 + position_or_len p xs) 0) (suc (length xs))) (Some (cond (not b) (1 + position_or_len p xs) 0)) None ≡ cond b (Some 0) (option_map suc (position p xs))
    by true = let within : nat_lt 0 (suc (length xs)) ≡ true = grind arith in ap (λ b. cond b (Some 0) None) within
    by false = shifted (position_or_len p xs) (length xs)

-- a name that differs from all has no place
pub no_position : (name : List ℕ) (names : List (List ℕ)) → AllByRecursion (λ other. name ≢ other) names → position (bytes_eq name) names ≡ None
no_position name [] all = refl
no_position name (other ∷ names) all = position-cons (bytes_eq name) other names ∙ by (bytes_eq name other) refl (no_position name names all.1)
  where
    by : (b : Bool) → bytes_eq name other ≡ b → position (bytes_eq name) names ≡ None → cond b (Some 0) (option_map suc (position (bytes_eq name) names)) ≡ None
    by true e rest = absurd (all.0 ((bytes_eq-Decides name other).0 e))
    by false e rest = ap (option_map suc) rest

-- Limits that ask all of some limits.

lesser-assoc : (a b c : Option ℕ) → lesser (lesser a b) c ≡ lesser a (lesser b c)
lesser-assoc None b c = refl
lesser-assoc (Some a) None c = refl
lesser-assoc (Some a) (Some b) None = refl
lesser-assoc (Some a) (Some b) (Some c) = let same : min (min a b) c ≡ min a (min b c) = omega arith in ap Some same

pub joined-assoc : (a b c : Limits) → together (together a b) c ≡ together a (together b c)
joined-assoc a b c =
    let floors : max (max a.floor b.floor) c.floor ≡ max a.floor (max b.floor c.floor) = omega arith in
    (λ k. record { floor = floors k; cap = lesser-assoc a.cap b.cap c.cap k })

lesser-none : (a : Option ℕ) → lesser a None ≡ a
lesser-none None = refl
lesser-none (Some a) = refl

pub joined-unlimited : (a : Limits) → together a unlimited ≡ a
joined-unlimited a =
    let floors : max a.floor 0 ≡ a.floor = omega arith in
    (λ k. record { floor = floors k; cap = lesser-none a.cap k })

pub unlimited-joined : (a : Limits) → together unlimited a ≡ a
unlimited-joined a =
    let floors : max 0 a.floor ≡ a.floor = omega arith in
    (λ k. record { floor = floors k; cap = a.cap })

-- what the first term asks is joined to what the others ask
pub limits_of-cons : (name : List ℕ) (term : Term) (terms : List Term) → limits_of (term ∷ terms) name ≡ together (limits_in name term) (limits_of terms name)
limits_of-cons name term terms =
    let floors = floor term.bound in
    let caps = cap term.bound in
    (λ k. record { floor = floors k; cap = caps k })
  where
    maxes : List Term
    maxes = filter (λ t. is_max t.bound) terms

    mins : List Term
    mins = filter (λ t. not (is_max t.bound)) terms

    least_with : (s : Option ℕ) (others : List ℕ) → least_of (cons_option s others) ≡ lesser (limits_from s Max).cap (least_of others)
    least_with None others = refl
    least_with (Some s) others = refl

    least_without : (s : Option ℕ) (others : List ℕ) → least_of others ≡ lesser (limits_from s Min).cap (least_of others)
    least_without None others = refl
    least_without (Some s) others = refl

    cap : (b : Bound) → least_of (filter_map (share_in name) (cond (is_max b) (term ∷ maxes) maxes)) ≡ lesser (limits_from (share_in name term) b).cap (least_of (filter_map (share_in name) maxes))
    cap Max = least_with (share_in name term) (filter_map (share_in name) maxes)
    cap Min = least_without (share_in name term) (filter_map (share_in name) maxes)

    greatest_with : (s : Option ℕ) (others : List ℕ) → greatest_of (cons_option s others) ≡ max (limits_from s Min).floor (greatest_of others)
    greatest_with None others = omega arith
    greatest_with (Some s) others = refl

    greatest_without : (s : Option ℕ) (others : List ℕ) → greatest_of others ≡ max (limits_from s Max).floor (greatest_of others)
    greatest_without None others = omega arith
    greatest_without (Some s) others = omega arith

    floor : (b : Bound) → greatest_of (filter_map (share_in name) (cond (not (is_max b)) (term ∷ mins) mins)) ≡ max (limits_from (share_in name term) b).floor (greatest_of (filter_map (share_in name) mins))
    floor Max = greatest_without (share_in name term) (filter_map (share_in name) mins)
    floor Min = greatest_with (share_in name term) (filter_map (share_in name) mins)

-- the share of a name among the names from a place on
abbrev pub share_from : ℕ → ℕ → ℕ → List ℕ → List (List ℕ) → Option ℕ
share_from amount count place name names = option_map (λ j. share amount count (place + j)) (position (bytes_eq name) names)

pub share_from_start : (term : Term) (name : List ℕ) → share_from (amount_of term) (length (ids_of term)) 0 name (ids_of term) ≡ share_in name term
share_from_start term name = (λ k. option_map (λ j. share (amount_of term) (length (ids_of term)) (zero-add j k)) (position (bytes_eq name) (ids_of term)))

-- what is still to be joined to the limits of a name
abbrev pub asked_from : ℕ → ℕ → Bound → ℕ → List (List ℕ) → List ℕ → Option Limits → Option Limits
asked_from amount count bound place names name held = option_map (λ l. together l (limits_from (share_from amount count place name names) bound)) held

-- The share of the first name is noted.
module _ (amount count : ℕ) (bound : Bound) (place : ℕ) (id : List ℕ) (names : List (List ℕ)) (different : AreDifferent (id ∷ names)) (old new : List ℕ → Option Limits)
    (noted : (name : List ℕ) → new name ≡ cond (bytes_eq id name) (option_map (λ l. together l (limits_from (Some (share amount count place)) bound)) (old name)) (old name)) where
  once : (held : Option Limits) (limits : Limits) → option_map (λ l. together l unlimited) (option_map (λ l. together l limits) held) ≡ option_map (λ l. together l limits) held
  once None limits = refl
  once (Some l) limits = ap Some (joined-unlimited (together l limits))

  next : (j : Option ℕ) → option_map (λ j. share amount count (place + 1 + j)) j ≡ option_map (λ j. share amount count (place + j)) (option_map suc j)
  next None = refl
  next (Some j) = let same : place + 1 + j ≡ place + suc j = omega arith in ap (λ n. Some (share amount count n)) same

  first : (name : List ℕ) → share_from amount count place name (id ∷ names) ≡ option_map (λ j. share amount count (place + j)) (cond (bytes_eq id name) (Some 0) (option_map suc (position (bytes_eq name) names)))
  first name = ap (option_map (λ j. share amount count (place + j))) (position-cons (bytes_eq name) id names ∙ ap (λ b. cond b (Some 0) (option_map suc (position (bytes_eq name) names))) (bytes_eq-sym name id))

  pub noted_first : (name : List ℕ) → asked_from amount count bound (place + 1) names name (new name) ≡ asked_from amount count bound place (id ∷ names) name (old name)
  noted_first name = by (bytes_eq id name) refl
    where
      by : (b : Bool) → bytes_eq id name ≡ b → asked_from amount count bound (place + 1) names name (new name) ≡ asked_from amount count bound place (id ∷ names) name (old name)
      by true e =
          let same : id ≡ name = (bytes_eq-Decides id name).0 e in
          let none : share_from amount count (place + 1) name names ≡ None = ap (option_map (λ j. share amount count (place + 1 + j))) (ap (λ n. position (bytes_eq n) names) (sym same) ∙ no_position id names different.0) in
          let now : new name ≡ option_map (λ l. together l (limits_from (Some (share amount count place)) bound)) (old name) = noted name ∙ ap (λ b. cond b (option_map (λ l. together l (limits_from (Some (share amount count place)) bound)) (old name)) (old name)) e in
          let start : place ≡ place + 0 = omega arith in
          let is : Some (share amount count place) ≡ share_from amount count place name (id ∷ names) = ap (λ n. Some (share amount count n)) start ∙ sym (first name ∙ ap (λ b. option_map (λ j. share amount count (place + j)) (cond b (Some 0) (option_map suc (position (bytes_eq name) names)))) e) in
          (λ k. option_map (λ l. together l (limits_from (none k) bound)) (now k))
          ∙ (once (old name) (limits_from (Some (share amount count place)) bound)
          ∙ (λ k. option_map (λ l. together l (limits_from (is k) bound)) (old name)))
      by false e =
          let now : new name ≡ old name = noted name ∙ ap (λ b. cond b (option_map (λ l. together l (limits_from (Some (share amount count place)) bound)) (old name)) (old name)) e in
          let is : share_from amount count (place + 1) name names ≡ share_from amount count place name (id ∷ names) =
          next (position (bytes_eq name) names) ∙ sym (first name ∙ ap (λ b. option_map (λ j. share amount count (place + j)) (cond b (Some 0) (option_map suc (position (bytes_eq name) names)))) e) in
          (λ k. option_map (λ l. together l (limits_from (is k) bound)) (now k))

pub asked_of_none : (amount count : ℕ) (bound : Bound) (place : ℕ) (name : List ℕ) (held : Option Limits) → asked_from amount count bound place [] name held ≡ held
asked_of_none amount count bound place name None = refl
asked_of_none amount count bound place name (Some l) = ap Some (joined-unlimited l)

-- what some terms are still to ask of a name
abbrev pub asked_by : List Term → List ℕ → Option Limits → Option Limits
asked_by terms name held = option_map (λ l. together l (limits_of terms name)) held

pub asked_by-cons : (term : Term) (terms : List Term) (name : List ℕ) (old new : Option Limits) → new ≡ option_map (λ l. together l (limits_in name term)) old → asked_by terms name new ≡ asked_by (term ∷ terms) name old
asked_by-cons term terms name old new is = ap (asked_by terms name) is ∙ by old
  where
    by : (held : Option Limits) → asked_by terms name (option_map (λ l. together l (limits_in name term)) held) ≡ asked_by (term ∷ terms) name held
    by None = refl
    by (Some l) = ap Some (joined-assoc l (limits_in name term) (limits_of terms name) ∙ ap (together l) (sym (limits_of-cons name term terms)))

pub asked_by_none : (name : List ℕ) (held : Option Limits) → asked_by [] name held ≡ held
asked_by_none name None = refl
asked_by_none name (Some l) = ap Some (joined-unlimited l)

pub append_none : {X : Type 0} (xs ys : List X) → xs ++ ys ≡ [] → (xs ≡ []) × (ys ≡ [])
append_none [] ys e = (refl, e)
append_none (x ∷ xs) ys e = cc
