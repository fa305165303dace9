-- Laws of the order of paths.
use Rattle.std.proofs.Common.{◌≡◌, ◌==◌, cond, nat_lt, Bool, true, false, ℕ, List, [], ◌∷◌, ◌++◌, ◌≤◌, ◌<◌, length, get_or, drop, drop-cons, suc, arith, append_assoc, append-nil, refl, sym, ◌∙◌, ap, ap₂}
use Rattle.std.proofs.lemmas.Bool.{eqb-true}
use Rattle.std.proofs.lemmas.List.{drop_all}
use Rattle.std.specs.declared.cmp.Ordering.{Ordering}
use Rattle.std.specs.declared.cmp.Ordering.TheVariants.{Less, Equal, Greater}
use Rattle.std.specs.Ordering.{nat_cmp, ordering_then, is_eq}
use Rattle.std.specs.Cmp.Lexicographic.{slice_cmp}
use Rattle.merlin_model.specs.declared.policy.Path.{Path, Nothing, Empty, Dot, Loc, Fun, Cat, Cat', Alt, Alt', Star, Star', Not, Not', Row_of-Path, end_of-Path, more_of-Path}
use Rattle.merlin_model.specs.declared.policy.Path.TheBlock.{hidden-the_row-Path-0, hidden-the_row-Path-1}
use denote.Hole.Carrier.{hidden}
use Rattle.path_regex.specs.Parts.{listed, Alt-listed}
use Rattle.path_regex.specs.Order.{rank, spelled, spelled_members, order}

abbrev tail : List ℕ → List ℕ
tail [] = []
tail (x ∷ xs) = xs

abbrev words : List ℕ → List ℕ → Ordering
words u v = slice_cmp nat_cmp u v

then_then : (a b c : Ordering) → ordering_then (ordering_then a b) c ≡ ordering_then a (ordering_then b c)
then_then Less b c = refl
then_then Equal b c = refl
then_then Greater b c = refl

false-true : false ≡ true → ⊥
false-true e = cc

-- a path is spelled with its variant first
begins : (a : Path) → (t : List ℕ) × (spelled a ≡ rank a ∷ t)
begins Nothing = (_, refl)
begins Empty = (_, refl)
begins Dot = (_, refl)
begins (Loc l) = (_, refl)
begins (Fun f) = (_, refl)
begins (Cat' s (more_of-Path a end_of-Path) t (more_of-Path b end_of-Path)) = (_, refl)
begins (Alt' s paths) = (_, refl)
begins (Star' s (more_of-Path a end_of-Path)) = (_, refl)
begins (Not' s (more_of-Path a end_of-Path)) = (_, refl)

-- the end of an Alt stands before each member
end-before : (a : Path) (u v : List ℕ) → words (0 ∷ u) (spelled a ++ v) ≡ Less
end-before a u v = ap (λ w. words (0 ∷ u) (w ++ v)) (begins a).1 ∙ ap (λ o. ordering_then o (words u ((begins a).0 ++ v))) (by a)
  where
    by : (a : Path) → nat_cmp 0 (rank a) ≡ Less
    by Nothing = refl
    by a = refl

after-end : (a : Path) (u v : List ℕ) → words (spelled a ++ u) (0 ∷ v) ≡ Greater
after-end a u v = ap (λ w. words (w ++ u) (0 ∷ v)) (begins a).1 ∙ ap (λ o. ordering_then o (words ((begins a).0 ++ u) v)) (by a)
  where
    by : (a : Path) → nat_cmp (rank a) 0 ≡ Greater
    by Nothing = refl
    by a = refl

-- different variants decide
apart : (a b : Path) (u v : List ℕ) → is_eq (nat_cmp (rank a) (rank b)) ≡ false → words (spelled a ++ u) (spelled b ++ v) ≡ nat_cmp (rank a) (rank b)
apart a b u v e = ap₂ (λ w z. words (w ++ u) (z ++ v)) (begins a).1 (begins b).1 ∙ by (nat_cmp (rank a) (rank b)) e (words ((begins a).0 ++ u) ((begins b).0 ++ v))
  where
    by : (o : Ordering) → is_eq o ≡ false → (x : Ordering) → ordering_then o x ≡ o
    by Less e x = refl
    by Equal e x = absurd (false-true (sym e))
    by Greater e x = refl

pub order-apart : (a b : Path) → is_eq (nat_cmp (rank a) (rank b)) ≡ false → order a b ≡ nat_cmp (rank a) (rank b)
order-apart a b e = ap₂ words (sym (append-nil (spelled a))) (sym (append-nil (spelled b))) ∙ apart a b [] [] e

apart-first : (a b : Path) (u v : List ℕ) → is_eq (nat_cmp (rank a) (rank b)) ≡ false → words (spelled a ++ u) (spelled b ++ v) ≡ ordering_then (order a b) (words u v)
apart-first a b u v e = apart a b u v e ∙ sym (ap (λ o. ordering_then o (words u v)) (order-apart a b e) ∙ by (nat_cmp (rank a) (rank b)) e)
  where
    by : (o : Ordering) → is_eq o ≡ false → ordering_then o (words u v) ≡ o
    by Less e = refl
    by Equal e = absurd (false-true (sym e))
    by Greater e = refl

mutual
  -- what is spelled first decides, and what stands behind it only where that is equal
  pub spelled-first : (a b : Path) (u v : List ℕ) → words (spelled a ++ u) (spelled b ++ v) ≡ ordering_then (order a b) (words u v)
  spelled-first Nothing Nothing u v = refl
  spelled-first Empty Empty u v = refl
  spelled-first Dot Dot u v = refl
  spelled-first (Loc l) (Loc m) u v = sym (then_then (nat_cmp l m) Equal (words u v))
  spelled-first (Fun f) (Fun g) u v = sym (then_then (nat_cmp f g) Equal (words u v))
  spelled-first (Cat' s (more_of-Path a end_of-Path) t (more_of-Path c end_of-Path)) (Cat' p (more_of-Path b end_of-Path) q (more_of-Path d end_of-Path)) u v =
      ap₂ words (append_assoc (spelled a) (spelled c) u) (append_assoc (spelled b) (spelled d) v)
      ∙ spelled-first a b (spelled c ++ u) (spelled d ++ v)
      ∙ ap (ordering_then (order a b)) (spelled-first c d u v)
      ∙ sym (then_then (order a b) (order c d) (words u v))
      ∙ ap (λ o. ordering_then o (words u v)) (sym (spelled-first a b (spelled c) (spelled d)))
  spelled-first (Alt' s paths) (Alt' t others) u v = members-first paths others u v
  spelled-first (Star' s (more_of-Path a end_of-Path)) (Star' t (more_of-Path b end_of-Path)) u v = spelled-first a b u v
  spelled-first (Not' s (more_of-Path a end_of-Path)) (Not' t (more_of-Path b end_of-Path)) u v = spelled-first a b u v
  spelled-first a b u v = apart-first a b u v refl

  members-first : {m n : _} → (paths : Row_of-Path m) (others : Row_of-Path n) (u v : List ℕ) →
      words (spelled_members paths ++ u) (spelled_members others ++ v) ≡ ordering_then (words (spelled_members paths) (spelled_members others)) (words u v)
  members-first end_of-Path end_of-Path u v = refl
  members-first end_of-Path (more_of-Path b others) u v =
      ap (words (0 ∷ u)) (append_assoc (spelled b) (spelled_members others) v)
      ∙ end-before b u (spelled_members others ++ v)
      ∙ sym (ap (λ o. ordering_then o (words u v)) (end-before b [] (spelled_members others)))
  members-first (more_of-Path a paths) end_of-Path u v =
      ap (λ w. words w (0 ∷ v)) (append_assoc (spelled a) (spelled_members paths) u)
      ∙ after-end a (spelled_members paths ++ u) v
      ∙ sym (ap (λ o. ordering_then o (words u v)) (after-end a (spelled_members paths) []))
  members-first (more_of-Path a paths) (more_of-Path b others) u v =
      ap₂ words (append_assoc (spelled a) (spelled_members paths) u) (append_assoc (spelled b) (spelled_members others) v)
      ∙ spelled-first a b (spelled_members paths ++ u) (spelled_members others ++ v)
      ∙ ap (ordering_then (order a b)) (members-first paths others u v)
      ∙ sym (then_then (order a b) (words (spelled_members paths) (spelled_members others)) (words u v))
      ∙ ap (λ o. ordering_then o (words u v)) (sym (spelled-first a b (spelled_members paths) (spelled_members others)))

then-equal : (o p : Ordering) → ordering_then o p ≡ Equal → (o ≡ Equal) × (p ≡ Equal)
then-equal Less p e = absurd (less-equal e)
  where
    less-equal : Less ≡ Equal → ⊥
    less-equal e = cc
then-equal Equal p e = (refl, e)
then-equal Greater p e = absurd (greater-equal e)
  where
    greater-equal : Greater ≡ Equal → ⊥
    greater-equal e = cc

same-number : (l m : ℕ) → nat_cmp l m ≡ Equal → l ≡ m
same-number l m e = by (nat_lt l m) (l == m) refl e
  where
    by : (t u : Bool) → (l == m) ≡ u → cond t Less (cond u Equal Greater) ≡ Equal → l ≡ m
    by true u f e = cc
    by false true f e = eqb-true l m f
    by false false f e = cc

mutual
  unfolding hidden-the_row-Path-0 hidden-the_row-Path-1 hidden

  -- paths of equal order are the same
  pub same : (a b : Path) → order a b ≡ Equal → a ≡ b
  same Nothing Nothing e = refl
  same Empty Empty e = refl
  same Dot Dot e = refl
  same (Loc l) (Loc m) e = ap Loc (same-number l m (then-equal (nat_cmp l m) Equal e).0)
  same (Fun f) (Fun g) e = ap Fun (same-number f g (then-equal (nat_cmp f g) Equal e).0)
  same (Cat' s (more_of-Path a end_of-Path) t (more_of-Path c end_of-Path)) (Cat' p (more_of-Path b end_of-Path) q (more_of-Path d end_of-Path)) e =
      let both = then-equal (order a b) (order c d) (sym (spelled-first a b (spelled c) (spelled d)) ∙ e) in
      ap₂ Cat (same a b both.0) (same c d both.1)
  same (Alt' s paths) (Alt' t others) e = Alt-listed s paths ∙ ap Alt (same-members paths others e) ∙ sym (Alt-listed t others)
  same (Star' s (more_of-Path a end_of-Path)) (Star' t (more_of-Path b end_of-Path)) e = ap Star (same a b e)
  same (Not' s (more_of-Path a end_of-Path)) (Not' t (more_of-Path b end_of-Path)) e = ap Not (same a b e)
  same a b e = absurd (not-equal (nat_cmp (rank a) (rank b)) refl (sym (order-apart a b refl) ∙ e))
    where
      not-equal : (o : Ordering) → is_eq o ≡ false → o ≡ Equal → ⊥
      not-equal o f e = false-true (sym f ∙ ap is_eq e)

  same-members : {m n : _} → (paths : Row_of-Path m) (others : Row_of-Path n) → words (spelled_members paths) (spelled_members others) ≡ Equal → listed paths ≡ listed others
  same-members end_of-Path end_of-Path e = refl
  same-members end_of-Path (more_of-Path b others) e = absurd (less-equal (sym (end-before b [] (spelled_members others)) ∙ e))
    where
      less-equal : Less ≡ Equal → ⊥
      less-equal e = cc
  same-members (more_of-Path a paths) end_of-Path e = absurd (greater-equal (sym (after-end a (spelled_members paths) []) ∙ e))
    where
      greater-equal : Greater ≡ Equal → ⊥
      greater-equal e = cc
  same-members (more_of-Path a paths) (more_of-Path b others) e =
      let both = then-equal (order a b) (words (spelled_members paths) (spelled_members others)) (sym (spelled-first a b (spelled_members paths) (spelled_members others)) ∙ e) in
      ap₂ (λ x xs. x ∷ xs) (same a b both.0) (same-members paths others both.1)

-- The order by variants and parts.

pub order-Cat : (a b c d : Path) → order (Cat a b) (Cat c d) ≡ ordering_then (order a c) (order b d)
unfolding hidden-the_row-Path-1 hidden
order-Cat a b c d = spelled-first a c (spelled b) (spelled d)

pub order-Star : (a b : Path) → order (Star a) (Star b) ≡ order a b
unfolding hidden-the_row-Path-1 hidden
order-Star a b = refl

pub order-Not : (a b : Path) → order (Not a) (Not b) ≡ order a b
unfolding hidden-the_row-Path-1 hidden
order-Not a b = refl

abbrev spelled_list : List Path → List ℕ
spelled_list [] = 0 ∷ []
spelled_list (a ∷ rest) = spelled a ++ spelled_list rest

spelled-Alt : (paths : List Path) → spelled (Alt paths) ≡ 7 ∷ spelled_list paths
unfolding hidden-the_row-Path-0 hidden-the_row-Path-1 hidden
spelled-Alt [] = refl
spelled-Alt (a ∷ rest) = ap (λ w. 7 ∷ (spelled a ++ tail w)) (spelled-Alt rest)

lists : (xs ys : List Path) → words (spelled_list xs) (spelled_list ys) ≡ slice_cmp order xs ys
lists [] [] = refl
lists [] (y ∷ ys) = end-before y [] (spelled_list ys)
lists (x ∷ xs) [] = after-end x (spelled_list xs) []
lists (x ∷ xs) (y ∷ ys) = spelled-first x y (spelled_list xs) (spelled_list ys) ∙ ap (ordering_then (order x y)) (lists xs ys)

pub order-Alt : (xs ys : List Path) → order (Alt xs) (Alt ys) ≡ slice_cmp order xs ys
order-Alt xs ys = ap₂ words (spelled-Alt xs) (spelled-Alt ys) ∙ lists xs ys

-- A variant against the others.

pub other-Loc : (b : Path) → ((m : ℕ) → b ≡ Loc m → ⊥) → is_eq (nat_cmp 4 (rank b)) ≡ false
other-Loc (Loc m) h = absurd (h m refl)
other-Loc b h = refl

pub other-Fun : (b : Path) → ((m : ℕ) → b ≡ Fun m → ⊥) → is_eq (nat_cmp 5 (rank b)) ≡ false
other-Fun (Fun m) h = absurd (h m refl)
other-Fun b h = refl

pub other-Cat : (b : Path) → ((c d : Path) → b ≡ Cat c d → ⊥) → is_eq (nat_cmp 6 (rank b)) ≡ false
unfolding hidden-the_row-Path-1 hidden
other-Cat (Cat' s (more_of-Path c end_of-Path) t (more_of-Path d end_of-Path)) h = absurd (h c d refl)
other-Cat b h = refl

pub other-Alt : (b : Path) → ((paths : List Path) → b ≡ Alt paths → ⊥) → is_eq (nat_cmp 7 (rank b)) ≡ false
other-Alt (Alt' s paths) h = absurd (h (listed paths) (Alt-listed s paths))
other-Alt b h = refl

pub other-Star : (b : Path) → ((c : Path) → b ≡ Star c → ⊥) → is_eq (nat_cmp 8 (rank b)) ≡ false
unfolding hidden-the_row-Path-1 hidden
other-Star (Star' s (more_of-Path c end_of-Path)) h = absurd (h c refl)
other-Star b h = refl

pub other-Not : (b : Path) → ((c : Path) → b ≡ Not c → ⊥) → is_eq (nat_cmp 9 (rank b)) ≡ false
unfolding hidden-the_row-Path-1 hidden
other-Not (Not' s (more_of-Path c end_of-Path)) h = absurd (h c refl)
other-Not b h = refl

-- the plain variants stand before all others
pub order-plain : (a b : Path) → rank a ≤ 3 → order a b ≡ nat_cmp (rank a) (rank b)
order-plain Nothing Nothing h = refl
order-plain Empty Empty h = refl
order-plain Dot Dot h = refl
order-plain Nothing b h = order-apart Nothing b refl
order-plain Empty b h = order-apart Empty b refl
order-plain Dot b h = order-apart Dot b refl
order-plain a b h = absurd (omega arith)

-- The order of two Alts, member by member: up to member i they are alike, and left are the other's members from there on.

-- the first that is not Equal decides
pub decides : (o p q : Ordering) → (o ≡ Equal → ⊥) → o ≡ p → o ≡ ordering_then p q
decides Less p q n e = ap (λ r. ordering_then r q) e
decides Equal p q n e = absurd (n refl)
decides Greater p q n e = ap (λ r. ordering_then r q) e

module _ (xs ys left : List Path) (i : ℕ) (alike : slice_cmp order xs ys ≡ slice_cmp order (drop i xs) left) where
  pub decided-by : (x y : Path) (o : Ordering) → i < length xs → x ≡ get_or xs i x → 0 < length left → y ≡ get_or left 0 y → o ≡ order x y → (o ≡ Equal → ⊥) → o ≡ order (Alt xs) (Alt ys)
  decided-by x y o lt ex lt2 ey e n =
      decides o (order x y) (slice_cmp order (drop (suc i) xs) (drop 1 left)) n e
      ∙ ap (λ z. slice_cmp order (z ∷ drop (suc i) xs) (y ∷ drop 1 left)) ex
      ∙ ap (λ z. slice_cmp order (get_or xs i x ∷ drop (suc i) xs) (z ∷ drop 1 left)) ey
      ∙ sym (order-Alt xs ys ∙ alike ∙ ap₂ (λ u v. slice_cmp order u v) (drop-cons xs i x lt) (drop-cons left 0 y lt2))

  pub longer : i < length xs → length left < 1 → Greater ≡ order (Alt xs) (Alt ys)
  longer lt none = sym (order-Alt xs ys ∙ alike ∙ ap₂ (λ u v. slice_cmp order u v) (drop-cons xs i Nothing lt) (empty left none))
    where
      empty : (zs : List Path) → length zs < 1 → zs ≡ []
      empty [] e = refl
      empty (z ∷ zs) e = absurd (omega arith)

  at_end : length xs ≤ i → slice_cmp order [] left ≡ order (Alt xs) (Alt ys)
  at_end le = sym (order-Alt xs ys ∙ alike ∙ ap (λ u. slice_cmp order u left) (drop_all i xs le))

  pub as_long : length xs ≤ i → (length left == 0) ≡ true → Equal ≡ order (Alt xs) (Alt ys)
  as_long le e = by left e ∙ at_end le
    where
      by : (zs : List Path) → (length zs == 0) ≡ true → Equal ≡ slice_cmp order [] zs
      by [] e = refl
      by (z ∷ zs) e = let none : suc (length zs) ≡ 0 = eqb-true (suc (length zs)) 0 e in absurd (omega arith)

  pub shorter : length xs ≤ i → (length left == 0) ≡ false → Less ≡ order (Alt xs) (Alt ys)
  shorter le e = by left e ∙ at_end le
    where
      by : (zs : List Path) → (length zs == 0) ≡ false → Less ≡ slice_cmp order [] zs
      by [] e = absurd (false-true (sym e))
      by (z ∷ zs) e = refl

-- what an answer to a comparison of variants is
pub ranked : (a b : Path) (r s : ℕ) (o : Ordering) → o ≡ nat_cmp r s → r ≡ rank a → s ≡ rank b → is_eq (nat_cmp (rank a) (rank b)) ≡ false → o ≡ order a b
ranked a b r s o e ra sb apart = e ∙ ap₂ nat_cmp ra sb ∙ sym (order-apart a b apart)

pub ranked-plain : (a b : Path) (r s : ℕ) (o : Ordering) → o ≡ nat_cmp r s → r ≡ rank a → s ≡ rank b → rank a ≤ 3 → o ≡ order a b
ranked-plain a b r s o e ra sb h = e ∙ ap₂ nat_cmp ra sb ∙ sym (order-plain a b h)
