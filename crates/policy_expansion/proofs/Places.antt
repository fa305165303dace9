-- Literals that are kept at their first places, one after another.
use Rattle.std.proofs.Common.{◌≡◌, Bool, true, false, not, ◌&&◌, ◌||◌, List, [], ◌∷◌, ◌++◌, filter, refl, sym, ◌∙◌, ap, append_assoc}
use Rattle.policy_grammar.specs.declared.written.Literal.{Literal}
use Rattle.policy_expansion.specs.WrittenOut.{unlike, first_places}

filter_twice : (p q r : Literal → Bool) → ((x : Literal) → r x ≡ (q x && p x)) → (xs : List Literal) → filter p (filter q xs) ≡ filter r xs
filter_twice p q r both [] = refl
filter_twice p q r both (x ∷ xs) = by (q x) (p x) refl refl (filter_twice p q r both xs)
  where
    by : (a b : Bool) → q x ≡ a → p x ≡ b → filter p (filter q xs) ≡ filter r xs → filter p (filter q (x ∷ xs)) ≡ filter r (x ∷ xs)
    by true true e f ih = rw (both x, e, f) (ap (λ t. x ∷ t) ih)
    by true false e f ih = rw (both x, e, f) ih
    by false true e f ih = rw (both x, e) ih
    by false false e f ih = rw (both x, e) ih

filter_none : (p : Literal → Bool) → ((x : Literal) → p x ≡ true) → (xs : List Literal) → filter p xs ≡ xs
filter_none p all [] = refl
filter_none p all (x ∷ xs) = rw (all x) (ap (λ t. x ∷ t) (filter_none p all xs))

-- what is still to be kept of some literals
abbrev pub to_keep : (Literal → Bool) → List Literal → List Literal
to_keep seen literals = filter (λ q. not (seen q)) (first_places literals)

pub nothing_seen : (seen : Literal → Bool) → ((q : Literal) → seen q ≡ false) → (literals : List Literal) → to_keep seen literals ≡ first_places literals
nothing_seen seen none literals = filter_none (λ q. not (seen q)) (λ q. ap not (none q)) (first_places literals)

-- a literal is met
module _ (before after : Literal → Bool) (x : Literal) (others kept whole : List Literal) (met : (q : Literal) → after q ≡ (before q || not (unlike x q)))
    (so_far : kept ++ to_keep before (x ∷ others) ≡ whole) where
  neither : (b u : Bool) → not (b || not u) ≡ (u && not b)
  neither true true = refl
  neither true false = refl
  neither false true = refl
  neither false false = refl

  rest : filter (λ q. not (before q)) (filter (unlike x) (first_places others)) ≡ to_keep after others
  rest = filter_twice (λ q. not (before q)) (unlike x) (λ q. not (after q)) (λ q. ap not (met q) ∙ neither (before q) (unlike x q)) (first_places others)

  pub new_kept : before x ≡ false → (kept ++ x ∷ []) ++ to_keep after others ≡ whole
  new_kept new = append_assoc kept (x ∷ []) (to_keep after others) ∙ (ap (λ t. kept ++ x ∷ t) (sym rest) ∙ (rw new at so_far))

  pub old_dropped : before x ≡ true → kept ++ to_keep after others ≡ whole
  old_dropped old = ap (λ t. kept ++ t) (sym rest) ∙ (rw old at so_far)

-- the answers of `not`
pub from_not_true : (b r : Bool) → r ≡ not b → r ≡ true → b ≡ false
from_not_true true r e t = cc
from_not_true false r e t = refl

pub from_not_false : (b r : Bool) → r ≡ not b → r ≡ false → b ≡ true
from_not_false true r e t = refl
from_not_false false r e t = cc
