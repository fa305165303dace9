-- Derivatives as they are before any normal form: they decide the language.
use Rattle.std.proofs.Common.{◌≡◌, ℕ, ◌==◌, ◌⊎◌, inl, inr, ◌↔◌, Bool, true, false, not, ◌&&◌, ◌||◌, List, [], ◌∷◌, ◌++◌, Option, None, Some, unwrap_or, slice_index_or, drop, refl, sym, ◌∙◌, ap, ap₂, subst}
use Rattle.std.proofs.lemmas.Bool.{eqb-true, eq-eqb}
use Rattle.std.specs.List.{AllByRecursion}
use Rattle.merlin_model.specs.declared.policy.Symbol.{Symbol}
use Rattle.merlin_model.specs.declared.policy.Path.{Path, Nothing, Empty, Dot, Loc, Fun, Cat, Cat', Alt, Alt', Star, Star', Not, Not', Row_of-Path, end_of-Path, more_of-Path}
use Rattle.merlin_model.specs.Words.{at}
use Rattle.merlin_model.specs.Paths.{InLanguage, InSomeLanguage, InSome, concatenation, HasNoFunction, Cat-is, Star-is, Not-is, Alt-is}
use Rattle.path_regex.specs.Derivatives.{takes_empty, some_take_empty, empty_if, has_no_function, is_function}

-- The derivative, put together from its parts as they come.

abbrev pub not_if : Bool → Path → Path
not_if true a = Not a
not_if false a = Nothing

abbrev pub with_next : Bool → Path → Path → Path
with_next true first next = Alt (first ∷ next ∷ [])
with_next false first next = first

abbrev mutual
  pub plain : Path → Symbol → Path
  plain Nothing x = Nothing
  plain Empty x = Nothing
  plain Dot x = empty_if (has_no_function x.fun)
  plain (Loc l) x = empty_if (has_no_function x.fun && (l == x.loc))
  plain (Fun f) x = empty_if (is_function f x.fun)
  plain (Cat' _ (more_of-Path a end_of-Path) _ (more_of-Path b end_of-Path)) x = with_next (takes_empty a) (Cat (plain a x) b) (plain b x)
  plain (Alt' _ paths) x = Alt (plains paths x)
  plain (Star' _ (more_of-Path a end_of-Path)) x = Cat (plain a x) (Star a)
  plain (Not' _ (more_of-Path a end_of-Path)) x = not_if (has_no_function x.fun) (plain a x)

  pub plains : {n : _} → Row_of-Path n → Symbol → List Path
  plains end_of-Path x = []
  plains (more_of-Path a rest) x = plain a x ∷ plains rest x

-- whether the path takes the word, by its derivatives
abbrev takes : Path → List Symbol → Bool
takes path [] = takes_empty path
takes path (x ∷ w) = takes (plain path x) w

-- Lists and tests.

cons-head : {x y : Symbol} {u v : List Symbol} → x ∷ u ≡ y ∷ v → x ≡ y
cons-head {x} e = ap (λ l. slice_index_or l 0 x) e

cons-tail : {x y : Symbol} {u v : List Symbol} → x ∷ u ≡ y ∷ v → u ≡ v
cons-tail e = ap (drop 1) e

cons-nil : {x : Symbol} {u : List Symbol} → x ∷ u ≡ [] → ⊥
cons-nil e = cc

some-none : {f : ℕ} → Some f ≡ None → ⊥
some-none e = cc

false-true : false ≡ true → ⊥
false-true e = cc

both-true : (a b : Bool) → (a && b ≡ true) ↔ ((a ≡ true) × (b ≡ true))
both-true true b = (λ e. (refl, e), λ e. e.1)
both-true false b = (λ e. absurd (false-true e), λ e. absurd (false-true e.0))

pub either : {A B C D : Type 0} → A ↔ C → B ↔ D → (A ⊎ B) ↔ (C ⊎ D)
either {A} {B} {C} {D} f g = (to, from)
  where
    to : A ⊎ B → C ⊎ D
    to (inl h) = inl (f.0 h)
    to (inr h) = inr (g.0 h)

    from : C ⊎ D → A ⊎ B
    from (inl h) = inl (f.1 h)
    from (inr h) = inr (g.1 h)

either-true : {P Q : Type 0} → (a b : Bool) → (a ≡ true) ↔ P → (b ≡ true) ↔ Q → (a || b ≡ true) ↔ (P ⊎ Q)
either-true {P} {Q} true b f g = (λ e. inl (f.0 refl), λ h. refl)
either-true {P} {Q} false b f g = (λ e. inr (g.0 e), from)
  where
    from : P ⊎ Q → b ≡ true
    from (inl h) = absurd (false-true (f.1 h))
    from (inr h) = g.1 h

nil-parts : (u v : List Symbol) → [] ≡ u ++ v → (u ≡ []) × (v ≡ [])
nil-parts [] v e = (refl, sym e)
nil-parts (x ∷ u) v e = absurd (cons-nil (sym e))

-- The empty word.

mutual
  pub empty_word : (r : Path) → (takes_empty r ≡ true) ↔ InLanguage r []
  empty_word Nothing = (λ e. absurd (false-true e), λ h. absurd h)
  empty_word Empty = (λ e. refl, λ e. refl)
  empty_word Dot = (λ e. absurd (false-true e), λ h. absurd (cons-nil (sym h.1)))
  empty_word (Loc l) = (λ e. absurd (false-true e), λ h. absurd (cons-nil (sym h)))
  empty_word (Fun f) = (λ e. absurd (false-true e), λ h. absurd (cons-nil (sym h.1)))
  empty_word (Cat' s (more_of-Path a end_of-Path) t (more_of-Path b end_of-Path)) = (
    λ e. let both = (both-true (takes_empty a) (takes_empty b)).0 e in ([], [], refl, (empty_word a).0 both.0, (empty_word b).0 both.1),
    λ h. let parts = nil-parts h.0 h.1 h.2 in
        (both-true (takes_empty a) (takes_empty b)).1 ((empty_word a).1 (subst (InLanguage a) parts.0 h.3), (empty_word b).1 (subst (InLanguage b) parts.1 h.4)),
  )
  empty_word (Alt' s paths) = some_empty_word paths
  empty_word (Star' s (more_of-Path a end_of-Path)) = (λ e. ([], refl, tt), λ h. refl)
  empty_word (Not' s (more_of-Path a end_of-Path)) = (λ e. (tt, λ h. not_both (takes_empty a) e ((empty_word a).1 h)), λ h. not_null (takes_empty a) (λ e. h.1 ((empty_word a).0 e)))
    where
      not_both : (b : Bool) → not b ≡ true → b ≡ true → ⊥
      not_both true e f = false-true e
      not_both false e f = false-true f

      not_null : (b : Bool) → (b ≡ true → ⊥) → not b ≡ true
      not_null true h = absurd (h refl)
      not_null false h = refl

  pub some_empty_word : {n : _} → (paths : Row_of-Path n) → (some_take_empty paths ≡ true) ↔ InSomeLanguage paths []
  some_empty_word end_of-Path = (λ e. absurd (false-true e), λ h. absurd h)
  some_empty_word (more_of-Path a rest) = either-true (takes_empty a) (some_take_empty rest) (empty_word a) (some_empty_word rest)

-- Derivatives.

-- one path, or where it may be passed over the next too
with_next-is : (n : Bool) (f g : Path) (w : List Symbol) → InLanguage (with_next n f g) w ↔ (InLanguage f w ⊎ ((n ≡ true) × InLanguage g w))
with_next-is true f g w = (λ h. to (subst (λ T. T) (Alt-is (f ∷ g ∷ []) w) h), λ h. subst (λ T. T) (sym (Alt-is (f ∷ g ∷ []) w)) (from h))
  where
    to : InLanguage f w ⊎ (InLanguage g w ⊎ ⊥) → InLanguage f w ⊎ ((true ≡ true) × InLanguage g w)
    to (inl h) = inl h
    to (inr (inl h)) = inr (refl, h)
    to (inr (inr h)) = absurd h

    from : InLanguage f w ⊎ ((true ≡ true) × InLanguage g w) → InLanguage f w ⊎ (InLanguage g w ⊎ ⊥)
    from (inl h) = inl h
    from (inr h) = inr (inl h.1)
with_next-is false f g w = (λ h. inl h, λ h. from h)
  where
    from : InLanguage f w ⊎ ((false ≡ true) × InLanguage g w) → InLanguage f w
    from (inl h) = h
    from (inr h) = absurd (false-true h.0)

-- the claim of the law, for one path
abbrev Quotient : Path → Type 0
Quotient r = (x : Symbol) (w : List Symbol) → InLanguage (plain r x) w ↔ InLanguage r (x ∷ w)

empty_if-is : (b : Bool) (w : List Symbol) → InLanguage (empty_if b) w ↔ ((b ≡ true) × (w ≡ []))
empty_if-is true w = (λ h. (refl, h), λ h. h.1)
empty_if-is false w = (λ h. absurd h, λ h. absurd (false-true h.0))

-- the symbols that a name of one symbol takes
fun_none : (o : Option ℕ) → (has_no_function o ≡ true) ↔ (o ≡ None)
fun_none None = (λ e. refl, λ e. refl)
fun_none (Some f) = (λ e. absurd (false-true e), λ e. absurd (some-none e))

fun_is : (f : ℕ) (o : Option ℕ) → (is_function f o ≡ true) ↔ (o ≡ Some f)
fun_is f None = (λ e. absurd (false-true e), λ e. absurd (some-none (sym e)))
fun_is f (Some g) = (λ e. ap Some (sym (eqb-true f g e)), λ e. eq-eqb f g (sym (ap (λ o. unwrap_or o f) e)))

Cat-quotient : (a b : Path) → Quotient a → Quotient b → (x : Symbol) (w : List Symbol) →
    InLanguage (with_next (takes_empty a) (Cat (plain a x) b) (plain b x)) w ↔ ((u : List Symbol) × (v : List Symbol) × (x ∷ w ≡ u ++ v) × InLanguage a u × InLanguage b v)
Cat-quotient a b qa qb x w = (λ h. to ((with_next-is (takes_empty a) (Cat (plain a x) b) (plain b x) w).0 h), λ h. (with_next-is (takes_empty a) (Cat (plain a x) b) (plain b x) w).1 (from h.0 h.1 h.2 h.3 h.4))
  where
    to : InLanguage (Cat (plain a x) b) w ⊎ ((takes_empty a ≡ true) × InLanguage (plain b x) w) → (u : List Symbol) × (v : List Symbol) × (x ∷ w ≡ u ++ v) × InLanguage a u × InLanguage b v
    to (inl h) =
        let c = subst (λ T. T) (Cat-is (plain a x) b w) h in
        (x ∷ c.0, c.1, ap (λ l. x ∷ l) c.2, (qa x c.0).0 c.3, c.4)
    to (inr h) = ([], x ∷ w, refl, (empty_word a).0 h.0, (qb x w).0 h.1)

    from : (u v : List Symbol) → x ∷ w ≡ u ++ v → InLanguage a u → InLanguage b v → InLanguage (Cat (plain a x) b) w ⊎ ((takes_empty a ≡ true) × InLanguage (plain b x) w)
    from [] v e ha hb = inr ((empty_word a).1 ha, (qb x w).1 (subst (InLanguage b) (sym e) hb))
    from (y ∷ u) v e ha hb =
        inl (subst (λ T. T) (sym (Cat-is (plain a x) b w)) (u, v, cons-tail e, (qa x u).1 (subst (λ z. InLanguage a (z ∷ u)) (sym (cons-head e)) ha), hb))

abbrev InStar : Path → List Symbol → Type 0
InStar a w = (parts : List (List Symbol)) × (w ≡ concatenation parts) × AllByRecursion (InLanguage a) parts

Star-quotient : (a : Path) → Quotient a → (x : Symbol) (w : List Symbol) → InLanguage (Cat (plain a x) (Star a)) w ↔ InStar a (x ∷ w)
Star-quotient a qa x w = (λ h. to (subst (λ T. T) (Cat-is (plain a x) (Star a) w) h), λ h. subst (λ T. T) (sym (Cat-is (plain a x) (Star a) w)) (from h.0 h.1 h.2))
  where
    to : ((u : List Symbol) × (v : List Symbol) × (w ≡ u ++ v) × InLanguage (plain a x) u × InLanguage (Star a) v) → InStar a (x ∷ w)
    to h =
        let s = subst (λ T. T) (Star-is a h.1) h.4 in
        ((x ∷ h.0) ∷ s.0, ap (λ l. x ∷ l) (h.2 ∙ ap (λ l. h.0 ++ l) s.1), ((qa x h.0).0 h.3, s.2))

    -- empty parts in front are passed over
    from : (parts : List (List Symbol)) → x ∷ w ≡ concatenation parts → AllByRecursion (InLanguage a) parts →
        (u : List Symbol) × (v : List Symbol) × (w ≡ u ++ v) × InLanguage (plain a x) u × InLanguage (Star a) v
    from [] e all = absurd (cons-nil e)
    from ([] ∷ parts) e all = from parts e all.1
    from ((y ∷ u) ∷ parts) e all =
        (u, concatenation parts, cons-tail e, (qa x u).1 (subst (λ z. InLanguage a (z ∷ u)) (sym (cons-head e)) all.0), subst (λ T. T) (sym (Star-is a (concatenation parts))) (parts, refl, all.1))

Not-quotient : (a : Path) → Quotient a → (x : Symbol) (w : List Symbol) →
    InLanguage (not_if (has_no_function x.fun) (plain a x)) w ↔ (((x.fun ≡ None) × AllByRecursion HasNoFunction w) × (¬ InLanguage a (x ∷ w)))
Not-quotient a qa x w = by (has_no_function x.fun) refl
  where
    by : (b : Bool) → has_no_function x.fun ≡ b → InLanguage (not_if b (plain a x)) w ↔ (((x.fun ≡ None) × AllByRecursion HasNoFunction w) × (¬ InLanguage a (x ∷ w)))
    by true e = (
      λ h. let n = subst (λ T. T) (Not-is (plain a x) w) h in (((fun_none x.fun).0 e, n.0), λ i. n.1 ((qa x w).1 i)),
      λ h. subst (λ T. T) (sym (Not-is (plain a x) w)) (h.0.1, λ i. h.1 ((qa x w).0 i)),
    )
    by false e = (λ h. absurd h, λ h. absurd (false-true (sym e ∙ (fun_none x.fun).1 h.0.0)))

-- a symbol without a function is its location
symbol_at : (x : Symbol) → x.fun ≡ None → x ≡ at x.loc
symbol_at x n i = record { loc = x.loc; fun = n i }

mutual
  pub quotient : (r : Path) (x : Symbol) (w : List Symbol) → InLanguage (plain r x) w ↔ InLanguage r (x ∷ w)
  quotient Nothing x w = (λ h. h, λ h. h)
  quotient Empty x w = (λ h. absurd h, λ h. absurd (cons-nil h))
  quotient Dot x w = (
    λ h. let e = (empty_if-is (has_no_function x.fun) w).0 h in (x.loc, ap₂ (λ y v. y ∷ v) (symbol_at x ((fun_none x.fun).0 e.0)) e.1),
    λ h. (empty_if-is (has_no_function x.fun) w).1 ((fun_none x.fun).1 (ap (λ y. y.fun) (cons-head h.1)), cons-tail h.1),
  )
  quotient (Loc l) x w = (
    λ h. let e = (empty_if-is (has_no_function x.fun && (l == x.loc)) w).0 h in
        let b = (both-true (has_no_function x.fun) (l == x.loc)).0 e.0 in
        ap₂ (λ y v. y ∷ v) (symbol_at x ((fun_none x.fun).0 b.0) ∙ ap at (sym (eqb-true l x.loc b.1))) e.1,
    λ h. (empty_if-is (has_no_function x.fun && (l == x.loc)) w).1
        ((both-true (has_no_function x.fun) (l == x.loc)).1 ((fun_none x.fun).1 (ap (λ y. y.fun) (cons-head h)), eq-eqb l x.loc (sym (ap (λ y. y.loc) (cons-head h)))), cons-tail h),
  )
  quotient (Fun f) x w = (
    λ h. let e = (empty_if-is (is_function f x.fun) w).0 h in (x.loc, ap₂ (λ o v. record { loc = x.loc; fun = o } ∷ v) ((fun_is f x.fun).0 e.0) e.1),
    λ h. (empty_if-is (is_function f x.fun) w).1 ((fun_is f x.fun).1 (ap (λ y. y.fun) (cons-head h.1)), cons-tail h.1),
  )
  quotient (Cat' s (more_of-Path a end_of-Path) t (more_of-Path b end_of-Path)) x w = Cat-quotient a b (quotient a) (quotient b) x w
  quotient (Alt' s paths) x w = (λ h. (quotients paths x w).0 (subst (λ T. T) (Alt-is (plains paths x) w) h), λ h. subst (λ T. T) (sym (Alt-is (plains paths x) w)) ((quotients paths x w).1 h))
  quotient (Star' s (more_of-Path a end_of-Path)) x w = Star-quotient a (quotient a) x w
  quotient (Not' s (more_of-Path a end_of-Path)) x w = Not-quotient a (quotient a) x w

  pub quotients : {n : _} → (paths : Row_of-Path n) (x : Symbol) (w : List Symbol) → InSome (plains paths x) w ↔ InSomeLanguage paths (x ∷ w)
  quotients end_of-Path x w = (λ h. h, λ h. h)
  quotients (more_of-Path a rest) x w = either (quotient a x w) (quotients rest x w)

pub takes-is : (r : Path) (w : List Symbol) → (takes r w ≡ true) ↔ InLanguage r w
takes-is r [] = empty_word r
takes-is r (x ∷ w) = let rest = takes-is (plain r x) w in (λ e. (quotient r x w).0 (rest.0 e), λ h. rest.1 ((quotient r x w).1 h))

-- whether a word is in a language can be told
pub decided : (r : Path) (w : List Symbol) → InLanguage r w ⊎ (¬ InLanguage r w)
decided r w = by (takes r w) refl
  where
    by : (b : Bool) → takes r w ≡ b → InLanguage r w ⊎ (¬ InLanguage r w)
    by true e = inl ((takes-is r w).0 e)
    by false e = inr (λ h. false-true (sym e ∙ (takes-is r w).1 h))
