-- Boxes whose variables are fixed one by one.
use Rattle.std.proofs.Common.{◌≡◌, ◌≢◌, ℕ, zero, suc, ◌<◌, nat_eq, Bool, true, false, List, [], ◌∷◌, length, Option, None, Some, get_or, length-set, refl, sym, ◌∙◌, ap, subst, arith, get_or-set_same, get_or-set_other, slice_set}
use Rattle.merlin_model.specs.Programs.{Program, variables, is_chosen}
use Rattle.merlin_model.specs.Trees.{fixed_at, IsOpen}
use Rattle.bound_search.specs.Boxes.{AreBoxes, IsFree, shut_at, with_place}
use Rattle.bound_search.specs.declared.boxes.Boxes.{Boxes}

some_none : {X : Type 0} {x : X} → Some x ≡ None → ⊥
some_none e = cc

false-true : false ≡ true → ⊥
false-true e = cc

pub set-set : {X : Type 0} (xs : List X) (i : ℕ) (a b : X) → slice_set (slice_set xs i a) i b ≡ slice_set xs i b
set-set [] i a b = refl
set-set (x ∷ xs) zero a b = refl
set-set (x ∷ xs) (suc i) a b = ap (λ ys. x ∷ ys) (set-set xs i a b)

pub set-back : {X : Type 0} (xs : List X) (i : ℕ) (d : X) → i < length xs → slice_set xs i (get_or xs i d) ≡ xs
set-back [] i d h = refl
set-back (x ∷ xs) zero d h = refl
set-back (x ∷ xs) (suc i) d h = ap (λ ys. x ∷ ys) (set-back xs i d (omega arith))

-- a variable that is free in the shut box is open
pub free_is_open : (program : Program) (boxes : Boxes) (variable : ℕ) → AreBoxes program boxes → IsFree boxes.shut variable → IsOpen program boxes.plain variable
free_is_open program boxes variable are free =
    let exists : variable < variables program = let s = are.shut.size in let f = free.0 in omega arith in
    by (is_chosen program.upper variable) refl (sym (are.shut.same variable exists) ∙ free.1) exists
  where
    by : (b : Bool) → is_chosen program.upper variable ≡ b → shut_at b (fixed_at boxes.plain variable) ≡ None → variable < variables program → IsOpen program boxes.plain variable
    by true u e exists = record { exists = exists; free = e; may_be_one = u }
    by false u e exists = absurd (some_none e)

-- and an open one is free there
pub open_is_free : (program : Program) (boxes : Boxes) (variable : ℕ) → AreBoxes program boxes → IsOpen program boxes.plain variable → IsFree boxes.shut variable
open_is_free program boxes variable are is_open =
    let within : variable < length boxes.shut = let s = are.shut.size in let f = is_open.exists in omega arith in
    (within, are.shut.same variable is_open.exists ∙ ap (λ b. shut_at b (fixed_at boxes.plain variable)) is_open.may_be_one ∙ is_open.free)

pub fix_keeps : (program : Program) (boxes : Boxes) (variable : ℕ) (to : Bool) → AreBoxes program boxes → IsOpen program boxes.plain variable → AreBoxes program (with_place boxes variable (Some to))
fix_keeps program boxes variable to are is_open = record {
  box = record {
    size = length-set boxes.plain variable (Some to) ∙ are.box.size;
    within = λ v e. within v e (nat_eq v variable) refl;
  };
  shut = record {
    size = length-set boxes.shut variable (Some to) ∙ are.shut.size;
    same = λ v h. same v h (nat_eq v variable) refl;
  };
}
  where
    in_plain : variable < length boxes.plain
    in_plain = let s = are.box.size in let e = is_open.exists in omega arith

    in_shut : variable < length boxes.shut
    in_shut = let s = are.shut.size in let e = is_open.exists in omega arith

    within : (v : ℕ) → fixed_at (slice_set boxes.plain variable (Some to)) v ≡ Some true → (b : Bool) → nat_eq v variable ≡ b → is_chosen program.upper v ≡ true
    within v e true s =
        let at : v ≡ variable = grind arith in
        ap (is_chosen program.upper) at ∙ is_open.may_be_one
    within v e false s =
        let other : v ≢ variable = grind arith in
        are.box.within v (sym (get_or-set_other boxes.plain variable v (Some to) None other) ∙ e)

    same : (v : ℕ) → v < variables program → (b : Bool) → nat_eq v variable ≡ b →
        fixed_at (slice_set boxes.shut variable (Some to)) v ≡ shut_at (is_chosen program.upper v) (fixed_at (slice_set boxes.plain variable (Some to)) v)
    same v h true s =
        let at : v ≡ variable = grind arith in
        let P : ℕ → Type 0 = λ u. fixed_at (slice_set boxes.shut variable (Some to)) u ≡ shut_at (is_chosen program.upper u) (fixed_at (slice_set boxes.plain variable (Some to)) u) in
        subst P (sym at)
        (get_or-set_same boxes.shut variable (Some to) None in_shut
        ∙ sym (ap (λ b. shut_at b (fixed_at (slice_set boxes.plain variable (Some to)) variable)) is_open.may_be_one ∙ get_or-set_same boxes.plain variable (Some to) None in_plain))
    same v h false s =
        let other : v ≢ variable = grind arith in
        get_or-set_other boxes.shut variable v (Some to) None other
        ∙ are.shut.same v h
        ∙ sym (ap (shut_at (is_chosen program.upper v)) (get_or-set_other boxes.plain variable v (Some to) None other))

pub refix : (boxes : Boxes) (variable : ℕ) (a b : Option Bool) → with_place (with_place boxes variable a) variable b ≡ with_place boxes variable b
refix boxes variable a b = λ i. record { plain = set-set boxes.plain variable a b i; shut = set-set boxes.shut variable a b i }

-- freeing an open variable again
pub unfix : (program : Program) (boxes : Boxes) (variable : ℕ) (a : Option Bool) → AreBoxes program boxes → IsOpen program boxes.plain variable →
    with_place (with_place boxes variable a) variable None ≡ boxes
unfix program boxes variable a are is_open =
    refix boxes variable a None ∙ (λ i. record { plain = plain i; shut = shut i })
  where
    in_plain : variable < length boxes.plain
    in_plain = let s = are.box.size in let e = is_open.exists in omega arith

    plain : slice_set boxes.plain variable None ≡ boxes.plain
    plain = ap (slice_set boxes.plain variable) (sym is_open.free) ∙ set-back boxes.plain variable None in_plain

    free : IsFree boxes.shut variable
    free = open_is_free program boxes variable are is_open

    shut : slice_set boxes.shut variable None ≡ boxes.shut
    shut = ap (slice_set boxes.shut variable) (sym free.1) ∙ set-back boxes.shut variable None free.0
