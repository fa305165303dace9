-- Predicates by their members.
use Rattle.std.specs.Prelude.{◌≡◌, refl, List, [], ◌∷◌}
use Rattle.std.specs.List.{AllByRecursion}
use Rattle.std.proofs.Common.{ap, sym, ◌∙◌, subst}
use Rattle.merlin_model.specs.declared.policy.Test.{Test}
use Rattle.merlin_model.specs.declared.policy.Pred.{Pred, Yes, No, Test as Tests, All, All', AnyOf, AnyOf', Not, Not', Row_of-Pred, end_of-Pred, more_of-Pred}
use Rattle.merlin_model.specs.declared.policy.Pred.TheBlock.{hidden-the_row-Pred-0, hidden-the_row-Pred-1}
use denote.Hole.Carrier.{hidden}

-- the predicates of a row
abbrev pub row_members : {n : _} → Row_of-Pred n → List Pred
row_members end_of-Pred = []
row_members (more_of-Pred pred rest) = pred ∷ row_members rest

-- the members of an All, or of an AnyOf, with one more in front
abbrev with_member : Pred → Pred → Pred
with_member pred (All' s row) = All' (tt ∷ s) (more_of-Pred pred row)
with_member pred (AnyOf' s row) = AnyOf' (tt ∷ s) (more_of-Pred pred row)
with_member pred _ = No

with_member-All : (pred : Pred) (preds : List Pred) → with_member pred (All preds) ≡ All (pred ∷ preds)
unfolding hidden-the_row-Pred-0 hidden-the_row-Pred-1 hidden
with_member-All pred preds = refl

with_member-AnyOf : (pred : Pred) (preds : List Pred) → with_member pred (AnyOf preds) ≡ AnyOf (pred ∷ preds)
unfolding hidden-the_row-Pred-0 hidden-the_row-Pred-1 hidden
with_member-AnyOf pred preds = refl

pub All-row_members : (s : _) (row : Row_of-Pred _) → All' s row ≡ All (row_members row)
unfolding hidden-the_row-Pred-0 hidden-the_row-Pred-1 hidden
All-row_members [] end_of-Pred = refl
All-row_members (u ∷ s) (more_of-Pred pred row) = ap (with_member pred) (All-row_members s row) ∙ with_member-All pred (row_members row)

pub AnyOf-row_members : (s : _) (row : Row_of-Pred _) → AnyOf' s row ≡ AnyOf (row_members row)
unfolding hidden-the_row-Pred-0 hidden-the_row-Pred-1 hidden
AnyOf-row_members [] end_of-Pred = refl
AnyOf-row_members (u ∷ s) (more_of-Pred pred row) = ap (with_member pred) (AnyOf-row_members s row) ∙ with_member-AnyOf pred (row_members row)

-- what holds of a predicate if it holds of its members, holds of all
module _ (P : Pred → Type 0) (always : P Yes) (never : P No) (test : (t : Test) → P (Tests t))
    (all : (preds : List Pred) → AllByRecursion P preds → P (All preds)) (any : (preds : List Pred) → AllByRecursion P preds → P (AnyOf preds))
    (neg : (pred : Pred) → P pred → P (Not pred)) where
  mutual
    unfolding hidden-the_row-Pred-0 hidden-the_row-Pred-1 hidden

    pub by_members : (pred : Pred) → P pred
    by_members Yes = always
    by_members No = never
    by_members (Tests t) = test t
    by_members (All' s row) = subst P (sym (All-row_members s row)) (all (row_members row) (each_by_members row))
    by_members (AnyOf' s row) = subst P (sym (AnyOf-row_members s row)) (any (row_members row) (each_by_members row))
    by_members (Not' s (more_of-Pred pred end_of-Pred)) = neg pred (by_members pred)

    pub each_by_members : {n : _} → (row : Row_of-Pred n) → AllByRecursion P (row_members row)
    each_by_members end_of-Pred = tt
    each_by_members (more_of-Pred pred rest) = (by_members pred, each_by_members rest)
