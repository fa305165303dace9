-- Paths by their parts.
use Rattle.std.specs.Prelude.{ℕ, ◌≡◌, refl, List, [], ◌∷◌}
use Rattle.std.specs.List.{AllByRecursion}
use Rattle.std.proofs.Common.{ap, sym, ◌∙◌, subst}
use Rattle.merlin_model.specs.declared.policy.Path.{Path, Nothing, Empty, Dot, Loc, Fun, Cat, Cat', Alt, Alt', Star, Star', Not, Not', Row_of-Path, end_of-Path, more_of-Path}
use Rattle.merlin_model.specs.declared.policy.Path.TheBlock.{hidden-the_row-Path-0, hidden-the_row-Path-1}
use denote.Hole.Carrier.{hidden}

-- the paths of a row
abbrev pub listed : {n : _} → Row_of-Path n → List Path
listed end_of-Path = []
listed (more_of-Path a rest) = a ∷ listed rest

-- the members of an Alt with one more in front
abbrev with_member : Path → Path → Path
with_member a (Alt' s row) = Alt' (tt ∷ s) (more_of-Path a row)
with_member a _ = Nothing

with_member-is : (a : Path) (paths : List Path) → with_member a (Alt paths) ≡ Alt (a ∷ paths)
unfolding hidden-the_row-Path-0 hidden-the_row-Path-1 hidden
with_member-is a paths = refl

pub Alt-listed : (s : _) (row : Row_of-Path _) → Alt' s row ≡ Alt (listed row)
unfolding hidden-the_row-Path-0 hidden-the_row-Path-1 hidden
Alt-listed [] end_of-Path = refl
Alt-listed (u ∷ s) (more_of-Path a row) = ap (with_member a) (Alt-listed s row) ∙ with_member-is a (listed row)

-- what holds of a path if it holds of its parts, holds of all
module _ (P : Path → Type 0) (nothing : P Nothing) (empty : P Empty) (dot : P Dot) (loc : (l : ℕ) → P (Loc l)) (fun : (f : ℕ) → P (Fun f))
    (cat : (a b : Path) → P a → P b → P (Cat a b)) (alt : (paths : List Path) → AllByRecursion P paths → P (Alt paths))
    (star : (a : Path) → P a → P (Star a)) (neg : (a : Path) → P a → P (Not a)) where
  mutual
    unfolding hidden-the_row-Path-0 hidden-the_row-Path-1 hidden

    pub by_parts : (path : Path) → P path
    by_parts Nothing = nothing
    by_parts Empty = empty
    by_parts Dot = dot
    by_parts (Loc l) = loc l
    by_parts (Fun f) = fun f
    by_parts (Cat' s (more_of-Path a end_of-Path) t (more_of-Path b end_of-Path)) = cat a b (by_parts a) (by_parts b)
    by_parts (Alt' s row) = subst P (sym (Alt-listed s row)) (alt (listed row) (each_by_parts row))
    by_parts (Star' s (more_of-Path a end_of-Path)) = star a (by_parts a)
    by_parts (Not' s (more_of-Path a end_of-Path)) = neg a (by_parts a)

    pub each_by_parts : {n : _} → (row : Row_of-Path n) → AllByRecursion P (listed row)
    each_by_parts end_of-Path = tt
    each_by_parts (more_of-Path a rest) = (by_parts a, each_by_parts rest)
