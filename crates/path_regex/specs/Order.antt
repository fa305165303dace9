-- The order of paths.
use Rattle.std.specs.Prelude.{ℕ, ◌≡◌, ⊤, List, [], ◌∷◌, ◌++◌}
use Rattle.std.specs.Ordering.{nat_cmp}
use Rattle.std.specs.declared.cmp.Ordering.{Ordering}
use Rattle.std.specs.declared.cmp.Ordering.TheVariants.{Less}
use Rattle.std.specs.Cmp.Lexicographic.{slice_cmp}
use Rattle.merlin_model.specs.declared.policy.Path.{Path, Nothing, Empty, Dot, Loc, Fun, Cat', Alt', Star', Not', Row_of-Path, end_of-Path, more_of-Path}

-- the place of the path's variant, from 1
abbrev pub rank : Path → ℕ
rank Nothing = 1
rank Empty = 2
rank Dot = 3
rank (Loc l) = 4
rank (Fun f) = 5
rank (Cat' _ _ _ _) = 6
rank (Alt' _ _) = 7
rank (Star' _ _) = 8
rank (Not' _ _) = 9

-- A path spelled from the left: the place of its variant, then its numbers and parts. The members of an Alt end with 0.
abbrev mutual
  pub spelled : Path → List ℕ
  spelled Nothing = 1 ∷ []
  spelled Empty = 2 ∷ []
  spelled Dot = 3 ∷ []
  spelled (Loc l) = 4 ∷ l ∷ []
  spelled (Fun f) = 5 ∷ f ∷ []
  spelled (Cat' _ (more_of-Path a end_of-Path) _ (more_of-Path b end_of-Path)) = 6 ∷ (spelled a ++ spelled b)
  spelled (Alt' _ paths) = 7 ∷ spelled_members paths
  spelled (Star' _ (more_of-Path a end_of-Path)) = 8 ∷ spelled a
  spelled (Not' _ (more_of-Path a end_of-Path)) = 9 ∷ spelled a

  pub spelled_members : {n : _} → Row_of-Path n → List ℕ
  spelled_members end_of-Path = 0 ∷ []
  spelled_members (more_of-Path a rest) = spelled a ++ spelled_members rest

-- Paths are ordered as they are spelled, number by number: by their variants, and paths of one variant by their parts.
abbrev pub order : Path → Path → Ordering
order a b = slice_cmp nat_cmp (spelled a) (spelled b)

-- each path of the list stands before the next one
abbrev pub AscendStrictly : List Path → Type 0
AscendStrictly [] = ⊤
AscendStrictly (a ∷ []) = ⊤
AscendStrictly (a ∷ b ∷ rest) = (order a b ≡ Less) × AscendStrictly (b ∷ rest)
