-- The normal form of a path.
use Rattle.std.specs.Prelude.{◌≡◌, List, [], ◌∷◌}
use Rattle.std.specs.List.{flat_map}
use Rattle.std.specs.Ordering.{match_ordering}
use Rattle.merlin_model.specs.declared.policy.Path.{Path, Nothing, Empty, Dot, Loc, Fun, Cat, Cat', Alt, Alt', Star, Star', Not, Not', Row_of-Path, end_of-Path, more_of-Path}
use Rattle.path_regex.specs.Parts.{listed}
use Rattle.path_regex.specs.Order.{order}

-- a path followed by one that is neither Nothing nor Empty: a Cat on the left is grouped to the right
abbrev pub grouped_cat : Path → Path → Path
grouped_cat Nothing b = Nothing
grouped_cat Empty b = b
grouped_cat (Cat' _ (more_of-Path a end_of-Path) _ (more_of-Path c end_of-Path)) b = Cat a (grouped_cat c b)
grouped_cat a b = Cat a b

-- a path followed by another
abbrev pub cat_of : Path → Path → Path
cat_of a Nothing = Nothing
cat_of a Empty = a
cat_of a b = grouped_cat a b

-- what a path adds to an Alt: nothing, the members of an Alt, or itself
abbrev pub members : Path → List Path
members Nothing = []
members (Alt' _ paths) = listed paths
members a = a ∷ []

-- a path put in its place among others in order, unless it is there
abbrev pub added : Path → List Path → List Path
added a [] = a ∷ []
added a (b ∷ rest) = match_ordering (order a b) (a ∷ b ∷ rest) (b ∷ rest) (b ∷ added a rest)

-- paths put in their places among others in order
abbrev pub added_all : List Path → List Path → List Path
added_all [] others = others
added_all (a ∷ rest) others = added a (added_all rest others)

-- paths put in order, each once
abbrev pub in_order_of : List Path → List Path
in_order_of paths = added_all paths []

-- any one of the paths
abbrev pub one_of : List Path → Path
one_of [] = Nothing
one_of (a ∷ []) = a
one_of (a ∷ b ∷ rest) = Alt (a ∷ b ∷ rest)

-- any one of the paths, of which an Alt stands for its members
abbrev pub alt_of : List Path → Path
alt_of paths = one_of (in_order_of (flat_map members paths))

abbrev pub star_of : Path → Path
star_of Nothing = Empty
star_of Empty = Empty
star_of (Star' _ (more_of-Path a end_of-Path)) = Star a
star_of a = Star a

abbrev pub not_of : Path → Path
not_of (Not' _ (more_of-Path a end_of-Path)) = a
not_of a = Not a

abbrev mutual
  -- the normal form
  pub normal_of : Path → Path
  normal_of Nothing = Nothing
  normal_of Empty = Empty
  normal_of Dot = Dot
  normal_of (Loc l) = Loc l
  normal_of (Fun f) = Fun f
  normal_of (Cat' _ (more_of-Path a end_of-Path) _ (more_of-Path b end_of-Path)) = cat_of (normal_of a) (normal_of b)
  normal_of (Alt' _ paths) = alt_of (normals paths)
  normal_of (Star' _ (more_of-Path a end_of-Path)) = star_of (normal_of a)
  normal_of (Not' _ (more_of-Path a end_of-Path)) = not_of (normal_of a)

  pub normals : {n : _} → Row_of-Path n → List Path
  normals end_of-Path = []
  normals (more_of-Path a rest) = normal_of a ∷ normals rest

abbrev pub IsNormalForm : Path → Type 0
IsNormalForm path = normal_of path ≡ path
