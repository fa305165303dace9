-- Where functions stand in a path.
use Rattle.std.specs.Prelude.{⊤}
use Rattle.merlin_model.specs.declared.policy.Path.{Path, Fun, Cat', Alt', Star', Not', Row_of-Path, end_of-Path, more_of-Path}

abbrev mutual
  -- the path names no function
  pub HasNoFun : Path → Type 0
  HasNoFun (Fun f) = ⊥
  HasNoFun (Cat' _ (more_of-Path a end_of-Path) _ (more_of-Path b end_of-Path)) = HasNoFun a × HasNoFun b
  HasNoFun (Alt' _ paths) = EachHasNoFun paths
  HasNoFun (Star' _ (more_of-Path a end_of-Path)) = HasNoFun a
  HasNoFun (Not' _ (more_of-Path a end_of-Path)) = HasNoFun a
  HasNoFun _ = ⊤

  pub EachHasNoFun : {n : _} → Row_of-Path n → Type 0
  EachHasNoFun end_of-Path = ⊤
  EachHasNoFun (more_of-Path a rest) = HasNoFun a × EachHasNoFun rest

abbrev mutual
  -- no function stands under a Not
  pub HasNoFunctionUnderNot : Path → Type 0
  HasNoFunctionUnderNot (Cat' _ (more_of-Path a end_of-Path) _ (more_of-Path b end_of-Path)) = HasNoFunctionUnderNot a × HasNoFunctionUnderNot b
  HasNoFunctionUnderNot (Alt' _ paths) = EachHasNoFunctionUnderNot paths
  HasNoFunctionUnderNot (Star' _ (more_of-Path a end_of-Path)) = HasNoFunctionUnderNot a
  HasNoFunctionUnderNot (Not' _ (more_of-Path a end_of-Path)) = HasNoFun a
  HasNoFunctionUnderNot _ = ⊤

  pub EachHasNoFunctionUnderNot : {n : _} → Row_of-Path n → Type 0
  EachHasNoFunctionUnderNot end_of-Path = ⊤
  EachHasNoFunctionUnderNot (more_of-Path a rest) = HasNoFunctionUnderNot a × EachHasNoFunctionUnderNot rest
