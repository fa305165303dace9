-- Where a key stands among the tags.
use Rattle.std.specs.Prelude.{ℕ, ◌≡◌, ◌≤◌, ◌<◌, List, length, Some, slice_get}
use Rattle.rules_model.specs.Tables.{IsBelowKey}
use Rattle.rule_tables.specs.declared.branches.TagKey.{TagKey}
use Rattle.rule_tables.specs.Branches.{key_of}

-- the tags before place n come before the key, and the others don't
pub record IsCountBelow (tags : List TagKey) (key : TagKey) (n : ℕ) : Type 0 where
  pub within : n ≤ length tags
  pub below : (i : ℕ) (k : TagKey) → i < n → slice_get tags i ≡ Some k → IsBelowKey (key_of k) (key_of key)
  pub rest : (i : ℕ) (k : TagKey) → n ≤ i → slice_get tags i ≡ Some k → ¬ IsBelowKey (key_of k) (key_of key)
