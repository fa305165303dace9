-- Statements that are added to others.
use Rattle.std.specs.Prelude.{◌≡◌, List, ◌++◌, map, flat_map}
use Rattle.policy_grammar.specs.declared.written.WrittenStatement.{WrittenStatement}
use Rattle.policy_expansion.specs.declared.writing.Written.{Written}
use Rattle.policy_expansion.specs.Expansion.{plain, terms_of}

-- the statements and the terms of their limits stand last
pub record Adds (old new : Written) (added : List WrittenStatement) : Type 0 where
  pub statements : new.statements ≡ old.statements ++ map plain added
  pub terms : new.terms ≡ old.terms ++ flat_map terms_of added
