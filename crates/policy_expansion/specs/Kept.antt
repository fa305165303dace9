-- What each policy keeps that a written one stands for.
use Rattle.std.specs.Prelude.{◌≢◌, ◌+◌, ◌≤◌, ◌<◌, ◌^◌, ⊤, [], length, map}
use Rattle.std.specs.List.{AllByRecursion}
use Rattle.merlin_model.specs.Networks.{AreDifferent}
use Rattle.merlin_model.specs.Predicates.{IsPred}
use Rattle.merlin_model.specs.Rates.{ids_of}
use Rattle.merlin_model.specs.declared.policy.Part.{Part}
use Rattle.merlin_model.specs.declared.policy.Part.TheVariants.{Id, Constant}
use Rattle.merlin_model.specs.declared.policy.Term.{Term}
use Rattle.policy_expansion.specs.declared.limits.TheConstants.{MAX_STATEMENTS}
use Rattle.policy_grammar.specs.declared.written.Literal.{Literal}
use Rattle.policy_grammar.specs.declared.written.Literal.TheVariants.{Mac, Ip}
use Rattle.policy_grammar.specs.declared.written.WrittenStatement.{WrittenStatement}
use Rattle.policy_grammar.specs.declared.written.Item.{Item}
use Rattle.policy_grammar.specs.declared.written.Item.TheVariants.{One, ForEach}
use Rattle.policy_grammar.specs.declared.written.WrittenPolicy.{WrittenPolicy}
use Rattle.policy_expansion.specs.declared.policy.Policy.{Policy}
use Rattle.policy_expansion.specs.Faults.{count_of_default}

-- few statements, with the default, under ids that differ
pub record IsExpanded (policy : Policy) : Type 0 where
  pub few : length policy.statements + count_of_default policy.default_path ≤ MAX_STATEMENTS
  pub ids : AreDifferent (map (λ s. s.id) policy.statements)

-- an address that fits its width
abbrev pub IsLiteral : Literal → Type 0
IsLiteral (Mac a) = a < 2 ^ 48
IsLiteral (Ip a) = a < 2 ^ 32

-- a rate within its limit
abbrev pub IsPart : Part → Type 0
IsPart (Id id) = ⊤
IsPart (Constant rate) = rate ≤ 1000000000

-- a term over some id, with rates within their limit
abbrev pub IsTerm : Term → Type 0
IsTerm term = (ids_of term ≢ []) × AllByRecursion IsPart term.parts × (term.rate ≤ 1000000000)

-- a statement with a well-formed predicate and limits
abbrev pub IsStatement : WrittenStatement → Type 0
IsStatement s = IsPred s.pred × AllByRecursion (λ limit. limit.rate ≤ 1000000000) s.limits

abbrev pub statement_in : Item → WrittenStatement
statement_in (One s) = s
statement_in (ForEach outer inner s) = s

-- values in their ranges, in a policy as it is written and in the one that it stands for
pub record IsWellWritten (w : WrittenPolicy) : Type 0 where
  pub literals : AllByRecursion (λ set. AllByRecursion IsLiteral set.literals) w.sets
  pub statements : AllByRecursion (λ item. IsStatement (statement_in item)) w.items
  pub terms : AllByRecursion IsTerm w.terms

pub record IsWellFormed (policy : Policy) : Type 0 where
  pub preds : AllByRecursion (λ s. IsPred s.pred) policy.statements
  pub terms : AllByRecursion IsTerm policy.formula.terms
