-- Which predicate a text stands for, and why a text stands for none.
use Rattle.std.specs.Prelude.{ℕ, ◌≡◌, ◌≤◌, ◌<◌, ⊤, suc, List, [], ◌++◌, length, take, Result, Ok, Err}
use Rattle.std.specs.List.{AllByRecursion}
use Rattle.merlin_model.specs.declared.policy.Pred.{Pred}
use Rattle.merlin_text.specs.declared.token.Token.{Token}
use Rattle.merlin_text.specs.declared.token.TokenFault.TheVariants as token_faults
use Rattle.merlin_text.specs.Tokens.{AreTokens, IsTokenFault}
use Rattle.policy_grammar.specs.Lexemes.{Lexeme, IsSpelled, lexemes}
use Rattle.policy_grammar.specs.Predicates.{Disj, spell_pred, pred_value, IsPredWithin}
use Rattle.policy_parser.specs.declared.fault.PolicyFault.{PolicyFault}
use Rattle.policy_parser.specs.declared.fault.PolicyFault.TheVariants.{BadByte, BadNumber, Syntax, DuplicateSet, MixedSet, UnknownSet, TooManyStatements, DuplicateId, OutOfMemory}
use Rattle.policy_parser.specs.Policies.{place_of}

-- The lexemes are one predicate, within its limits, and stand for this one.
pub record StandForPredicate (lexemes : List Lexeme) (pred : Pred) : Type 0 where
  pub phrase : Disj
  pub spelled : spell_pred phrase ≡ lexemes
  pub is : pred_value phrase ≡ pred
  pub within : IsPredWithin phrase

-- The lexemes begin some predicate: with some more, which texts can have, they are one.
pub record BeginPredicate (lexemes : List Lexeme) : Type 0 where
  pub more : List Lexeme
  pub spelled : AllByRecursion IsSpelled more
  pub pred : Pred
  pub stands : StandForPredicate (lexemes ++ more) pred

-- No predicate goes on at that lexeme: those before it begin one, with it, or with the end, they begin none.
pub record IsPredicateFaultAt (lexemes : List Lexeme) (at : ℕ) : Type 0 where
  pub within : at ≤ length lexemes
  pub before : BeginPredicate (take at lexemes)
  pub token : at < length lexemes → ¬ BeginPredicate (take (suc at) lexemes)
  pub end : at ≡ length lexemes → (pred : Pred) → ¬ StandForPredicate lexemes pred

-- The text is cut into tokens that stand for the predicate.
pub record IsPredicateText (text : List ℕ) (pred : Pred) : Type 0 where
  pub tokens : List Token
  pub cut : AreTokens text tokens
  pub stands : StandForPredicate (lexemes text tokens) pred

-- The text has tokens, and at that byte stands the token, or the end, with which they begin no predicate, while those before it begin one.
pub record IsPredicateSyntaxFault (text : List ℕ) (at : ℕ) : Type 0 where
  pub tokens : List Token
  pub cut : AreTokens text tokens
  pub number : ℕ
  pub fault : IsPredicateFaultAt (lexemes text tokens) number
  pub place : at ≡ place_of text tokens number

-- why a text stands for no predicate: its tokens, then its grammar
abbrev pub IsRefusedPredicate : PolicyFault → List ℕ → Type 0
IsRefusedPredicate (BadByte at) text = IsTokenFault text (token_faults.BadByte at)
IsRefusedPredicate (BadNumber at) text = IsTokenFault text (token_faults.BadNumber at)
IsRefusedPredicate (Syntax at) text = IsPredicateSyntaxFault text at
IsRefusedPredicate (DuplicateSet name) text = ⊥
IsRefusedPredicate (MixedSet name) text = ⊥
IsRefusedPredicate (UnknownSet name) text = ⊥
IsRefusedPredicate (TooManyStatements count) text = ⊥
IsRefusedPredicate (DuplicateId id) text = ⊥
IsRefusedPredicate OutOfMemory text = ⊤

-- what a text is read as: the predicate that it stands for, or why it stands for none
abbrev pub IsPredicateReading : List ℕ → Result Pred PolicyFault → Type 0
IsPredicateReading text (Ok pred) = IsPredicateText text pred
IsPredicateReading text (Err fault) = IsRefusedPredicate fault text

-- What is read from the tokens of a text: the predicate that they stand for, or where they stop being one.
abbrev pub IsPredicateRead : List ℕ → List Token → Result Pred PolicyFault → Type 0
IsPredicateRead text tokens (Ok pred) = StandForPredicate (lexemes text tokens) pred
IsPredicateRead text tokens (Err (Syntax at)) =
    (number : ℕ) × IsPredicateFaultAt (lexemes text tokens) number × (at ≡ place_of text tokens number)
IsPredicateRead text tokens (Err OutOfMemory) = ⊤
IsPredicateRead text tokens (Err _) = ⊥
