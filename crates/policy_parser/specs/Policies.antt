-- Which policy a text stands for, and why a text stands for none.
use Rattle.std.specs.Prelude.{ℕ, ◌≡◌, ◌≢◌, ◌⊎◌, ⊤, List, [], length, slice_get, None, Result, Ok, Err}
use Rattle.merlin_model.specs.declared.policy.Term.{Term}
use Rattle.merlin_model.specs.Rates.{ids_of}
use Rattle.std.specs.Option.{option_map_or}
use Rattle.merlin_text.specs.declared.token.Token.{Token}
use Rattle.merlin_text.specs.declared.token.TokenFault.{TokenFault}
use Rattle.merlin_text.specs.declared.token.TokenFault.TheVariants as token_faults
use Rattle.merlin_text.specs.Tokens.{AreTokens, IsTokenFault}
use Rattle.policy_grammar.specs.declared.written.WrittenPolicy.{WrittenPolicy}
use Rattle.policy_grammar.specs.Lexemes.{lexemes}
use Rattle.policy_grammar.specs.Grammar.{StandsFor, IsFaultAt}
use Rattle.policy_expansion.specs.declared.policy.Policy.{Policy}
use Rattle.policy_expansion.specs.declared.policy.ExpansionFault.{ExpansionFault}
use Rattle.policy_expansion.specs.declared.policy.ExpansionFault.TheVariants as expansion_faults
use Rattle.policy_expansion.specs.Expansion.{expansion}
use Rattle.policy_expansion.specs.Kept.{IsExpanded, IsWellFormed}
use Rattle.policy_parser.specs.declared.fault.PolicyFault.{PolicyFault}
use Rattle.policy_parser.specs.declared.fault.PolicyFault.TheVariants.{BadByte, BadNumber, Syntax, DuplicateSet, MixedSet, UnknownSet, TooManyStatements, DuplicateId, OutOfMemory}

-- The text is cut into tokens that stand for the policy as it is written.
pub record IsWritten (text : List ℕ) (written : WrittenPolicy) : Type 0 where
  pub tokens : List Token
  pub cut : AreTokens text tokens
  pub stands : StandsFor (lexemes text tokens) written

-- The text stands for the policy: with its sets and `foreach` written out, it is this one.
pub record IsPolicyText (text : List ℕ) (policy : Policy) : Type 0 where
  pub written : WrittenPolicy
  pub text_of : IsWritten text written
  pub expanded : expansion written ≡ Ok policy

-- What holds of each policy that a text stands for: at most 4,096 statements with the default, under ids that differ; each test with a
-- value of its field; each term over some id, with rates to 1,000,000,000.
pub record IsParsed (policy : Policy) : Type 0 where
  pub expanded : IsExpanded policy
  pub formed : IsWellFormed policy

-- some id stands in the term
abbrev pub HasId : Term → Type 0
HasId term = ids_of term ≢ []

-- the policy that is a formula alone
abbrev pub formula_alone : List Term → Policy
formula_alone terms = record { statements = []; default_path = None; formula = record { terms = terms } }

-- the byte at which a token starts, by its number; the length of the text past the last one
abbrev pub place_of : List ℕ → List Token → ℕ → ℕ
place_of text tokens number = option_map_or (λ token. token.span.start) (slice_get tokens number) (length text)

-- The text has tokens, and at that byte stands the token, or the end, with which they begin no policy, while those before it begin one.
pub record IsSyntaxFault (text : List ℕ) (at : ℕ) : Type 0 where
  pub tokens : List Token
  pub cut : AreTokens text tokens
  pub number : ℕ
  pub fault : IsFaultAt (lexemes text tokens) number
  pub place : at ≡ place_of text tokens number

-- What is read from the tokens of a text: the policy that they stand for as it is written, or where they stop being one.
abbrev pub IsRead : List ℕ → List Token → Result WrittenPolicy PolicyFault → Type 0
IsRead text tokens (Ok written) = StandsFor (lexemes text tokens) written
IsRead text tokens (Err (Syntax at)) = (number : ℕ) × IsFaultAt (lexemes text tokens) number × (at ≡ place_of text tokens number)
IsRead text tokens (Err OutOfMemory) = ⊤
IsRead text tokens (Err _) = ⊥

-- The policy as it is written cannot be written out.
pub record IsNotExpanded (text : List ℕ) (fault : ExpansionFault) : Type 0 where
  pub written : WrittenPolicy
  pub text_of : IsWritten text written
  pub refused : expansion written ≡ Err fault

-- why a text stands for no policy: its tokens, then its grammar, then its sets, statements and ids
abbrev pub IsRefused : PolicyFault → List ℕ → Type 0
IsRefused (BadByte at) text = IsTokenFault text (token_faults.BadByte at)
IsRefused (BadNumber at) text = IsTokenFault text (token_faults.BadNumber at)
IsRefused (Syntax at) text = IsSyntaxFault text at
IsRefused (DuplicateSet name) text = IsNotExpanded text (expansion_faults.DuplicateSet name)
IsRefused (MixedSet name) text = IsNotExpanded text (expansion_faults.MixedSet name)
IsRefused (UnknownSet name) text = IsNotExpanded text (expansion_faults.UnknownSet name)
IsRefused (TooManyStatements count) text = IsNotExpanded text (expansion_faults.TooManyStatements count)
IsRefused (DuplicateId id) text = IsNotExpanded text (expansion_faults.DuplicateId id)
IsRefused OutOfMemory text = ⊤

-- what a text is read as: the policy that it stands for, or why it stands for none
abbrev pub IsReading : List ℕ → Result Policy PolicyFault → Type 0
IsReading text (Ok policy) = IsPolicyText text policy
IsReading text (Err fault) = IsRefused fault text

-- the same fault as a fault of the whole text
abbrev pub of_tokens : TokenFault → PolicyFault
of_tokens (token_faults.BadByte at) = BadByte at
of_tokens (token_faults.BadNumber at) = BadNumber at
of_tokens token_faults.OutOfMemory = OutOfMemory

abbrev pub of_expansion : ExpansionFault → PolicyFault
of_expansion (expansion_faults.DuplicateSet name) = DuplicateSet name
of_expansion (expansion_faults.MixedSet name) = MixedSet name
of_expansion (expansion_faults.UnknownSet name) = UnknownSet name
of_expansion (expansion_faults.TooManyStatements count) = TooManyStatements count
of_expansion (expansion_faults.DuplicateId id) = DuplicateId id
of_expansion expansion_faults.OutOfMemory = OutOfMemory

-- two readings are one, unless memory runs out in one of them
abbrev pub AreOneReading : {X : Type 0} → Result X PolicyFault → Result X PolicyFault → Type 0
AreOneReading r s = (r ≡ Err OutOfMemory) ⊎ ((s ≡ Err OutOfMemory) ⊎ (r ≡ s))
