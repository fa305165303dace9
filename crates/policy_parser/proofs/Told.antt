-- What is read from the tokens of a text is what the text stands for.
use Rattle.std.proofs.Common.{ℕ, ◌≡◌, ◌≤◌, ◌-◌, List, length, Result, Ok, Err, subst, arith}
use Rattle.std.specs.Prelude.{IfOk, IfErr}
use Rattle.std.proofs.lemmas.List.{length-map}
use Rattle.merlin_text.specs.declared.token.Token.{Token}
use Rattle.merlin_text.specs.declared.token.TokenFault.{TokenFault}
use Rattle.merlin_text.specs.declared.token.TokenFault.TheVariants as tokens
use Rattle.merlin_text.specs.Tokens.{AreTokens, IsTokenFault}
use Rattle.policy_grammar.specs.declared.written.WrittenPolicy.{WrittenPolicy}
use Rattle.policy_grammar.specs.Lexemes.{lexeme, lexemes}
use Rattle.policy_grammar.specs.Grammar.{IsFaultAt}
use Rattle.policy_grammar.specs.Machine.{run, first_state}
use Rattle.policy_grammar.proofs.Faults.{fault}
use Rattle.policy_parser.specs.declared.fault.PolicyFault.{PolicyFault}
use Rattle.policy_parser.specs.declared.fault.PolicyFault.TheVariants.{BadByte, BadNumber, Syntax, DuplicateSet, MixedSet, UnknownSet, TooManyStatements, DuplicateId, OutOfMemory}
use Rattle.policy_parser.specs.Policies.{IsWritten, IsRead, IsRefused, of_tokens, place_of}

-- no more tokens are left than there are
pub few_left : (text : List ℕ) (ts : List Token) (m : ℕ) → run (lexemes text ts) first_state ≡ Err m → m ≤ length ts
few_left text ts m e = let within = (fault (lexemes text ts) m e).0 in omega (arith, within, length-map ts (lexeme text))

pub stops : (text : List ℕ) (ts : List Token) (m at : ℕ) → run (lexemes text ts) first_state ≡ Err m → at ≡ place_of text ts (length ts - m) → IsRead text ts (Err (Syntax at))
stops text ts m at e place = (length ts - m, subst (λ n. IsFaultAt (lexemes text ts) (n - m)) (length-map ts (lexeme text)) (fault (lexemes text ts) m e).1, place)

-- with the tokens of the text, what is read from them is what it stands for
pub told : (text : List ℕ) (ts : List Token) (r : Result WrittenPolicy PolicyFault) → AreTokens text ts → IsRead text ts r → IfOk r (IsWritten text) × IfErr r (λ fault. IsRefused fault text)
told text ts (Ok w) cut read = (record { tokens = ts; cut = cut; stands = read }, tt)
told text ts (Err (Syntax at)) cut (number, stop, place) = (tt, record { tokens = ts; cut = cut; number = number; fault = stop; place = place })
told text ts (Err OutOfMemory) cut read = (tt, tt)
told text ts (Err (BadByte at)) cut read = absurd read
told text ts (Err (BadNumber at)) cut read = absurd read
told text ts (Err (DuplicateSet name)) cut read = absurd read
told text ts (Err (MixedSet name)) cut read = absurd read
told text ts (Err (UnknownSet name)) cut read = absurd read
told text ts (Err (TooManyStatements count)) cut read = absurd read
told text ts (Err (DuplicateId id)) cut read = absurd read

-- a faulty token is a fault of the text
pub token_fault : (text : List ℕ) (f : TokenFault) → IsTokenFault text f → IsRefused (of_tokens f) text
token_fault text (tokens.BadByte at) p = p
token_fault text (tokens.BadNumber at) p = p
token_fault text tokens.OutOfMemory p = tt
