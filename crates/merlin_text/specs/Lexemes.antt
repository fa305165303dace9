-- Lexemes as grammars have them: a name with its text and the byte at which it starts, all others by their kind.
use Rattle.std.specs.Prelude.{if◌then◌else◌, ℕ, ◌+◌, ◌≤◌, ⊤, Option, None, Some, List, [], ◌∷◌, ◌++◌, map, length, slice_range, nat_le, ◌&&◌}
use Rattle.merlin_base.specs.Lexemes.{IsName, IsDecimal, IsRate, IsMac, IsIp}
use Rattle.merlin_model.specs.declared.policy.Bound.{Bound}
use Rattle.merlin_model.specs.declared.policy.Bound.TheVariants.{Max, Min}
use Rattle.merlin_text.specs.declared.token.Kind.{Kind}
use Rattle.merlin_text.specs.declared.token.Kind.TheVariants as kinds
use Rattle.merlin_text.specs.declared.token.Word.{Word}
use Rattle.merlin_text.specs.declared.token.Word.TheVariants as words
use Rattle.merlin_text.specs.declared.token.Sign.{Sign}
use Rattle.merlin_text.specs.declared.token.Token.{Token}
use Rattle.merlin_text.specs.Tokens.{IsPrefix, Piece}

pub data Lexeme : Type 0 where
  name : List ℕ → ℕ → Lexeme
  word : Word → Lexeme
  sign : Sign → Lexeme
  number : ℕ → Lexeme
  rate : ℕ → Lexeme
  mac : ℕ → Lexeme
  ip : ℕ → Lexeme
  -- a block of addresses: the address and the length as they are written
  prefix : ℕ → ℕ → Lexeme

-- some text spells the lexeme: a name is a name and no word, numbers are in their ranges
abbrev pub IsSpelled : Lexeme → Type 0
IsSpelled (name text _) = IsName text
IsSpelled (word _) = ⊤
IsSpelled (sign _) = ⊤
IsSpelled (number n) = (text : List ℕ) × IsDecimal text n × (n ≤ 65535)
IsSpelled (rate n) = (text : List ℕ) × IsRate text n
IsSpelled (mac n) = (text : List ℕ) × IsMac text n
IsSpelled (ip n) = (text : List ℕ) × IsIp text n
IsSpelled (prefix value bits) = (text : List ℕ) × IsPrefix text value bits

-- the text of a token; nothing where its ends are none of the bytes
abbrev pub token_text : List ℕ → Token → List ℕ
token_text bytes t = if nat_le t.span.start t.span.end && nat_le t.span.end (length bytes) then slice_range bytes t.span.start t.span.end else []

abbrev pub lexeme : List ℕ → Token → Lexeme
lexeme bytes t = elim t.kind [
  | kinds.Name ↦ name (token_text bytes t) t.span.start
  | kinds.Word w ↦ word w
  | kinds.Number n ↦ number n
  | kinds.Rate n ↦ rate n
  | kinds.Mac n ↦ mac n
  | kinds.Ip n ↦ ip n
  | kinds.Prefix value bits ↦ prefix value bits
  | kinds.Sign s ↦ sign s
]

abbrev pub lexemes : List ℕ → List Token → List Lexeme
lexemes bytes tokens = map (lexeme bytes) tokens

-- the lexeme of a piece, by its kind, its text and its place; a blank or a comment has none
abbrev pub lexeme_at : Option Kind → List ℕ → ℕ → List Lexeme
lexeme_at None text place = []
lexeme_at (Some kinds.Name) text place = name text place ∷ []
lexeme_at (Some (kinds.Word w)) text place = word w ∷ []
lexeme_at (Some (kinds.Number n)) text place = number n ∷ []
lexeme_at (Some (kinds.Rate n)) text place = rate n ∷ []
lexeme_at (Some (kinds.Mac n)) text place = mac n ∷ []
lexeme_at (Some (kinds.Ip n)) text place = ip n ∷ []
lexeme_at (Some (kinds.Prefix value bits)) text place = prefix value bits ∷ []
lexeme_at (Some (kinds.Sign s)) text place = sign s ∷ []

-- the lexemes of pieces from a place on
abbrev pub lexemes_in : ℕ → List Piece → List Lexeme
lexemes_in place [] = []
lexemes_in place (p ∷ ps) = lexeme_at p.0 p.1 place ++ lexemes_in (place + length p.1) ps

-- the word for a bound
abbrev pub bound_word : Bound → Word
bound_word Max = words.Max
bound_word Min = words.Min

-- phrases, one after another, with a lexeme between two of them
abbrev pub separated : {A : Type 0} → Lexeme → (A → List Lexeme) → List A → List Lexeme
separated between spell [] = []
separated between spell (x ∷ []) = spell x
separated between spell (x ∷ y ∷ rest) = spell x ++ between ∷ separated between spell (y ∷ rest)
