-- Policy text and its tokens: the text is cut into blanks, comments and lexemes, one after another.
use Rattle.std.specs.Prelude.{◌≡◌, ◌≢◌, ◌⊎◌, ◌+◌, ◌<◌, ◌≤◌, ℕ, List, [], ◌∷◌, ◌++◌, length, All, codes, Option, None, Some, slice_range, ⊤}
use Rattle.merlin_base.specs.Lexemes.{IsLetter, IsDigit, IsNameByte, IsName, IsDecimal, IsMac, IsIp, IsRate}
use Rattle.merlin_text.specs.declared.token.Kind.{Kind}
use Rattle.merlin_text.specs.declared.token.Kind.TheVariants as kinds
use Rattle.merlin_text.specs.declared.token.Word.{Word}
use Rattle.merlin_text.specs.declared.token.Word.TheVariants as words
use Rattle.merlin_text.specs.declared.token.Sign.{Sign}
use Rattle.merlin_text.specs.declared.token.Sign.TheVariants as signs
use Rattle.merlin_text.specs.declared.token.Token.{Token}
use Rattle.merlin_text.specs.declared.token.TokenFault.{TokenFault}
use Rattle.merlin_text.specs.declared.token.TokenFault.TheVariants as faults

-- how each word is written
abbrev pub spelling : Word → List ℕ
spelling words.True = codes "true"
spelling words.False = codes "false"
spelling words.And = codes "and"
spelling words.Or = codes "or"
spelling words.Foreach = codes "foreach"
spelling words.In = codes "in"
spelling words.Cross = codes "cross"
spelling words.Default = codes "default"
spelling words.At = codes "at"
spelling words.Max = codes "max"
spelling words.Min = codes "min"

-- how each sign is written
abbrev pub written : Sign → List ℕ
written signs.Becomes = codes ":="
written signs.Arrow = codes "->"
written signs.OpenList = codes "["
written signs.CloseList = codes "]"
written signs.OpenGroup = codes "("
written signs.CloseGroup = codes ")"
written signs.OpenSet = codes "{"
written signs.CloseSet = codes "}"
written signs.Colon = codes ":"
written signs.Semicolon = codes ";"
written signs.Comma = codes ","
written signs.Equals = codes "="
written signs.Plus = codes "+"
written signs.Star = codes "*"
written signs.Bang = codes "!"
written signs.Dot = codes "."
written signs.Bar = codes "|"

-- space, tab, carriage return and newline
abbrev pub IsBlank : ℕ → Type 0
IsBlank c = (c ≡ 32) ⊎ (c ≡ 9) ⊎ (c ≡ 13) ⊎ (c ≡ 10)

-- a letter, digit, `.`, `:` or `/`
abbrev pub IsRunByte : ℕ → Type 0
IsRunByte c = (IsLetter c × (c ≢ 95)) ⊎ IsDigit c ⊎ (c ≡ 46) ⊎ (c ≡ 58) ⊎ (c ≡ 47)

-- The text is empty, or its first byte is no such byte.
abbrev pub EndsBefore : (ℕ → Type 0) → List ℕ → Type 0
EndsBefore Goes [] = ⊤
EndsBefore Goes (c ∷ rest) = Goes c → ⊥

abbrev pub BeginsWith : (ℕ → Type 0) → List ℕ → Type 0
BeginsWith Begins [] = ⊥
BeginsWith Begins (c ∷ rest) = Begins c

-- the longest run of bytes of one sort, and what follows it
pub record IsRun (Begins Goes : ℕ → Type 0) (run rest : List ℕ) : Type 0 where
  pub first : BeginsWith Begins run
  pub each : All Goes run
  pub longest : EndsBefore Goes rest

abbrev pub IsComment : List ℕ → List ℕ → Type 0
IsComment = IsRun (λ c. c ≡ 35) (λ c. c ≢ 10)

abbrev pub IsNameRun : List ℕ → List ℕ → Type 0
IsNameRun = IsRun IsLetter IsNameByte

abbrev pub IsDigitRun : List ℕ → List ℕ → Type 0
IsDigitRun = IsRun IsDigit IsRunByte

-- an address, `/` and a number to 32: that address and that number
pub record IsPrefix (text : List ℕ) (value bits : ℕ) : Type 0 where
  pub address : List ℕ
  pub number : List ℕ
  pub whole : text ≡ address ++ 47 ∷ number
  pub ip : IsIp address value
  pub decimal : IsDecimal number bits
  pub few : bits ≤ 32

-- a Mac, not followed by a letter, digit, underscore or `:`
pub record IsMacAt (mac rest : List ℕ) (n : ℕ) : Type 0 where
  pub is : IsMac mac n
  pub ends : EndsBefore (λ c. IsNameByte c ⊎ (c ≡ 58)) rest

abbrev pub BeginsNoMac : List ℕ → Type 0
BeginsNoMac text = (mac rest : List ℕ) (n : ℕ) → text ≡ mac ++ rest → IsMacAt mac rest n → ⊥

-- The kind of a piece of text; blanks and comments have none.
-- What the text of a lexeme is, by its kind:
abbrev pub IsLexeme : Option Kind → List ℕ → Type 0
IsLexeme None text = ⊤
IsLexeme (Some kinds.Name) text = IsName text
IsLexeme (Some (kinds.Word word)) text = text ≡ spelling word
IsLexeme (Some (kinds.Number n)) text = IsDecimal text n × (n ≤ 65535)
IsLexeme (Some (kinds.Rate rate)) text = IsRate text rate
IsLexeme (Some (kinds.Mac mac)) text = IsMac text mac
IsLexeme (Some (kinds.Ip ip)) text = IsIp text ip
IsLexeme (Some (kinds.Prefix value bits)) text = IsPrefix text value bits
IsLexeme (Some (kinds.Sign sign)) text = text ≡ written sign

-- the sorts of pieces, by how far they go
pub data Sort : Type 0 where
  gap : Sort
  verbal : Sort
  numeral : Sort
  mac : Sort
  sign : Sort

abbrev pub sort_of : Option Kind → Sort
sort_of None = gap
sort_of (Some kinds.Name) = verbal
sort_of (Some (kinds.Word _)) = verbal
sort_of (Some (kinds.Number _)) = numeral
sort_of (Some (kinds.Rate _)) = numeral
sort_of (Some (kinds.Mac _)) = mac
sort_of (Some (kinds.Ip _)) = numeral
sort_of (Some (kinds.Prefix _ _)) = numeral
sort_of (Some (kinds.Sign _)) = sign

-- how far a piece goes: a blank is one byte, `:` stands only where `:=` doesn't
abbrev pub IsExtent : Sort → List ℕ → List ℕ → Type 0
IsExtent gap text rest = ((c : ℕ) × (text ≡ c ∷ []) × IsBlank c) ⊎ IsComment text rest
IsExtent verbal text rest = IsNameRun text rest
IsExtent numeral text rest = IsDigitRun text rest
IsExtent mac text rest = EndsBefore (λ c. IsNameByte c ⊎ (c ≡ 58)) rest
IsExtent sign text rest = text ≡ codes ":" → EndsBefore (λ c. c ≡ 61) rest

-- A Mac is tried first: where one begins, nothing else does.
abbrev pub GivesWay : Sort → List ℕ → Type 0
GivesWay mac text = ⊤
GivesWay sort text = BeginsNoMac text

-- a piece of this kind, and what follows it
pub record IsPiece (kind : Option Kind) (text rest : List ℕ) : Type 0 where
  pub lexeme : IsLexeme kind text
  pub goes_to : IsExtent (sort_of kind) text rest
  pub mac_first : GivesWay (sort_of kind) (text ++ rest)

-- a piece, by its kind and its text
abbrev pub Piece : Type 0
Piece = Option Kind × List ℕ

abbrev pub text_of : List Piece → List ℕ
text_of [] = []
text_of (p ∷ ps) = p.1 ++ text_of ps

-- Each piece stands before those that follow it, and before the rest.
abbrev pub ArePieces : List Piece → List ℕ → Type 0
ArePieces [] rest = ⊤
ArePieces (p ∷ ps) rest = IsPiece p.0 p.1 (text_of ps ++ rest) × ArePieces ps rest

-- the token of a piece that is a lexeme, by its place
abbrev pub token_at : Option Kind → ℕ → ℕ → List Token
token_at None start end = []
token_at (Some kind) start end = record { kind = kind; span = record { start = start; end = end } } ∷ []

-- the tokens of pieces from a place on
abbrev pub tokens_of : ℕ → List Piece → List Token
tokens_of at [] = []
tokens_of at (p ∷ ps) = token_at p.0 at (at + length p.1) ++ tokens_of (at + length p.1) ps

-- The text is pieces with these tokens, and then the rest.
pub record IsCut (text rest : List ℕ) (tokens : List Token) : Type 0 where
  pub pieces : List Piece
  pub whole : text ≡ text_of pieces ++ rest
  pub lawful : ArePieces pieces rest
  pub lexemes : tokens_of 0 pieces ≡ tokens

-- the tokens of a text, which is cut into pieces to its end
abbrev pub AreTokens : List ℕ → List Token → Type 0
AreTokens text tokens = IsCut text [] tokens

abbrev pub BeginsNoPiece : List ℕ → Type 0
BeginsNoPiece text = (kind : Option Kind) (piece rest : List ℕ) → text ≡ piece ++ rest → IsPiece kind piece rest → ⊥

-- The text is cut into pieces up to a byte with which none begins.
pub record StopsAt (text : List ℕ) (at byte : ℕ) : Type 0 where
  pub rest : List ℕ
  pub tokens : List Token
  pub cut : IsCut text (byte ∷ rest) tokens
  pub place : at + length (byte ∷ rest) ≡ length text
  pub none : BeginsNoPiece (byte ∷ rest)

-- the first fault of a text: no piece begins with this digit, or with this other byte
abbrev pub IsTokenFault : List ℕ → TokenFault → Type 0
IsTokenFault text (faults.BadByte at) = (byte : ℕ) × StopsAt text at byte × (IsDigit byte → ⊥)
IsTokenFault text (faults.BadNumber at) = (byte : ℕ) × StopsAt text at byte × IsDigit byte
IsTokenFault text faults.OutOfMemory = ⊤

-- Each token's text is its slice, and the slices follow one another.
abbrev pub AreSlices : List ℕ → ℕ → List Token → Type 0
AreSlices text from [] = ⊤
AreSlices text from (t ∷ ts) = (from ≤ t.span.start) × (t.span.start < t.span.end) × (t.span.end ≤ length text) × IsLexeme (Some t.kind) (slice_range text t.span.start t.span.end) × AreSlices text t.span.end ts
