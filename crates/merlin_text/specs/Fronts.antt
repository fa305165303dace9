-- What stands at the front of a text.
use Rattle.std.specs.Prelude.{◌≡◌, ◌≢◌, ◌⊎◌, ◌<◌, ◌≤◌, ℕ, List, length, take, drop, Option}
use Rattle.merlin_base.specs.Lexemes.{IsNameByte}
use Rattle.merlin_text.specs.declared.pieces.Run.{Run}
use Rattle.merlin_text.specs.declared.pieces.Run.TheVariants as runs
use Rattle.merlin_text.specs.declared.token.Kind.{Kind}
use Rattle.merlin_text.specs.Tokens.{IsPiece, IsRunByte}

-- the bytes of each sort of run
abbrev pub IsByteOf : Run → ℕ → Type 0
IsByteOf runs.Comment c = c ≢ 10
IsByteOf runs.Name c = IsNameByte c
IsByteOf runs.Digits c = IsRunByte c
IsByteOf runs.Mac c = IsNameByte c ⊎ (c ≡ 58)

-- The first bytes of the text, so many, are a piece of this kind.
pub record IsFront (text : List ℕ) (length' : ℕ) (kind : Option Kind) : Type 0 where
  pub some : 0 < length'
  pub within : length' ≤ length text
  pub piece : IsPiece kind (take length' text) (drop length' text)
