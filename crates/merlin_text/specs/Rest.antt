-- The tokens of a text from a place on.
use Rattle.std.specs.Prelude.{◌≡◌, ◌≤◌, ℕ, List, [], length, drop}
use mathlib.Core.HLevel.{Σ_prop_path}
use mathlib.Core.Logic.{∥∥₁_elim}
use Rattle.std.specs.Coded.{Coded, Coded-set, codes}
use Rattle.merlin_text.specs.declared.token.Token.{Token}
use Rattle.merlin_text.specs.Tokens.{Piece, text_of, ArePieces, tokens_of}

-- From this place on the text is cut into pieces to its end, with these tokens.
pub record IsCutFrom (text : List ℕ) (at : ℕ) (tokens : List Token) : Type 0 where
  pub pieces : List Piece
  pub within : at ≤ length text
  pub whole : drop at text ≡ text_of pieces
  pub lawful : ArePieces pieces []
  pub lexemes : tokens_of at pieces ≡ tokens

-- These are the tokens from this place on, and there are no others.
abbrev pub AreRest : List ℕ → ℕ → List Token → Type 0
AreRest text at tokens = ∥ IsCutFrom text at tokens ∥₁ × ((others : List Token) → IsCutFrom text at others → others ≡ tokens)

-- the tokens of a text from a place on
abbrev pub Rest : List ℕ → ℕ → Type 0
Rest text at = (tokens : List Token) × AreRest text at tokens

-- A ghost field may be only what there is one of.
tokens_coded : Coded (List Token)
tokens_coded = Prim.hlevel codes

pub tokens_are_a_set : IsSet (List Token)
tokens_are_a_set = Coded-set tokens_coded

pub Rest-prop : (text : List ℕ) (at : ℕ) → IsProp (Rest text at)
Rest-prop text at x y = Σ_prop_path (λ tokens. Prim.hlevel tokens_are_a_set) (∥∥₁_elim x.1.0 (tokens_are_a_set x.0 y.0) (y.1.1 x.0))
