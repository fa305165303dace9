-- The lexemes of a formula, whatever blanks stand between them.
use Rattle.std.specs.Prelude.{ℕ, ◌≡◌, ◌≤◌, List, [], ◌∷◌, ◌++◌}
use Rattle.std.specs.List.{AllByRecursion, flat_map, join_by}
use Rattle.merlin_base.specs.Lexemes.{IsName}
use Rattle.merlin_model.specs.declared.policy.Part.{Part}
use Rattle.merlin_model.specs.declared.policy.Part.TheVariants.{Id, Constant}
use Rattle.merlin_model.specs.declared.policy.Term.{Term}
use Rattle.merlin_text.specs.declared.token.Word.TheVariants as words
use Rattle.merlin_text.specs.declared.token.Sign.TheVariants as signs
use Rattle.merlin_text.specs.Tokens.{Piece, text_of, ArePieces}
use Rattle.merlin_text.specs.Lexemes.{Lexeme, name, word, sign, rate, lexeme_at, bound_word}

-- A policy text can stand for the formula: its ids are names, and its rates are within their limit.
abbrev pub IsWritablePart : Part → Type 0
IsWritablePart (Id id) = IsName id
IsWritablePart (Constant amount) = amount ≤ 1000000000

abbrev pub IsWritableTerm : Term → Type 0
IsWritableTerm term = AllByRecursion IsWritablePart term.parts × (term.rate ≤ 1000000000)

abbrev pub IsWritable : List Term → Type 0
IsWritable terms = AllByRecursion IsWritableTerm terms

abbrev pub part_lexeme : Part → Lexeme
part_lexeme (Id id) = name id 0
part_lexeme (Constant amount) = rate amount

-- `max ( x + y , 9kbps )`
abbrev pub term_lexemes : Term → List Lexeme
term_lexemes term =
    word (bound_word term.bound) ∷ sign signs.OpenGroup ∷ join_by (λ part. part_lexeme part ∷ []) (sign signs.Plus ∷ []) term.parts
    ++ sign signs.Comma ∷ rate term.rate ∷ sign signs.CloseGroup ∷ []

abbrev pub formula_lexemes : List Term → List Lexeme
formula_lexemes terms = join_by term_lexemes (word words.And ∷ []) terms

-- the lexemes among pieces, each as if it stood at the start
abbrev pub lexemes_of : List Piece → List Lexeme
lexemes_of pieces = flat_map (λ piece. lexeme_at piece.0 piece.1 0) pieces

-- the text is cut into pieces, and these are the lexemes among them
pub record HasLexemes (text : List ℕ) (lexemes : List Lexeme) : Type 0 where
  pub pieces : List Piece
  pub whole : text ≡ text_of pieces
  pub lawful : ArePieces pieces []
  pub are : lexemes_of pieces ≡ lexemes
