-- How lines are put together.
use Rattle.std.specs.Prelude.{ℕ, List, [], ◌∷◌, ◌++◌, Option, None, Some, codes}
use Rattle.std.specs.List.{join_with_byte, flat_map}

-- words with one space between them
abbrev pub words : List (List ℕ) → List ℕ
words = join_with_byte 32

-- a text and its newline
abbrev pub line : List ℕ → List ℕ
line text = text ++ 10 ∷ []

-- texts joined by commas, or a word where there is none
abbrev pub joined_by_commas : List ℕ → List (List ℕ) → List ℕ
joined_by_commas none [] = none
joined_by_commas none (text ∷ texts) = join_with_byte 44 (text ∷ texts)

-- a name and what it is set to, if it is set
abbrev pub field : {X : Type 0} → List ℕ → (X → List ℕ) → Option X → List (List ℕ)
field name text None = []
field name text (Some value) = (name ++ (codes "=" ++ text value)) ∷ []

-- an option and its argument, if it is given
abbrev pub option_words : List ℕ → (ℕ → List ℕ) → Option ℕ → List (List ℕ)
option_words name text None = []
option_words name text (Some value) = name ∷ text value ∷ []

-- words that follow others, each with the space before it
abbrev pub spaced : List (List ℕ) → List ℕ
spaced = flat_map (λ word. 32 ∷ word)
