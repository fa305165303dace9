-- Where a text goes wrong.
use Rattle.std.specs.Prelude.{ℕ, ◌≡◌, ◌⊎◌, List, [], ◌∷◌, ◌++◌, length}
use Rattle.merlin_base.specs.Lexemes.{Lacks}

-- some text of the form goes on from this one
abbrev pub Begins : {V : Type 0} → (V → List ℕ) → (V → Type 0) → List ℕ → Type 0
Begins {V} text_of Is text = (value : V) × Is value × (more : List ℕ) × (text_of value ≡ text ++ more)

abbrev pub IsWholeLines : List ℕ → Type 0
IsWholeLines text = (text ≡ []) ⊎ ((front : List ℕ) × (text ≡ front ++ 10 ∷ []))

-- The whole lines before a place begin a text of the form, and with the next line they begin none. Where no whole line is left the text
-- itself isn't of the form, so that lines are missing or the last one is unfinished.
pub record IsFirstWrongLine {V : Type 0} (text_of : V → List ℕ) (Is : V → Type 0) (text : List ℕ) (place : ℕ) : Type 0 where
  pub before : List ℕ
  pub after : List ℕ
  pub splits : text ≡ before ++ after
  pub at : length before ≡ place
  pub lines : IsWholeLines before
  pub begins : Begins text_of Is before
  pub wrong : (line more : List ℕ) → Lacks 10 line → after ≡ line ++ 10 ∷ more → ¬ Begins text_of Is (before ++ (line ++ 10 ∷ []))
  pub none : (value : V) → Is value → ¬ (text ≡ text_of value)

-- The same for a part of a text behind which anything may stand; the place is told by what is left.
pub record GoesWrong {V : Type 0} (text_of : V → List ℕ) (Is : V → Type 0) (text : List ℕ) (left : ℕ) : Type 0 where
  pub before : List ℕ
  pub after : List ℕ
  pub splits : text ≡ before ++ after
  pub at : length after ≡ left
  pub lines : IsWholeLines before
  pub begins : (value : V) × Is value × (more : List ℕ) × (text_of value ≡ before ++ more)
  pub wrong : (line more : List ℕ) → Lacks 10 line → after ≡ line ++ 10 ∷ more → (value : V) (x y : List ℕ) → Is value → ¬ (text_of value ++ x ≡ (before ++ (line ++ 10 ∷ [])) ++ y)
  pub none : (value : V) (x : List ℕ) → Is value → ¬ (text_of value ++ x ≡ text)
