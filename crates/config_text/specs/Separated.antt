-- Lists as they are written: what stands before each text.
use Rattle.std.specs.Prelude.{ℕ, ◌≡◌, List, [], ◌∷◌, ◌++◌}
use Rattle.std.specs.List.{flat_map}

-- texts, the first after this byte, each other after a comma
abbrev pub separated_texts : ℕ → List (List ℕ) → List ℕ
separated_texts before [] = []
separated_texts before (text ∷ texts) = (before ∷ text) ++ flat_map (λ t. 44 ∷ t) texts

-- what stands before the text that would be next
abbrev pub separator_after : ℕ → List (List ℕ) → ℕ
separator_after before [] = before
separator_after before (text ∷ texts) = 44

-- these texts were written after a line, and this byte stands before the next one
pub record AreTextsAdded (before : ℕ) (old : List ℕ) (texts : List (List ℕ)) (next : ℕ) (new : List ℕ) : Type 0 where
  pub line : new ≡ old ++ separated_texts before texts
  pub separator : next ≡ separator_after before texts
