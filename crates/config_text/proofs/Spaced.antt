-- Words that were written one after another, each after a space, as a text from the left.
use Rattle.std.proofs.Common.{◌≡◌, ◌++◌, ◌∷◌, ℕ, List, [], append_assoc, ◌∙◌, ap}

pub two_words : (a b c : List ℕ) → (a ++ 32 ∷ b) ++ 32 ∷ c ≡ a ++ 32 ∷ (b ++ 32 ∷ c)
two_words a b c = append_assoc a (32 ∷ b) (32 ∷ c)

pub five_words : (a b c d e : List ℕ) → (((a ++ 32 ∷ b) ++ 32 ∷ c) ++ 32 ∷ d) ++ 32 ∷ e ≡ a ++ 32 ∷ (b ++ 32 ∷ (c ++ 32 ∷ (d ++ 32 ∷ e)))
five_words a b c d e = two_words ((a ++ 32 ∷ b) ++ 32 ∷ c) d e ∙ two_words (a ++ 32 ∷ b) c (d ++ 32 ∷ e) ∙ two_words a b (c ++ 32 ∷ (d ++ 32 ∷ e))

-- of the fourth word the space was written apart
pub eight_words : (a b c d e f g h : List ℕ) →
    ((((((((a ++ 32 ∷ b) ++ 32 ∷ c) ++ 32 ∷ []) ++ d) ++ 32 ∷ e) ++ 32 ∷ f) ++ 32 ∷ g) ++ 32 ∷ h)
    ≡ a ++ 32 ∷ (b ++ 32 ∷ (c ++ 32 ∷ (d ++ 32 ∷ (e ++ 32 ∷ (f ++ 32 ∷ (g ++ 32 ∷ h))))))
eight_words a b c d e f g h =
    ap (λ t. (((t ++ 32 ∷ e) ++ 32 ∷ f) ++ 32 ∷ g) ++ 32 ∷ h) (append_assoc ((a ++ 32 ∷ b) ++ 32 ∷ c) (32 ∷ []) d)
    ∙ five_words ((a ++ 32 ∷ b) ++ 32 ∷ c ++ 32 ∷ d) e f g h
    ∙ five_words a b c d (e ++ 32 ∷ (f ++ 32 ∷ (g ++ 32 ∷ h)))
